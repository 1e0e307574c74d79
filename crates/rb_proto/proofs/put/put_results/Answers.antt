use Rattle.rb_answers.proofs.Lists.{rows_result}
use Rattle.rb_proto.specs.Showing.{shown_in}
use Rattle.rb_proto.proofs.put.put_results.Goals as goal

pub returns-in-Rows-clause-puts : goal.returns-in-Rows-clause-puts
returns-in-Rows-clause-puts c =
    rw (rows_result (shown_in c.args.books.now) c.in-Rows.list c.args.results.now c.in-Rows.is) c.put_rows.ensures.puts
