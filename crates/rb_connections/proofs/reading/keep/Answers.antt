use Rattle.rb_connections.proofs.KeptArguments.{kept_more}
use Rattle.rb_connections.proofs.reading.keep.Goals as goal

pub returns-clause-kept : goal.returns-clause-kept
returns-clause-kept c = λ bytes h. kept_more c.args.kept.now c.extend.new.self c.args.room c.min-count.result bytes c.args.arguments.now c.extend.result c.min-count.ensures h c.extend.ensures.puts
