use Rattle.rb_answers.proofs.Lists.{left}
use Rattle.rb_answers.proofs.Searching.{Writing}
use Rattle.rb_answers.proofs.rows.write_rows.Given as goal

abbrev pub invariant-rows : goal.invariant-rows
invariant-rows l = Writing l.list l.sought l.registry l.stamp l.cursor l.fn.out l.out l.fn.meter l.meter

abbrev pub decreases-rows : goal.decreases-rows
decreases-rows l = left l.registry l.stamp l.cursor
