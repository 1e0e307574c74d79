use Rattle.rb_answers.proofs.Lists.{left}
use Rattle.rb_answers.proofs.Searching.{Measuring}
use Rattle.rb_answers.proofs.rows.room_after_rows.Given as goal

abbrev pub invariant-rows : goal.invariant-rows
invariant-rows l = Measuring l.list l.sought l.registry l.stamp l.cursor l.fn.room l.left l.fn.meter l.meter

abbrev pub decreases-rows : goal.decreases-rows
decreases-rows l = left l.registry l.stamp l.cursor
