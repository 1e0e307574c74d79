use Rattle.std.proofs.Common.{◌-◌, length}
use Rattle.rb_core.specs.Looks.{rows_shown}
use Rattle.rb_engine.proofs.Rows.{Counting, passed}
use Rattle.rb_engine.proofs.engine.count_rows.Given as goal

abbrev pub invariant-rows : goal.invariant-rows
invariant-rows l = Counting l.fn.core l.core l.cursor l.count

-- the rows that are yet to be counted
abbrev pub decreases-rows : goal.decreases-rows
decreases-rows l = length (rows_shown l.core.core) - passed l.core.core l.cursor
