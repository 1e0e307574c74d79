use Rattle.std.proofs.Common.{◌-◌, length}
use Rattle.rb_registry.specs.Registry.{rows_passed}
use Rattle.rb_core.specs.Looks.{rows_held, rows_shown}
use Rattle.rb_engine.proofs.Walks.{Writing}
use Rattle.rb_engine.proofs.writing.write_rows.Given as goal

abbrev pub invariant-rows : goal.invariant-rows
invariant-rows g l = Writing l.fn.core l.core l.cursor (g.W.Write.contents l.fn.writer) (g.W.Write.contents l.writer)

-- the rows that are yet to be looked at
abbrev pub decreases-rows : goal.decreases-rows
decreases-rows g l = length (rows_shown l.core.core) - rows_passed (rows_held l.core.core) (rows_held l.core.core).stamp l.cursor
