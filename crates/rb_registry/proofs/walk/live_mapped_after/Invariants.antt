use Rattle.std.proofs.Common.{◌≡◌, ◌+◌, ◌*◌, ◌≤◌, length}
use Rattle.std.specs.Prelude.{IfSome, IsSome}
use Rattle.rb_xdr.specs.Pool.{value_at}
use Rattle.rb_xdr.specs.Places.{to_come}
use Rattle.rb_registry.specs.Registry.{table_at}
use Rattle.rb_registry.proofs.walk.live_mapped_after.Given as goal

abbrev pub invariant-rows : goal.invariant-rows
invariant-rows l = record {
  rest : table_at l.stamp (to_come l.table.entries l.place) ≡ table_at l.stamp (to_come l.table.entries l.fn.start);
  there : IfSome l.place (λ key. IsSome (value_at l.table.entries key));
  tie : l.meter.tie ≡ l.fn.meter.tie;
  rises : l.fn.meter.steps ≤ l.meter.steps;
  steps : l.meter.steps + 2 * length (to_come l.table.entries l.place) ≤ l.fn.meter.steps + 2 * length (to_come l.table.entries l.fn.start);
}

abbrev pub decreases-rows : goal.decreases-rows
decreases-rows l = length (to_come l.table.entries l.place)
