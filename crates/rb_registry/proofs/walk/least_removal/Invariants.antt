use Rattle.std.proofs.Common.{◌≡◌, ◌+◌, ◌*◌, ◌≤◌, length, Some, None}
use Rattle.std.specs.Prelude.{fold}
use Rattle.rb_xdr.specs.Places.{to_come}
use Rattle.rb_registry.specs.Registry.{removals}
use Rattle.rb_registry.specs.Table.{lesser_of}
use Rattle.rb_registry.proofs.walk.least_removal.Given as goal

abbrev pub invariant-rows : goal.invariant-rows
invariant-rows l = record {
  least : fold (λ least number. Some (lesser_of least number)) l.least (removals (to_come l.slots.entries l.place)) ≡ fold (λ least number. Some (lesser_of least number)) None (removals l.slots.entries);
  tie : l.meter.tie ≡ l.fn.meter.tie;
  rises : l.fn.meter.steps ≤ l.meter.steps;
  steps : l.meter.steps + 2 * length (to_come l.slots.entries l.place) ≤ l.fn.meter.steps + 2 * length l.slots.entries;
}

abbrev pub decreases-rows : goal.decreases-rows
decreases-rows l = length (to_come l.slots.entries l.place)
