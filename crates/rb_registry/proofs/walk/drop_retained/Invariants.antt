use Rattle.std.proofs.Common.{◌≡◌, ◌+◌, ◌*◌, ◌≤◌, length}
use Rattle.std.specs.Map.{values_of}
use Rattle.rb_xdr.specs.Places.{to_come}
use Rattle.rb_registry.specs.Slots.{is_dropped, held_in}
use Rattle.rb_registry.specs.Registry.{removals}
use Rattle.rb_registry.proofs.Removing.{Removing}
use Rattle.rb_registry.proofs.walk.drop_retained.Given as goal

abbrev pub invariant-rows : goal.invariant-rows
invariant-rows l = record {
  removing : Removing (is_dropped l.oldest) l.fn.slots.entries l.slots.entries l.place;
  rows : l.rows + length (removals l.slots.entries) ≡ length (removals l.fn.slots.entries);
  bytes : l.bytes + held_in (values_of l.slots.entries) ≡ held_in (values_of l.fn.slots.entries);
  cap : l.slots.cap ≡ l.fn.slots.cap;
  memory : l.slots.memory ≡ l.fn.slots.memory;
  tie : l.slots.tie ≡ l.fn.slots.tie;
  meter : l.meter.tie ≡ l.fn.meter.tie;
  rises : l.fn.meter.steps ≤ l.meter.steps;
  steps : l.meter.steps + 3 * length (to_come l.slots.entries l.place) ≤ l.fn.meter.steps + 3 * length l.fn.slots.entries;
}

abbrev pub decreases-rows : goal.decreases-rows
decreases-rows l = length (to_come l.slots.entries l.place)
