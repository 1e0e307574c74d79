use Rattle.std.proofs.Common.{◌≡◌, ◌+◌, ◌*◌, ◌≤◌, length, Bool}
use Rattle.rb_xdr.specs.Places.{to_come}
use Rattle.rb_registry.proofs.Marking.{Marking}
use Rattle.rb_connections.specs.declared.slot.Slot.{Slot}
use Rattle.rb_connections.specs.Listings.{began_before_earliest, stamp_of_slot, evicted_slot}
use Rattle.rb_connections.proofs.connections.evict_slots.Given as goal

abbrev pub invariant-slots : goal.invariant-slots
invariant-slots l = record {
  marking : (some : Bool) × Marking (λ (s : Slot). began_before_earliest l.earliest (stamp_of_slot s)) (evicted_slot l.earliest) l.fn.slots.entries l.slots.entries l.place some;
  cap : l.slots.cap ≡ l.fn.slots.cap;
  memory : l.slots.memory ≡ l.fn.slots.memory;
  tie : l.slots.tie ≡ l.fn.slots.tie;
  meter : l.meter.tie ≡ l.fn.meter.tie;
  rises : l.fn.meter.steps ≤ l.meter.steps;
  steps : l.meter.steps + 3 * length (to_come l.slots.entries l.place) ≤ l.fn.meter.steps + 3 * length l.fn.slots.entries;
}

abbrev pub decreases-slots : goal.decreases-slots
decreases-slots l = length (to_come l.slots.entries l.place)
