use Rattle.std.proofs.Common.{◌≡◌, ◌+◌, ◌*◌, ◌≤◌, length}
use Rattle.std.specs.List.{list_any}
use Rattle.std.specs.Map.{values_of}
use Rattle.rb_xdr.specs.Places.{to_come}
use Rattle.rb_registry.specs.Order.{AreInOrder, count_own}
use Rattle.rb_registry.specs.Versions.{versions_in, is_own_version}
use Rattle.rb_registry.proofs.versions.own_after.Given as goal

-- the rows that were passed are own rows of other versions
abbrev pub invariant-rows : goal.invariant-rows
invariant-rows l = record {
  rest : versions_in l.prog l.vers (to_come l.slots.entries l.place) ≡ versions_in l.prog l.vers (to_come l.slots.entries l.fn.start);
  own : list_any (is_own_version l.prog l.vers) (values_of (to_come l.slots.entries l.place)) ≡ list_any (is_own_version l.prog l.vers) (values_of (to_come l.slots.entries l.fn.start));
  ordered : AreInOrder 0 (to_come l.slots.entries l.place);
  tie : l.meter.tie ≡ l.fn.meter.tie;
  rises : l.fn.meter.steps ≤ l.meter.steps;
  steps : l.meter.steps + 2 * count_own (to_come l.slots.entries l.place) ≤ l.fn.meter.steps + 24;
}

abbrev pub decreases-rows : goal.decreases-rows
decreases-rows l = length (to_come l.slots.entries l.place)
