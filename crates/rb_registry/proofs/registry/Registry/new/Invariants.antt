use Rattle.std.proofs.Common.{◌≡◌, ◌+◌, ◌*◌, ◌≤◌, ◌++◌, length, []}
use Rattle.std.specs.Map.{values_of}
use Rattle.rb_registry.specs.Slots.{slots_from}
use Rattle.rb_registry.specs.Table.{IsTable}
use Rattle.rb_registry.specs.Registry.{table_at, removals}
use Rattle.rb_registry.proofs.registry.Registry.new.Given as goal

abbrev pub invariant-own : goal.invariant-own
invariant-own l = record {
  can_next : (goal.iterator-own).can_next l.row-iterator;
  finite : (goal.iterator-own).is_finite l.row-iterator;
  left : l.yielded ++ l.row-iterator ≡ l.fn.own_rows.items;
  table : IsTable 0 0 l.slots.cap l.held 0 l.slots.entries l.slots.tie l.index;
  slots : values_of l.slots.entries ≡ slots_from 0 l.yielded [];
  dead : removals l.slots.entries ≡ [];
  counted : length (values_of (table_at 0 l.slots.entries)) + length (removals l.slots.entries) ≡ length l.slots.entries;
  count : length l.slots.entries ≡ length l.yielded;
  rows : values_of (table_at 0 l.slots.entries) ≡ l.yielded;
  cap : l.slots.cap ≡ l.fn.cap;
  tie : l.slots.tie ≡ l.fn.meter.tie;
  meter : l.meter.tie ≡ l.fn.meter.tie;
  rises : l.fn.meter.steps ≤ l.meter.steps;
  steps : l.meter.steps ≤ l.fn.meter.steps + 18 * length l.yielded;
}
