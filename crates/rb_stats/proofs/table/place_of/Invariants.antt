use Rattle.std.proofs.Common.{◌≡◌, ◌+◌, ◌*◌, ◌≤◌, length}
use Rattle.std.specs.Prelude.{find}
use Rattle.std.specs.Map.{values_of}
use Rattle.rb_xdr.specs.Places.{to_come}
use Rattle.rb_stats.specs.Statistics.{info_of}
use Rattle.rb_stats.specs.Table.{items_in, is_item}
use Rattle.rb_stats.proofs.table.place_of.Given as goal

abbrev pub invariant-items : goal.invariant-items
invariant-items l = record {
  found : find (λ e. is_item l.key e.1) (to_come l.items.entries l.place) ≡ find (λ e. is_item l.key e.1) l.items.entries;
  info : l.info ≡ info_of l.key.proc;
  count : l.count + length (items_in l.key.version (info_of l.key.proc) (values_of (to_come l.items.entries l.place))) ≡ length (items_in l.key.version (info_of l.key.proc) (values_of l.items.entries));
  tie : l.meter.tie ≡ l.fn.meter.tie;
  rises : l.fn.meter.steps ≤ l.meter.steps;
  steps : l.meter.steps + 2 * length (to_come l.items.entries l.place) ≤ l.fn.meter.steps + 2 * length l.items.entries;
}

abbrev pub decreases-items : goal.decreases-items
decreases-items l = length (to_come l.items.entries l.place)
