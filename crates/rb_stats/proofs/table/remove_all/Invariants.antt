use Rattle.std.proofs.Common.{◌≡◌, ◌+◌, ◌*◌, ◌≤◌, length}
use Rattle.rb_stats.proofs.table.remove_all.Given as goal

abbrev pub invariant-items : goal.invariant-items
invariant-items l = record {
  items : l.items ≡ record l.fn.items { entries = l.items.entries };
  tie : l.meter.tie ≡ l.fn.meter.tie;
  rises : l.fn.meter.steps ≤ l.meter.steps;
  steps : l.meter.steps + 2 * length l.items.entries ≡ l.fn.meter.steps + 2 * length l.fn.items.entries;
}

abbrev pub decreases-items : goal.decreases-items
decreases-items l = length l.items.entries
