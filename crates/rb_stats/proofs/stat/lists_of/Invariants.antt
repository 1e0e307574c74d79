use Rattle.std.proofs.Common.{◌≡◌, ◌+◌, ◌*◌, ◌≤◌, ◌++◌, length}
use Rattle.std.specs.Map.{values_of}
use Rattle.rb_xdr.specs.Places.{to_come}
use Rattle.rb_stats.specs.Table.{items_in}
use Rattle.rb_stats.specs.declared.key.Info.TheVariants.{Addr, Rmt}
use Rattle.rb_stats.proofs.stat.lists_of.Given as goal

abbrev pub invariant-items : goal.invariant-items
invariant-items l = record {
  addrinfo : l.addrinfo.items ++ items_in l.version Addr (values_of (to_come l.items.entries l.place)) ≡ items_in l.version Addr (values_of l.items.entries);
  rmtinfo : l.rmtinfo.items ++ items_in l.version Rmt (values_of (to_come l.items.entries l.place)) ≡ items_in l.version Rmt (values_of l.items.entries);
  tie : l.meter.tie ≡ l.fn.meter.tie;
  rises : l.fn.meter.steps ≤ l.meter.steps;
  steps : l.meter.steps + 2 * length (to_come l.items.entries l.place) ≤ l.fn.meter.steps + 2 * length l.items.entries;
}

abbrev pub decreases-items : goal.decreases-items
decreases-items l = length (to_come l.items.entries l.place)
