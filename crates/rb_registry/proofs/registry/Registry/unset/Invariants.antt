use Rattle.std.proofs.Common.{◌≡◌, ◌+◌, ◌*◌, ◌≤◌, length, take}
use Rattle.std.specs.List.{list_any, count_by}
use Rattle.rb_xdr.specs.Pool.{HasDistinctKeys}
use Rattle.rb_registry.specs.Rows.{is_among}
use Rattle.rb_address.specs.Netids.{is_netid}
use Rattle.rb_registry.specs.Rows.Change.{Removed}
use Rattle.rb_registry.specs.Index.{IsIndexed, IsSameBut, with_marks_where}
use Rattle.rb_registry.specs.Costs.{removal_cost}
use Rattle.rb_registry.proofs.Marks.{netids}
use Rattle.rb_registry.proofs.registry.Registry.unset.Given as goal

-- the rows are marked on the netids that were passed
abbrev pub invariant-netids : goal.invariant-netids
invariant-netids l = record {
  marks : l.slots ≡ with_marks_where (λ n. list_any (λ other. is_netid n other) (take l.netid-index netids)) l.stamp (Removed l.fn.prog l.fn.vers l.fn.which l.fn.owner) l.initial.slots;
  distinct : HasDistinctKeys l.slots.entries;
  indexed : IsIndexed l.slots.entries l.index.entries;
  removed : l.removed + length l.index.entries ≡ length l.initial.index.entries;
  few : l.removed ≤ l.netid-index;
  index : IsSameBut l.initial.index l.index;
  meter : l.meter.tie ≡ l.fn.meter.tie;
  rises : l.fn.meter.steps ≤ l.meter.steps;
  steps : l.meter.steps ≤ l.fn.meter.steps + count_by (λ n. is_among n l.fn.which) (take l.netid-index netids) * removal_cost (length l.initial.index.entries);
}
