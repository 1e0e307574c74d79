use Rattle.std.proofs.Common.{◌≡◌, ◌≤◌, ◌&&◌, take}
use Rattle.std.specs.List.{list_any}
use Rattle.rb_address.specs.Netids.{is_netid}
use Rattle.rb_registry.specs.Versions.{is_later_version, first_place}
use Rattle.rb_registry.proofs.Marks.{netids}
use Rattle.rb_registry.proofs.registry.Registry.earliest_after.Given as goal

-- the earliest on the netids that were passed
abbrev pub invariant-places : goal.invariant-places
invariant-places l = record {
  best : l.best ≡ first_place (λ slot. is_later_version l.version.prog l.version.vers l.after slot && list_any (λ n. is_netid slot.row.netid n) (take l.place-index netids)) l.self.entries;
  few : l.place-index ≤ 5;
}
