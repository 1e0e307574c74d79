use Rattle.std.proofs.Common.{◌≡◌, ℕ, ◌<◌, length, List, Option, take, get_or, sym, ap, ◌∙◌, arith}
use Rattle.std.proofs.lemmas.List.{take_more, take_all}
use Rattle.rb_address.specs.declared.netid.Netid.{Netid}
use Rattle.rb_address.specs.declared.netid.Netid.TheVariants.{Tcp}
use Rattle.rb_registry.specs.Order.{AreInOrder}
use Rattle.rb_registry.specs.Versions.{first_place, is_later_on, place_on, later_than}
use Rattle.rb_registry.proofs.Marks.{netids}
use Rattle.rb_registry.proofs.NextOf.{place_later, found_on, on_netids, none_yet, one_netid_more, all_netids}
use Rattle.rb_registry.proofs.registry.Registry.earliest_after.Goals as goal

pub places-init : goal.places-init
places-init c = record {
  best = rw c.none-best.ensures (none_yet c.args.version.now.prog c.args.version.now.vers c.args.after c.args.self.now.entries);
  few = omega arith;
}

pub places-preserved : goal.places-preserved
places-preserved c =
    let size : length c.args.version.now.places ≡ length netids = ap (λ (places : List (Option (ℕ × ℕ))). length places) c.requires.places in
    let within : c.places.place-index < length netids = omega (arith, size, c.places-test.true) in
    let netid : Netid = get_or netids c.places.place-index Tcp in
    let ordered : AreInOrder 0 c.args.self.now.entries = rw (← c.self.view_is) c.self.invariant.ordered in
    let is_later : later_than c.args.after (place_on c.args.version.now.prog c.args.version.now.vers c.args.self.now.entries netid) ≡ first_place (is_later_on c.args.version.now.prog c.args.version.now.vers c.args.after netid) c.args.self.now.entries =
    rw (← c.self.view_is) (place_later c.args.version.now.prog c.args.version.now.vers c.args.after netid c.requires.small c.self.inside.slots.entries c.self.invariant.indexed.ranked c.self.invariant.distinct c.self.invariant.indexed.distinct) in
    let found = found_on c.args.version.now c.args.self.now.entries c.places.place-index c.place-item.result c.requires.places within in
    let there : later_than c.args.after (get_or c.args.version.now.places c.places.place-index c.place-item.result) ≡ first_place (is_later_on c.args.version.now.prog c.args.version.now.vers c.args.after netid) c.args.self.now.entries =
    ap (later_than c.args.after) found ∙ is_later in
    let longer = take_more netids c.places.place-index Tcp within in
    let more = one_netid_more c.args.version.now.prog c.args.version.now.vers c.args.after c.args.self.now.entries (take c.places.place-index netids) netid c.places.best _ ordered c.places.invariant.best there in
    record {
      best = c.earlier_after-best.ensures
          ∙ more
          ∙ ap (λ (ns : List Netid). first_place (on_netids c.args.version.now.prog c.args.version.now.vers c.args.after ns) c.args.self.now.entries) (sym longer);
      few = omega (arith, within);
    }

pub returns : goal.returns
returns c =
    let size : length c.args.version.now.places ≡ length netids = ap (λ (places : List (Option (ℕ × ℕ))). length places) c.requires.places in
    let whole = take_all c.places.place-index netids (omega (arith, size, c.places-test.false)) in
    record {
      key = c.key.ensures
          ∙ all_netids c.args.version.now.prog c.args.version.now.vers c.args.after c.args.self.now.entries (take c.places.place-index netids) c.places.best whole c.places.invariant.best;
    }
