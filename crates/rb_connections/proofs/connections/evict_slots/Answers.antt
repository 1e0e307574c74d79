use Rattle.std.proofs.Common.{◌≡◌, refl, sym, ap, ◌∙◌, arith, ◌+◌, length, Some, None, true, false}
use Rattle.rb_xdr.specs.Meter.{Meter}
use Rattle.rb_xdr.specs.Pool.{value_at}
use Rattle.rb_xdr.specs.Places.{to_come, behind}
use Rattle.rb_registry.proofs.Marking.{is_there, behind-with, marked_there, passed_by, all_marked_there}
use Rattle.rb_connections.specs.Listings.{began_before_earliest, stamp_of_slot}
use Rattle.rb_connections.proofs.Evicting.{marked_is, not_marked}
use Rattle.rb_connections.proofs.connections.evict_slots.Goals as goal

pub slots-init : goal.slots-init
slots-init c = record {
  marking = (false, record { distinct = c.requires.distinct; kept = refl; any = refl });
  cap = refl;
  memory = refl;
  tie = refl;
  meter = refl;
  rises = omega arith;
  steps = omega arith;
}

pub unreachable-requires : goal.unreachable-requires
unreachable-requires c =
    let there : value_at c.slots.slots.entries c.in-Some.key ≡ Some c.in-Some.slot.now = is_there _ _ _ _ _ _ c.slots.invariant.marking.1 c.in-Some.key _ c.in-Some.ensures.next in
    let none : None ≡ value_at c.slots.slots.entries c.in-Some.key = c.in_default-get_mut.ensures.value in
    let clash : None ≡ Some c.in-Some.slot.now = none ∙ there in
    cc

pub slots-smaller-in-Some-get_mut : goal.slots-smaller-in-Some-get_mut
slots-smaller-in-Some-get_mut c =
    let fewer : length (to_come c.slots.slots.entries c.slots.place) ≡ length (behind c.slots.slots.entries c.in-Some.key) + 1 =
    ap (λ es. length es) c.in-Some.ensures.next ∙ omega arith in
    rw (behind-with c.slots.slots.entries c.in-Some.key _) (omega (arith, fewer))

pub slots-preserved-in-Some-get_mut : goal.slots-preserved-in-Some-get_mut
slots-preserved-in-Some-get_mut c =
    let there : value_at c.slots.slots.entries c.in-Some.key ≡ Some c.in-Some.slot.now = is_there _ _ _ _ _ _ c.slots.invariant.marking.1 c.in-Some.key _ c.in-Some.ensures.next in
    let got : Some c.in-Some-get_mut.reader.now ≡ value_at c.slots.slots.entries c.in-Some.key = c.in-Some-get_mut.ensures.value in
    let whole : Some c.in-Some-get_mut.reader.now ≡ Some c.in-Some.slot.now = got ∙ there in
    let same : c.in-Some-get_mut.reader.now ≡ c.in-Some.slot.now = cc whole in
    let early : began_before_earliest c.args.earliest (stamp_of_slot c.in-Some.slot.now) ≡ true = ap (began_before_earliest c.args.earliest) (sym c.stamp.ensures) ∙ sym c.began_before_earliest.ensures ∙ c.if-began_before_earliest.true in
    let fewer : length (to_come c.slots.slots.entries c.slots.place) ≡ length (behind c.slots.slots.entries c.in-Some.key) + 1 =
    ap (λ es. length es) c.in-Some.ensures.next ∙ omega arith in
    let looked : c.entry_after.new.meter.steps ≡ c.slots.meter.steps + 2 = ap (λ (m : Meter). m.steps) c.in-Some.ensures.cost in
    let paid : c.get_mut.new.meter.steps ≡ c.entry_after.new.meter.steps + 1 = ap (λ (m : Meter). m.steps) c.get_mut.ensures.cost in
    let tie : c.get_mut.new.meter.tie ≡ c.entry_after.new.meter.tie = ap (λ (m : Meter). m.tie) c.get_mut.ensures.cost in
    record {
      marking = (true, marked_there _ _ _ _ _ _ c.slots.invariant.marking.1 c.in-Some.key _ c.in-Some.ensures.next early _ (marked_is c.args.earliest c.in-Some.slot.now c.in-Some-get_mut.reader.now same early));
      cap = c.slots.invariant.cap;
      memory = c.slots.invariant.memory;
      tie = c.slots.invariant.tie;
      meter = tie ∙ ap (λ (m : Meter). m.tie) c.in-Some.ensures.cost ∙ c.slots.invariant.meter;
      rises = omega (arith, c.slots.invariant.rises, looked, paid);
      steps = rw (behind-with c.slots.slots.entries c.in-Some.key _) (omega (arith, fewer, looked, paid, c.slots.invariant.steps));
    }

pub slots-preserved : goal.slots-preserved
slots-preserved c =
    let early : began_before_earliest c.args.earliest (stamp_of_slot c.in-Some.slot.now) ≡ false = ap (began_before_earliest c.args.earliest) (sym c.stamp.ensures) ∙ sym c.began_before_earliest.ensures ∙ c.if-began_before_earliest.false in
    let fewer : length (to_come c.slots.slots.entries c.slots.place) ≡ length (behind c.slots.slots.entries c.in-Some.key) + 1 =
    ap (λ es. length es) c.in-Some.ensures.next ∙ omega arith in
    let looked : c.entry_after.new.meter.steps ≡ c.slots.meter.steps + 2 = ap (λ (m : Meter). m.steps) c.in-Some.ensures.cost in
    record {
      marking = (c.slots.invariant.marking.0, passed_by _ _ _ _ _ _ c.slots.invariant.marking.1 c.in-Some.key _ c.in-Some.ensures.next early (not_marked _ _ early));
      cap = c.slots.invariant.cap;
      memory = c.slots.invariant.memory;
      tie = c.slots.invariant.tie;
      meter = ap (λ (m : Meter). m.tie) c.in-Some.ensures.cost ∙ c.slots.invariant.meter;
      rises = omega (arith, c.slots.invariant.rises, looked);
      steps = omega (arith, fewer, looked, c.slots.invariant.steps);
    }

pub returns-clause-evicted : goal.returns-clause-evicted
returns-clause-evicted c =
    let all = all_marked_there _ _ _ _ _ _ c.slots.invariant.marking.1 c.in_default.ensures.next in
    rw (← all, ← c.slots.invariant.cap, ← c.slots.invariant.memory, ← c.slots.invariant.tie) refl
