use Rattle.std.proofs.Common.{refl, sym, subst, ap, ◌∙◌, arith, ◌≡◌, false}
use Rattle.rb_xdr.specs.Meter.{Meter}
use Rattle.rb_forward.specs.declared.entries.Sought.TheVariants as wanted
use Rattle.rb_forward.specs.StandsFor.{StandsForForwards}
use Rattle.rb_forward.proofs.Stands.{none_sent, one_sent, sent_stands, next_sent, is_there, first_wanted, found_first}
use Rattle.rb_forward.specs.Table.{without_call, is_wanted_slot, is_waiting}
use Rattle.rb_forward.proofs.TableSteps.{its_buffer, fits_in_held, table_sent}
use Rattle.std.specs.Map.{values_of}
use Rattle.rb_forward.specs.declared.entries.Slot.{Slot}
use Rattle.rb_forward.specs.declared.entries.Sought.{Sought}
use Rattle.rb_forward.specs.Forwards.{is_connection}
use Rattle.rb_forward.proofs.Tables.{some_is}
use Rattle.rb_forward.proofs.Callers.{any-changed}
use Rattle.rb_forward.proofs.forwards.Forwards.sent.Goals as goal

pub returns-in_default-clause-there : goal.returns-in_default-clause-there
returns-in_default-clause-there c = λ f h.
    let z = subst (λ t. StandsForForwards t f) (sym c.self.view_is) h in
    rw (none_sent c.self.inside.first_xid c.args.id.number c.self.inside.slots.entries f z.all (sym c.in_default.ensures.key)) (λ b. b, λ b. b)

pub unreachable-requires : goal.unreachable-requires
unreachable-requires c =
    is_there (wanted.Unsent c.args.id.number) c.self.inside.slots.entries c.in-Some.key c.self.invariant.distinct (sym c.in-Some.ensures.key) (sym c.in_default-get_mut.ensures.value)

pub empty-requires : goal.empty-requires
empty-requires c =
    let b = its_buffer c.self.inside.slots c.self.inside.spare c.self.inside.cap c.self.inside.held c.self.invariant (wanted.Unsent c.args.id.number) c.in-Some.key c.in-Some-get_mut.slot.now (sym c.in-Some.ensures.key) (sym c.in-Some-get_mut.ensures.value) in
    ap (λ (m : Meter). m.tie) c.get_mut.ensures.cost ∙ c.wanted_key.ensures.cost.tie ∙ c.requires ∙ sym (ap (λ t. t.tie) c.self.view_is) ∙ sym b.tie

pub overflow_sub-self : goal.overflow_sub-self
overflow_sub-self c =
    let fits = fits_in_held c.self.inside.slots c.self.inside.spare c.self.inside.cap c.self.inside.held c.self.invariant (wanted.Unsent c.args.id.number) c.in-Some.key c.in-Some-get_mut.slot.now (sym c.in-Some.ensures.key) (sym c.in-Some-get_mut.ensures.value) in
    omega (arith, fits, c.empty.ensures.count)

pub invariant_of-self : goal.invariant_of-self
invariant_of-self c =
    rw (c.empty.ensures.sent, c.empty.ensures.count)
    (table_sent c.self.inside.slots c.self.inside.spare c.self.inside.cap c.self.inside.held c.self.invariant (wanted.Unsent c.args.id.number) c.in-Some.key c.in-Some-get_mut.slot.now (sym c.in-Some.ensures.key) (sym c.in-Some-get_mut.ensures.value))

pub returns-clause-there : goal.returns-clause-there
returns-clause-there c = λ f h.
    let z = subst (λ t. StandsForForwards t f) (sym c.self.view_is) h in
    let there = one_sent c.self.inside.first_xid c.args.id.number c.self.inside.slots.entries f z.all c.in-Some.key c.in-Some-get_mut.slot.now c.self.invariant.distinct (sym c.in-Some.ensures.key) (sym c.in-Some-get_mut.ensures.value) in
    (λ ok. there, λ there. refl)

pub returns-clause-sent : goal.returns-clause-sent
returns-clause-sent c = λ f h.
    let z = subst (λ t. StandsForForwards t f) (sym c.self.view_is) h in
    rw c.empty.ensures.sent (record {
      all = sent_stands c.self.inside.first_xid c.args.id.number c.self.inside.slots.entries f z.all c.in-Some.key c.in-Some-get_mut.slot.now c.self.invariant.distinct (sym c.in-Some.ensures.key) (sym c.in-Some-get_mut.ensures.value);
      next = next_sent c.args.id.number f ∙ z.next;
    })

pub returns-clause-waiting : goal.returns-clause-waiting
returns-clause-waiting c = λ id h.
    let sought : Sought = wanted.Unsent c.args.id.number in
    let first = first_wanted sought c.self.inside.slots.entries c.in-Some.key c.self.invariant.distinct (sym c.in-Some.ensures.key) in
    let found = found_first sought c.self.inside.slots.entries c.in-Some.key c.in-Some-get_mut.slot.now c.self.invariant.distinct (sym c.in-Some.ensures.key) (sym c.in-Some-get_mut.ensures.value) in
    rw (c.empty.ensures.sent, first.changed (without_call c.in-Some-get_mut.slot.now))
    (any-changed (λ (s : Slot). is_connection id s.forward.caller) (is_wanted_slot sought) (without_call c.in-Some-get_mut.slot.now) (values_of c.self.inside.slots.entries)
    (λ a is. ap (λ (s : Slot). is_connection id s.forward.caller) (some_is c.in-Some-get_mut.slot.now a (sym found ∙ is)))
    ∙ subst (λ t. is_waiting id (values_of t.slots) ≡ false) (sym c.self.view_is) h)
