use Rattle.std.proofs.Common.{Option, sym, subst, ap, ◌∙◌, ◌≡◌, false}
use Rattle.std.specs.Prelude.{All}
use Rattle.std.specs.Map.{values_of}
use Rattle.rb_xdr.specs.Meter.{Meter}
use Rattle.rb_forward.specs.declared.types.Ended.{Ended}
use Rattle.rb_forward.specs.Forwards.{Forwards, is_connection}
use Rattle.rb_forward.specs.StandsFor.{StandsForForwards}
use Rattle.rb_forward.specs.Table.{IsSpare, is_wanted_slot, is_waiting}
use Rattle.rb_forward.proofs.Stands.{nothing_ends, all_stand, none_taken_out, first_wanted, found_first, one_ends, others_stand, is_there}
use Rattle.rb_forward.proofs.TableSteps.{its_buffer, fits_in_held, table_ended}
use Rattle.rb_forward.specs.declared.entries.Slot.{Slot}
use Rattle.rb_forward.proofs.Callers.{alone-without, any-without}
use Rattle.rb_forward.proofs.forwards.Forwards.end.Goals as goal

pub returns-in_default-clause-ended : goal.returns-in_default-clause-ended
returns-in_default-clause-ended c = λ f h.
    let z = subst (λ t. StandsForForwards t f) (sym c.self.view_is) h in
    rw (← c.self.view_is)
    (ap (λ (r : Option Ended × Forwards). r.0) (sym (nothing_ends c.self.inside.first_xid c.args.wanted c.args.outcome c.self.inside.slots.entries f z.all (sym c.in_default.ensures.key))))

pub returns-in_default-clause-left : goal.returns-in_default-clause-left
returns-in_default-clause-left c = λ f h.
    let z = subst (λ t. StandsForForwards t f) (sym c.self.view_is) h in
    rw (← c.self.view_is) (record {
      all = all_stand c.self.inside.first_xid c.args.wanted c.args.outcome c.self.inside.slots.entries f z.all (sym c.in_default.ensures.key);
      next = z.next;
    })

pub returns-in_default-clause-slots : goal.returns-in_default-clause-slots
returns-in_default-clause-slots c = rw (← c.self.view_is) (none_taken_out c.args.wanted c.self.inside.slots.entries (sym c.in_default.ensures.key))

pub unreachable-requires : goal.unreachable-requires
unreachable-requires c =
    is_there c.args.wanted c.self.inside.slots.entries c.in-Some.key c.self.invariant.distinct (sym c.in-Some.ensures.key) (sym c.in_default-remove.ensures.value)

pub len-requires : goal.len-requires
len-requires c =
    let b = its_buffer c.self.inside.slots c.self.inside.spare c.self.inside.cap c.self.inside.held c.self.invariant c.args.wanted c.in-Some.key c.in-Some-remove.slot (sym c.in-Some.ensures.key) (sym c.in-Some-remove.ensures.value) in
    ap (λ (m : Meter). m.tie) c.remove.ensures.cost ∙ c.wanted_key.ensures.cost.tie ∙ c.requires ∙ sym (ap (λ t. t.tie) c.self.view_is) ∙ sym b.tie

pub overflow_sub-self : goal.overflow_sub-self
overflow_sub-self c =
    rw c.len.ensures.len
    (fits_in_held c.self.inside.slots c.self.inside.spare c.self.inside.cap c.self.inside.held c.self.invariant c.args.wanted c.in-Some.key c.in-Some-remove.slot (sym c.in-Some.ensures.key) (sym c.in-Some-remove.ensures.value))

pub put_buffer-requires-clause-made : goal.put_buffer-requires-clause-made
put_buffer-requires-clause-made c =
    rw c.self.invariant.tie
    (its_buffer c.self.inside.slots c.self.inside.spare c.self.inside.cap c.self.inside.held c.self.invariant c.args.wanted c.in-Some.key c.in-Some-remove.slot (sym c.in-Some.ensures.key) (sym c.in-Some-remove.ensures.value))

pub invariant_of-self : goal.invariant_of-self
invariant_of-self c =
    rw (c.remove.ensures.entries, c.len.ensures.len)
    (table_ended c.self.inside.slots c.self.inside.spare c.self.inside.cap c.self.inside.held c.self.invariant c.args.wanted c.in-Some.key c.in-Some-remove.slot (sym c.in-Some.ensures.key) (sym c.in-Some-remove.ensures.value)
    c.put_buffer.new.spare c.put_buffer.ensures.more c.put_buffer.ensures.distinct c.put_buffer.ensures.frame.cap c.put_buffer.ensures.frame.tie
    (subst (λ t. All (IsSpare t) (values_of c.put_buffer.new.spare.entries)) c.self.invariant.tie c.put_buffer.ensures.buffers))

pub returns-clause-ended : goal.returns-clause-ended
returns-clause-ended c = λ f h.
    let z = subst (λ t. StandsForForwards t f) (sym c.self.view_is) h in
    rw (← c.self.view_is)
    (one_ends c.self.inside.first_xid c.args.wanted c.args.outcome c.self.inside.slots.entries f z.all c.in-Some.key c.in-Some-remove.slot c.self.invariant.distinct (sym c.in-Some.ensures.key) (sym c.in-Some-remove.ensures.value))

pub returns-clause-left : goal.returns-clause-left
returns-clause-left c = λ f h.
    let z = subst (λ t. StandsForForwards t f) (sym c.self.view_is) h in
    rw (← c.self.view_is, c.remove.ensures.entries) (record {
      all = others_stand c.self.inside.first_xid c.args.wanted c.args.outcome c.self.inside.slots.entries f z.all c.in-Some.key c.in-Some-remove.slot c.self.invariant.distinct (sym c.in-Some.ensures.key) (sym c.in-Some-remove.ensures.value);
      next = z.next;
    })

pub returns-clause-slots : goal.returns-clause-slots
returns-clause-slots c =
    rw (← c.self.view_is, c.remove.ensures.entries) (first_wanted c.args.wanted c.self.inside.slots.entries c.in-Some.key c.self.invariant.distinct (sym c.in-Some.ensures.key)).taken_out

pub returns-clause-alone : goal.returns-clause-alone
returns-clause-alone c =
    let first = first_wanted c.args.wanted c.self.inside.slots.entries c.in-Some.key c.self.invariant.distinct (sym c.in-Some.ensures.key) in
    rw (c.remove.ensures.entries, first.taken_out)
    (alone-without (is_wanted_slot c.args.wanted) (values_of c.self.inside.slots.entries) c.in-Some-remove.slot c.self.invariant.callers
    (found_first c.args.wanted c.self.inside.slots.entries c.in-Some.key c.in-Some-remove.slot c.self.invariant.distinct (sym c.in-Some.ensures.key) (sym c.in-Some-remove.ensures.value)))

pub returns-clause-waiting : goal.returns-clause-waiting
returns-clause-waiting c = λ id h.
    let first = first_wanted c.args.wanted c.self.inside.slots.entries c.in-Some.key c.self.invariant.distinct (sym c.in-Some.ensures.key) in
    rw (c.remove.ensures.entries, first.taken_out)
    (any-without (λ (s : Slot). is_connection id s.forward.caller) (is_wanted_slot c.args.wanted) (values_of c.self.inside.slots.entries) (subst (λ t. is_waiting id (values_of t.slots) ≡ false) (sym c.self.view_is) h))
