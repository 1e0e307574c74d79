use Rattle.std.proofs.Common.{◌+◌, ◌<◌, length, refl, sym, ap, subst, ◌∙◌, arith, ◌≡◌, false}
use Rattle.std.specs.Prelude.{All}
use Rattle.std.specs.Map.{values_of}
use Rattle.rb_xdr.specs.Kept.{Kept}
use Rattle.rb_forward.specs.Forwards.{later, is_connection}
use Rattle.rb_forward.specs.StandsFor.{StandsForForwards}
use Rattle.rb_forward.specs.Table.{IsNew, IsSpare, IsBuffer, is_waiting}
use Rattle.rb_forward.proofs.Stands.{as_many, no_place, no_number, place_and_number, stands_new, started_stands, next_started}
use Rattle.rb_forward.proofs.TableSteps.{room_for_call, table_started}
use Rattle.rb_forward.specs.declared.entries.Slot.{Slot}
use Rattle.rb_forward.proofs.Callers.{any-more}
use Rattle.rb_forward.proofs.forwards.Forwards.start.Goals as goal

pub returns-then-len-self-clause-room : goal.returns-then-len-self-clause-room
returns-then-len-self-clause-room c = λ f h.
    let z = subst (λ t. StandsForForwards t f) (sym c.self.view_is) h in
    let many = as_many c.self.inside.first_xid c.self.inside.slots.entries f z.all in
    rw (← c.self.view_is, no_place c.self.inside.cap f (omega (arith, many, c.len.ensures.len, c.if-len-self.true))) (λ b. b, λ b. b)

pub returns-then-self-clause-room : goal.returns-then-self-clause-room
returns-then-self-clause-room c = λ f h.
    let z = subst (λ t. StandsForForwards t f) (sym c.self.view_is) h in
    rw (← c.self.view_is, no_number c.self.inside.cap f (omega (arith, z.next, c.if-self.true))) (λ b. b, λ b. b)

pub overflow_add-self-4 : goal.overflow_add-self-4
overflow_add-self-4 c =
    let free : length c.self.inside.slots.entries < c.self.inside.cap = omega (arith, c.len.ensures.len, c.if-len-self.false) in
    let room = room_for_call c.self.inside.slots c.self.inside.spare c.self.inside.cap c.self.inside.held c.self.invariant (length c.args.args.now) free c.requires.args in
    omega (arith, room)

pub invariant_of-self : goal.invariant_of-self
invariant_of-self c =
    let buffer : IsBuffer c.self.inside.slots.tie c.write_call.new.buffer = record {
      tie = ap (λ (k : Kept). k.tie) c.write_call.ensures.written ∙ c.take_buffer-call.ensures.made.tie ∙ c.self.invariant.tie;
      cap = ap (λ (k : Kept). k.cap) c.write_call.ensures.written ∙ c.take_buffer-call.ensures.made.cap;
      within = rw c.write_call.ensures.count (omega (arith, c.requires.args));
    } in
    table_started c.self.inside.slots c.self.inside.spare c.self.inside.cap c.self.inside.held c.self.invariant (length c.args.args.now) c.add.new.self c.take_buffer-call.new.spare _
    c.add.ensures.last c.add.ensures.more c.add.ensures.distinct c.add.ensures.frame.cap c.add.ensures.frame.tie c.take_buffer-call.ensures.fewer c.take_buffer-call.ensures.distinct
    c.take_buffer-call.ensures.frame.cap c.take_buffer-call.ensures.frame.tie (subst (λ t. All (IsSpare t) (values_of c.take_buffer-call.new.spare.entries)) c.self.invariant.tie c.take_buffer-call.ensures.buffers)
    buffer c.write_call.ensures.count (subst (λ t. IsNew c.args.forward.now.caller (values_of t.slots)) (sym c.self.view_is) c.requires.caller)

pub returns-clause-room : goal.returns-clause-room
returns-clause-room c = λ f h.
    let z = subst (λ t. StandsForForwards t f) (sym c.self.view_is) h in
    let many = as_many c.self.inside.first_xid c.self.inside.slots.entries f z.all in
    let free : length f.all < c.self.inside.cap = omega (arith, many, c.len.ensures.len, c.if-len-self.false) in
    let can = place_and_number c.self.inside.cap f free (omega (arith, z.next, c.if-self.false, c.self.ranges)) in
    rw (← c.self.view_is) (λ ok. can, λ can. refl)

pub returns-clause-ok : goal.returns-clause-ok
unfolding later
returns-clause-ok c = λ f h.
    let z = subst (λ t. StandsForForwards t f) (sym c.self.view_is) h in
    record {
      all = rw c.add.ensures.last
          (started_stands c.self.inside.first_xid (values_of c.self.inside.slots.entries) c.args.clock c.args.forward.now c.args.args.now f _ z.all
          (stands_new c.self.inside.first_xid c.self.inside.last_number c.args.clock c.args.forward.now c.args.args.now f c.head_of-head.result c.write_call.new.buffer c.saturating_add.result z.next
          c.head_of-head.ensures c.saturating_add.ensures (ap (λ (k : Kept). k.bytes) c.write_call.ensures.written)));
      next = next_started c.args.clock c.args.forward.now c.args.args.now f ∙ ap (λ n. n + 1) z.next;
    }

pub returns-clause-waiting : goal.returns-clause-waiting
returns-clause-waiting c = λ id other h.
    rw c.add.ensures.last
    (any-more (λ (s : Slot). is_connection id s.forward.caller) (values_of c.self.inside.slots.entries) _ (subst (λ t. is_waiting id (values_of t.slots) ≡ false) (sym c.self.view_is) h) other)
