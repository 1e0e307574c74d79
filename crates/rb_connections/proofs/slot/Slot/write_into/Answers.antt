use Rattle.std.proofs.Common.{◌≡◌, ◌<◌, ◌≤◌, ◌+◌, ◌-◌, ◌*◌, ◌/◌, ℕ, List, [], ◌++◌, length, take, drop, refl, sym, ap, subst, ◌∙◌, arith, rules}
use Rattle.rb_xdr.specs.Kept.{Kept}
use Rattle.rb_xdr.specs.Meter.{PaysAtMost}
use Rattle.rb_model.specs.State.{Owed}
use Rattle.rb_model.specs.State.Phase.{Owing}
use Rattle.rb_model.specs.Connections.{phase_when_given}
use Rattle.rb_model.specs.Gives.{fitting_of}
use Rattle.rb_connections.specs.declared.slot.Slot.{Slot}
use Rattle.rb_connections.specs.StandsFor.{IsGiving, StandsForPhase, rest_in}
use Rattle.rb_connections.specs.Costs.{fragments_cost}
use Rattle.rb_connections.specs.Giving.{fitting_front}
use Rattle.rb_connections.proofs.OneSlot.{giving_phase, is_given}
use Rattle.rb_connections.proofs.GivenInto.{none_into, some_into, nothing_fits, window_stays, window_ends, window_goes_on, rest_after, rest_keeps, rest_lists, stays_out, fits_in, some_shown, into_few}
use Rattle.rb_connections.proofs.Rooms.{size_of_room, front_of_room}
use Rattle.rb_connections.proofs.Progress.{ends}
use Rattle.rb_connections.proofs.slot.Slot.write_into.Goals as goal
use borrow.Rule.Slice.PartMut.{put_mid}

pub returns-in_default-clause-acts : goal.returns-in_default-clause-acts
returns-in_default-clause-acts c =
    none_into _ c.args.self.now c.args.clock c.args.room.now
    (λ x h. nothing_fits (length c.args.room.now) _ _ _ _ x.phase c.in_default.not-Owing h.phase)

pub returns-then-shown-eq0-clause-acts : goal.returns-then-shown-eq0-clause-acts
returns-then-shown-eq0-clause-acts c =
    let registry = c.args.registry.now in
    let old = c.args.self.now in
    let giving = c.in-Owing.giving in
    let room : List ℕ = c.copy_framed-shown.new.room in
    none_into registry old c.args.clock room
    (λ x h.
    let w = giving_phase registry giving _ _ _ x.phase c.in-Owing.is h.phase in
    let less = stays_out (length c.args.room.now) (length old.window.bytes - giving.place) c.copy_framed-shown.result c.copy_framed-shown.ensures.count c.if-shown-eq0.true (some_shown registry giving _ _ w.0 w.2) in
    rw w.1 (window_stays registry giving _ _ w.0 w.2 (length room) (omega (arith, less))))

pub returns-then-giving-clause-acts : goal.returns-then-giving-clause-acts
returns-then-giving-clause-acts c =
    let registry = c.args.registry.now in
    let old = c.args.self.now in
    let giving = c.in-Owing.giving in
    let shown : ℕ = c.copy_framed-shown.result in
    let some : 0 < shown = omega (arith, c.if-shown-eq0.false) in
    let fits = fits_in (length c.args.room.now) (length old.window.bytes - giving.place) shown c.copy_framed-shown.ensures.count some in
    let ended = c.end_reply.ensures.ended in
    some_into registry old c.end_reply.new.self c.args.clock shown c.copy_framed-shown.new.room giving c.in-Owing.is
    (λ o g. c.copy_framed-shown.ensures.copied some ∙ sym (window_ends registry giving old.buffer.bytes old.window o g (length c.copy_framed-shown.new.room) (omega (arith, fits.1)) c.if-giving.true))
    some c.copy_framed-shown.ensures.within
    (ap (λ (t : Slot). t.number) ended) (ap (λ (t : Slot). t.who) ended) (ap (λ (t : Slot). t.since) ended)
    (λ o g. subst (λ (t : Slot). StandsForPhase registry t.stage t.buffer t.window (phase_when_given shown (Owing o))) (sym ended)
    (is_given registry (record old.buffer { bytes = [] }) (record old.window { bytes = [] }) shown o
    (ends registry giving _ _ o g shown (omega (arith, fits.0, some_shown registry giving _ _ o g)) c.if-giving.true) refl refl))

pub returns-clause-acts : goal.returns-clause-acts
returns-clause-acts c =
    let registry = c.args.registry.now in
    let old = c.args.self.now in
    let giving = c.in-Owing.giving in
    let shown : ℕ = c.copy_framed-shown.result in
    let more : ℕ = c.write_rest.result in
    let before : List ℕ = c.copy_framed-shown.new.room in
    let sub : List ℕ = c.write_rest.new.room in
    let room : List ℕ = put_mid shown (length before - shown) before sub in
    let mid : Slot = record old { since = c.args.clock } in
    let some : 0 < shown = omega (arith, c.if-shown-eq0.false) in
    let fits = fits_in (length c.args.room.now) (length old.window.bytes - giving.place) shown c.copy_framed-shown.ensures.count some in
    let size = size_of_room shown (length before - shown) before sub c.copy_framed-shown.ensures.within refl (omega arith) in
    let front = front_of_room shown (length before - shown) before sub c.copy_framed-shown.ensures.within refl (omega arith) more c.write_rest.ensures.written.fits in
    let kept = rest_keeps registry giving.rest more mid c.write_rest.new.self c.write_rest.ensures.goes_on in
    some_into registry old c.write_rest.new.self c.args.clock (shown + more) room giving c.in-Owing.is
    (λ o g.
    let parts = window_goes_on registry giving old.buffer.bytes old.window o g shown fits.0 c.if-giving.false (length room) (omega (arith, fits.0, fits.1, size)) in
    front
    ∙ ap (λ (xs : List ℕ). xs ++ take more sub) (c.copy_framed-shown.ensures.copied some)
    ∙ ap (λ (xs : List ℕ). drop giving.place old.window.bytes ++ xs) c.write_rest.ensures.written.written
    ∙ ap (λ (n : ℕ). drop giving.place old.window.bytes ++ fitting_front n (rest_in registry old.buffer.bytes giving.rest)) (omega (arith, size))
    ∙ sym parts)
    (omega (arith, some)) (omega (arith, size, c.write_rest.ensures.written.fits, c.copy_framed-shown.ensures.within))
    kept.0 kept.1 kept.2
    (λ o g. rest_after registry giving mid c.write_rest.new.self o g shown fits.0 c.if-giving.false more c.requires.buffers.window_cap c.write_rest.ensures.goes_on)

pub returns-clause-lists : goal.returns-clause-lists
returns-clause-lists c =
    rest_lists c.args.registry.now c.in-Owing.giving.rest c.write_rest.result _ c.write_rest.new.self c.write_rest.ensures.goes_on

pub returns-clause-cost : goal.returns-clause-cost
returns-clause-cost c =
    let few = into_few c.args.registry.now c.args.self.now c.in-Owing.giving c.copy_framed-shown.result c.write_rest.result c.in-Owing.is in
    let paid : PaysAtMost c.args.meter.now c.write_rest.new.meter (1 + c.copy_framed-shown.result + (2 + fragments_cost c.args.registry.now c.in-Owing.giving.rest c.write_rest.result)) = search rules in
    record { steps = omega (arith, paid.steps, few); rises = paid.rises; tie = paid.tie }
