use Rattle.std.specs.Prelude.{min}
use Rattle.std.proofs.Common.{◌≡◌, ℕ, [], ◌+◌, refl, sym, ap, subst, arith, rules}
use Rattle.rb_xdr.specs.Meter.{PaysAtMost}
use Rattle.rb_model.specs.State.Phase.{Owing}
use Rattle.rb_model.specs.Connections.{phase_when_given}
use Rattle.rb_connections.specs.declared.slot.Slot.{Slot}
use Rattle.rb_connections.specs.Costs.{next_cost}
use Rattle.rb_connections.specs.StandsFor.{StandsForPhase}
use Rattle.rb_connections.proofs.GivenCosts.{shown_few}
use Rattle.rb_connections.proofs.OneSlot.{none_given, some_given, goes_on_giving, is_given, nothing_pending, giving_phase}
use Rattle.rb_connections.proofs.Progress.{pending_few, stays, moves, ends, slot_lists_on}
use Rattle.rb_connections.proofs.slot.Slot.gave.Goals as goal

least : (n : ℕ) → min n 0 ≡ 0
least n = omega arith

pub returns-in_default-clause-acts : goal.returns-in_default-clause-acts
returns-in_default-clause-acts c =
    none_given _ c.args.self.now c.args.clock c.args.n
    (λ x h. rw (nothing_pending _ _ _ _ x.phase c.in_default.not-Owing h.phase) (least c.args.n))

pub returns-then-more-eq0-clause-acts : goal.returns-then-more-eq0-clause-acts
returns-then-more-eq0-clause-acts c =
    none_given _ c.args.self.now c.args.clock c.args.n
    (λ x h.
    let w = giving_phase _ c.in-Owing.giving _ _ _ x.phase c.in-Owing.is h.phase in
    let count = pending_few _ c.in-Owing.giving _ _ w.0 w.2 in
    rw w.1 (omega (arith, count)))

pub returns-then-place-shown-clause-acts : goal.returns-then-place-shown-clause-acts
returns-then-place-shown-clause-acts c =
    some_given _ c.args.self.now _ c.args.clock c.args.n c.min-more.result c.in-Owing.giving c.in-Owing.is
    (λ o g. let count = pending_few _ c.in-Owing.giving _ _ o g in omega (arith, count)) (omega (arith, c.if-more-eq0.false)) refl refl refl
    (λ o g. goes_on_giving _ _ c.args.self.now.buffer c.args.self.now.window _ o (stays _ c.in-Owing.giving _ _ o g c.min-more.result _ refl (omega arith)))

pub returns-then-giving-clause-acts : goal.returns-then-giving-clause-acts
returns-then-giving-clause-acts c =
    let registry = c.args.registry.now in
    let ended = c.end_reply.ensures.ended in
    some_given registry c.args.self.now c.end_reply.new.self c.args.clock c.args.n c.min-more.result c.in-Owing.giving c.in-Owing.is
    (λ o g. let count = pending_few _ c.in-Owing.giving _ _ o g in omega (arith, count)) (omega (arith, c.if-more-eq0.false))
    (ap (λ (t : Slot). t.number) ended) (ap (λ (t : Slot). t.who) ended) (ap (λ (t : Slot). t.since) ended)
    (λ o g. subst (λ (t : Slot). StandsForPhase registry t.stage t.buffer t.window (phase_when_given c.min-more.result (Owing o))) (sym ended)
    (is_given registry (record c.args.self.now.buffer { bytes = [] }) (record c.args.self.now.window { bytes = [] }) _ o (ends registry c.in-Owing.giving _ _ o g c.min-more.result (omega arith) c.if-giving.true) refl refl))

pub returns-else-giving-clause-acts : goal.returns-else-giving-clause-acts
returns-else-giving-clause-acts c =
    let registry = c.args.registry.now in
    let old = c.args.self.now in
    let s = c.frame.ensures.shows in
    some_given registry old c.frame.new.self c.args.clock c.args.n c.min-more.result c.in-Owing.giving c.in-Owing.is
    (λ o g. let count = pending_few registry c.in-Owing.giving _ _ o g in omega (arith, count)) (omega (arith, c.if-more-eq0.false))
    (ap (λ (t : Slot). t.number) s.is) (ap (λ (t : Slot). t.who) s.is) (ap (λ (t : Slot). t.since) s.is)
    (λ o g. subst (λ (t : Slot). StandsForPhase registry t.stage t.buffer t.window (phase_when_given c.min-more.result (Owing o))) (sym s.is)
    (goes_on_giving registry s.giving old.buffer c.frame.new.self.window _ o
    (moves registry c.in-Owing.giving _ _ o g c.min-more.result c.frame.new.self.window s.giving (omega arith) c.if-giving.false c.requires.buffers.window_cap s.shows)))

pub returns-else-giving-clause-lists : goal.returns-else-giving-clause-lists
returns-else-giving-clause-lists c = slot_lists_on _ _ _ c.frame.new.self c.frame.ensures.shows

pub returns-else-giving-clause-cost : goal.returns-else-giving-clause-cost
returns-else-giving-clause-cost c =
    let few = shown_few c.args.registry.now c.args.self.now c.in-Owing.giving c.in-Owing.is in
    let paid : PaysAtMost c.args.meter.now c.frame.new.meter (1 + next_cost c.args.registry.now c.in-Owing.giving.rest) = search rules in
    record { steps = omega (arith, paid.steps, few); rises = paid.rises; tie = paid.tie }
