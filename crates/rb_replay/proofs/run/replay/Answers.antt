use Rattle.std.proofs.Common.{◌≡◌, ◌≤◌, ℕ, true, List, ◌∷◌, [], ◌++◌, length, take, refl, ap, ◌∙◌, arith}
use Rattle.std.proofs.lemmas.List.{map_push}
use Rattle.rb_xdr.specs.Meter.{Meter, PaysAtMost}
use Rattle.rb_model.specs.Costs.{run_cost}
use Rattle.rb_model.specs.Plain.{OwnedEvent, OwnedOutput, events_of, output_of, outputs_of}
use Rattle.rb_model.specs.State.{State, are_good}
use Rattle.rb_model.specs.Step.{run, IsReached}
use Rattle.rb_model.specs.WholeRuns.{whole_bound}
use Rattle.rb_replay.specs.Runs.{answered_events, Happened, buffer_bytes}
use Rattle.rb_core.specs.StandsFor.{CoreView, StandsFor}
use Rattle.rb_replay.proofs.Runs.{one_more, pays_more, pays_within, answered_are}
use Rattle.rb_replay.proofs.StepBounds.{paid_within, held_within_after}
use Rattle.rb_replay.proofs.WholeRuns.{paid_within_whole}
use Rattle.rb_replay.proofs.run.replay.Goals as goal

pub loop-event-preserved : goal.loop-event-preserved
loop-event-preserved c =
    let output = c.in_ok-output.output in
    let items : c.push.new.self.items ≡ c.loop-event.out.items ++ output ∷ [] = rw (c.push.ensures.items, c.unwrap.ensures, c.reserve.ensures.items) refl in
    let given : outputs_of c.push.new.self.items ≡ outputs_of c.loop-event.out.items ++ output_of output ∷ [] = ap outputs_of items ∙ map_push output_of c.loop-event.out.items output in
    record {
      happened = λ s h. rw given (one_more s c.args.events.now c.loop-event.event-index c.event-item.result _ _ _ _ _ c.loop-event-test.true c.event-item.is (c.loop-event.invariant.happened s h) c.in_ok-output.ensures.ok.step);
      cost = λ s h.
          let before = (c.loop-event.invariant.happened s h).state in
          pays_more s c.args.events.now c.loop-event.event-index c.event-item.result _ _ _ c.loop-event-test.true c.event-item.is (c.loop-event.invariant.cost s h) (c.in_ok-output.ensures.ok.cost _ before);
    }

pub returns-in_default-clause-cost : goal.returns-in_default-clause-cost
returns-in_default-clause-cost c s h = pays_within s (events_of c.args.events.now) c.loop-event.event-index _ _ (c.loop-event.invariant.cost s h)

pub returns-in_err-output-clause-cost : goal.returns-in_err-output-clause-cost
returns-in_err-output-clause-cost c s h = rw c.in_err-output.ensures.err (pays_within s (events_of c.args.events.now) c.loop-event.event-index _ _ (c.loop-event.invariant.cost s h))

pub returns-clause-bound : goal.returns-clause-bound
returns-clause-bound c s h reached good = paid_within s (events_of c.args.events.now) _ _ reached good (pays_within s (events_of c.args.events.now) c.loop-event.event-index _ _ (c.loop-event.invariant.cost s h))

-- the bound of the events whose outputs were appended
whole_of : (core : CoreView) (s : State) (events : List OwnedEvent) (i : ℕ) → i ≤ length events → (before now : List OwnedOutput) (new : CoreView) (a b : Meter)
    → StandsFor core s → IsReached s → are_good s.setting.limits s.setting.listener ≡ true
    → Happened s (take i (events_of events)) (outputs_of before) (outputs_of now) new → PaysAtMost a b (run_cost s (take i (events_of events)))
    → PaysAtMost a b (whole_bound s.setting.limits (buffer_bytes core) (answered_events events before now) (run s (answered_events events before now)))
whole_of core s events i within before now new a b h reached good happened pays =
    rw (answered_are s events i within before now new happened) (paid_within_whole core s (take i (events_of events)) a b h reached good pays)

pub returns-clause-whole : goal.returns-clause-whole
returns-clause-whole c s h reached good =
    whole_of _ s c.args.events.now c.loop-event.event-index (omega arith) _ _ _ _ _ h reached good (c.loop-event.invariant.happened s h) (c.loop-event.invariant.cost s h)

pub returns-in_default-clause-whole : goal.returns-in_default-clause-whole
returns-in_default-clause-whole c s h reached good =
    let kept : c.reserve.new.self.items ≡ c.loop-event.out.items = c.reserve.ensures.items in
    rw kept
    (whole_of _ s c.args.events.now c.loop-event.event-index (omega arith) _ _ _ _ _ h reached good (c.loop-event.invariant.happened s h) (c.loop-event.invariant.cost s h))

pub returns-in_err-output-clause-whole : goal.returns-in_err-output-clause-whole
returns-in_err-output-clause-whole c s h reached good =
    let kept : c.reserve.new.self.items ≡ c.loop-event.out.items = c.reserve.ensures.items in
    rw (kept, c.in_err-output.ensures.err)
    (whole_of _ s c.args.events.now c.loop-event.event-index (omega arith) _ _ _ _ _ h reached good (c.loop-event.invariant.happened s h) (c.loop-event.invariant.cost s h))

pub returns-clause-held : goal.returns-clause-held
returns-clause-held c s h reached port = held_within_after _ s (take c.loop-event.event-index (events_of c.args.events.now)) (c.loop-event.invariant.happened s h).state reached port

pub returns-in_default-clause-bound : goal.returns-in_default-clause-bound
returns-in_default-clause-bound c s h reached good = paid_within s (events_of c.args.events.now) _ _ reached good (pays_within s (events_of c.args.events.now) c.loop-event.event-index _ _ (c.loop-event.invariant.cost s h))

pub returns-in_err-output-clause-bound : goal.returns-in_err-output-clause-bound
returns-in_err-output-clause-bound c s h reached good =
    rw c.in_err-output.ensures.err (paid_within s (events_of c.args.events.now) _ _ reached good (pays_within s (events_of c.args.events.now) c.loop-event.event-index _ _ (c.loop-event.invariant.cost s h)))

pub returns-in_default-clause-held : goal.returns-in_default-clause-held
returns-in_default-clause-held c s h reached port = held_within_after _ s (take c.loop-event.event-index (events_of c.args.events.now)) (c.loop-event.invariant.happened s h).state reached port

pub returns-in_err-output-clause-held : goal.returns-in_err-output-clause-held
returns-in_err-output-clause-held c s h reached port =
    rw c.in_err-output.ensures.err (held_within_after _ s (take c.loop-event.event-index (events_of c.args.events.now)) (c.loop-event.invariant.happened s h).state reached port)
