-- Runs go on by one event.
use Rattle.std.proofs.Common.{◌≡◌, ◌<◌, ◌≤◌, ◌+◌, ℕ, zero, suc, List, [], ◌∷◌, ◌++◌, length, get_or, take, refl, sym, ap, subst, ◌∙◌, append_assoc, arith}
use Rattle.std.proofs.Math.Seq.{take-length}
use Rattle.std.proofs.lemmas.List.{take-map, map_more, length-append, length-map, length-take}
use Rattle.rb_xdr.specs.Meter.{Meter, PaysAtMost}
use Rattle.rb_model.specs.Costs.{event_cost, run_cost}
use Rattle.rb_model.specs.State.{State}
use Rattle.rb_model.specs.Step.{Event, Output, step, run, after}
use Rattle.rb_model.specs.Plain.{OwnedEvent, OwnedOutput, event_of, output_of, events_of, outputs_of}
use Rattle.rb_laws.proofs.RunLaws.{run-append, after-append}
use Rattle.rb_core.specs.StandsFor.{CoreView, StandsFor}
use Rattle.rb_replay.specs.Runs.{answered_events, Happened}

one_further : (events : List OwnedEvent) (i : ℕ) (next : OwnedEvent) → i < length events → next ≡ get_or events i next → take (i + 1) (events_of events) ≡ take i (events_of events) ++ event_of next ∷ []
one_further events i next lt is =
    take-map event_of (i + 1) events ∙ map_more event_of events i next lt ∙ rw (← is) (ap (λ (xs : List Event). xs ++ event_of next ∷ []) (sym (take-map event_of i events)))

pub one_more : (s : State) (events : List OwnedEvent) (i : ℕ) (next : OwnedEvent) (before now : List Output) (old new : CoreView) (given : Output) → i < length events → next ≡ get_or events i next → Happened s (take i (events_of events)) before now old → ((t : State) → StandsFor old t → (given ≡ (step t (event_of next)).0) × StandsFor new (step t (event_of next)).1) → Happened s (take (i + 1) (events_of events)) before (now ++ given ∷ []) new
one_more s events i next before now old new given lt is h goes =
    let done = take i (events_of events) in
    let more : take (i + 1) (events_of events) ≡ done ++ event_of next ∷ [] = one_further events i next lt is in
    let gave = goes (after s done) h.state in
    let longer : run s (take (i + 1) (events_of events)) ≡ run s done ++ given ∷ [] =
    ap (run s) more ∙ run-append s done (event_of next ∷ []) ∙ ap (λ (x : Output). run s done ++ x ∷ []) (sym gave.0) in
    record {
      outputs = ap (λ (xs : List Output). xs ++ given ∷ []) h.outputs ∙ append_assoc before (run s done) (given ∷ []) ∙ ap (λ (xs : List Output). before ++ xs) (sym longer);
      state = rw (more, after-append s done (event_of next ∷ [])) gave.1;
    }

run_cost-append : (s : State) (xs : List Event) (x : Event) → run_cost s (xs ++ x ∷ []) ≡ run_cost s xs + event_cost (after s xs) x
run_cost-append s [] x = omega arith
run_cost-append s (y ∷ ys) x = ap (λ n. event_cost s y + n) (run_cost-append (step s y).1 ys x) ∙ omega arith

-- the cost of one event more
pub pays_more : (s : State) (events : List OwnedEvent) (i : ℕ) (next : OwnedEvent) (a b c : Meter) → i < length events → next ≡ get_or events i next
    → PaysAtMost a b (run_cost s (take i (events_of events))) → PaysAtMost b c (event_cost (after s (take i (events_of events))) (event_of next))
    → PaysAtMost a c (run_cost s (take (i + 1) (events_of events)))
pays_more s events i next a b c lt is h g =
    let done = take i (events_of events) in
    let more : take (i + 1) (events_of events) ≡ done ++ event_of next ∷ [] = one_further events i next lt is in
    let cost : run_cost s (take (i + 1) (events_of events)) ≡ run_cost s done + event_cost (after s done) (event_of next) = ap (run_cost s) more ∙ run_cost-append s done (event_of next) in
    record { steps = omega (arith, cost, h.steps, g.steps); rises = omega (arith, h.rises, g.rises); tie = g.tie ∙ h.tie }

-- the first events of a run cost no more than all of them
pub run_cost-take : (s : State) (events : List Event) (n : ℕ) → run_cost s (take n events) ≤ run_cost s events
run_cost-take s [] zero = omega arith
run_cost-take s [] (suc n) = omega arith
run_cost-take s (x ∷ xs) zero = omega arith
run_cost-take s (x ∷ xs) (suc n) = let rest = run_cost-take (step s x).1 xs n in omega (arith, rest)

-- what the first events cost is within what all of them do
pub pays_within : (s : State) (events : List Event) (n : ℕ) (a b : Meter) → PaysAtMost a b (run_cost s (take n events)) → PaysAtMost a b (run_cost s events)
pays_within s events n a b h = let less = run_cost-take s events n in record { steps = omega (arith, h.steps, less); rises = h.rises; tie = h.tie }

-- ---- how many events have happened

run-length : (s : State) (events : List Event) → length (run s events) ≡ length events
run-length s [] = refl
run-length s (x ∷ xs) = ap (λ (n : ℕ). suc n) (run-length (step s x).1 xs)

-- if the first i events have happened, theirs are the outputs that were appended
pub answered_are : (s : State) (events : List OwnedEvent) (i : ℕ) → i ≤ length events → (before now : List OwnedOutput) (core : CoreView)
    → Happened s (take i (events_of events)) (outputs_of before) (outputs_of now) core → answered_events events before now ≡ take i (events_of events)
answered_are s events i within before now core h =
    let all : length (outputs_of now) ≡ length (outputs_of before) + length (run s (take i (events_of events))) =
    ap length h.outputs ∙ length-append (outputs_of before) (run s (take i (events_of events))) in
    let ran : length (run s (take i (events_of events))) ≡ i =
    run-length s (take i (events_of events)) ∙ length-take i (events_of events) ∙ omega (arith, within, length-map events event_of) in
    ap (λ (n : ℕ). take n (events_of events)) (omega (arith, all, ran, length-map now output_of, length-map before output_of))

-- if all of them have happened, all outputs were appended
pub all_answered : (s : State) (events : List OwnedEvent) (before now : List OwnedOutput) (core : CoreView)
    → Happened s (events_of events) (outputs_of before) (outputs_of now) core → answered_events events before now ≡ events_of events
all_answered s events before now core h =
    let all : take (length events) (events_of events) ≡ events_of events =
    ap (λ (n : ℕ). take n (events_of events)) (sym (length-map events event_of)) ∙ take-length (events_of events) in
    answered_are s events (length events) (omega arith) before now core (subst (λ (xs : List Event). Happened s xs (outputs_of before) (outputs_of now) core) (sym all) h) ∙ all
