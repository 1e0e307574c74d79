use Rattle.std.specs.Prelude.{min}
use Rattle.std.proofs.Common.{◌≡◌, ◌++◌, ℕ, List, [], sym, ap, ◌∙◌, arith}
use Rattle.rb_model.specs.declared.types.Limits.{Limits}
use Rattle.rb_model.specs.Plain.{events_of, outputs_of}
use Rattle.rb_model.specs.Step.{Output, run}
use Rattle.rb_model.specs.WholeRuns.{whole_bound}
use Rattle.rb_core.specs.Events.{greatest_count}
use Rattle.rb_replay.specs.Runs.{buffer_bytes}
use Rattle.rb_replay.proofs.Runs.{all_answered}
use Rattle.rb_replay.proofs.WholeRuns.{no_buffer_bytes, shown_within}
use Rattle.rb_replay.proofs.running.run_on.Goals as goal

pub returns-in-Ok-replay-clause-within : goal.returns-in-Ok-replay-clause-within
returns-in-Ok-replay-clause-within c s h fresh =
    let events = events_of c.args.events.now in
    let all : List Output = run s events in
    let first : outputs_of c.in-Ok.outputs.items ≡ [] = ap outputs_of c.in-Ok.ensures.items in
    let outputs : outputs_of c.deref.result.now ≡ all =
    ap outputs_of c.deref.ensures.value ∙ (c.in-Ok-replay.ensures.all s h).outputs ∙ ap (λ (xs : List Output). xs ++ all) first in
    let none : buffer_bytes c.args.core.now.core ≡ 0 = no_buffer_bytes c.args.core.now.core s h fresh.none in
    let bound : c.whole_bound-bound.result ≡ min (whole_bound s.setting.limits (buffer_bytes c.args.core.now.core) events all) greatest_count =
    c.whole_bound-bound.ensures ∙ ap (λ (xs : List Output). min (whole_bound c.args.limits.now 0 events xs) greatest_count) outputs
    ∙ ap (λ (limits : Limits). min (whole_bound limits 0 events all) greatest_count) (sym fresh.limits_are)
    ∙ ap (λ (n : ℕ). min (whole_bound s.setting.limits n events all) greatest_count) (sym none) in
    let answered = all_answered s c.args.events.now _ _ _ (c.in-Ok-replay.ensures.all s h) in
    let taken = shown_within _ _ _ (rw answered at (c.in-Ok-replay.ensures.whole s h fresh.reached fresh.good)) in
    omega (arith, taken, bound, c.saturating_sub-steps.ensures, c.count-before.ensures, c.count.ensures)
