-- What a new core gives for a list of events is what the pages say.
use Rattle.std.proofs.Common.{◌≡◌, ℕ, List, [], ◌++◌, sym, ap, subst, ◌∙◌}
use Rattle.std.specs.Global.{Vec}
use Rattle.rb_answers.specs.declared.listener.Listener.{Listener}
use Rattle.rb_model.specs.declared.types.Limits.{Limits}
use Rattle.rb_model.specs.Plain.{OwnedEvent, OwnedOutput, events_of, outputs_of}
use Rattle.rb_model.specs.State.{State, opening}
use Rattle.rb_model.specs.Step.{Output, run}
use Rattle.rb_core.specs.Metered.{Metered}
use Rattle.rb_core.specs.StandsFor.{StandsFor}
use Rattle.rb_replay.specs.Runs.{AllHappened}
use Rattle.rb_promises.specs.Headline.{IsServed, RunsAreServed}

pub core_serves : RunsAreServed → (limits : Limits) (listener : Listener) (first_xid now : ℕ) (events : List OwnedEvent) (old new : Metered) (before after : Vec OwnedOutput)
    → StandsFor old.core (opening limits listener first_xid now) → before.items ≡ [] → AllHappened events old new before after
    → IsServed limits listener first_xid now (events_of events) (outputs_of after.items)
core_serves served limits listener first_xid now events old new before after stands none happened =
    let start : State = opening limits listener first_xid now in
    let all : List Output = run start (events_of events) in
    subst (IsServed limits listener first_xid now (events_of events))
    (sym ((happened start stands).outputs ∙ ap (λ (xs : List OwnedOutput). outputs_of xs ++ all) none)) (served limits listener first_xid now (events_of events))
