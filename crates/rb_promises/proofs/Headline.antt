-- Every run from an opening is served as the pages say.
use Rattle.std.proofs.Common.{ℕ, List, [], ◌∷◌, ◌++◌, refl}
use Rattle.rb_address.specs.declared.who.Who.{Who}
use Rattle.rb_rpc.specs.Grammar.{RepliesAreOfTheGrammar}
use Rattle.rb_model.specs.State.{State, opening}
use Rattle.rb_model.specs.Sessions.{Session, empty_session, session_after}
use Rattle.rb_model.specs.Step.{Event, step, run, IsReached}
use Rattle.rb_laws.proofs.Entries.{Await, step-awaits, opening-awaits}
use Rattle.rb_laws.proofs.Sessions.{Holds, step-holds}
use Rattle.rb_laws.proofs.StepBounds.{reached-step}
use Rattle.rb_promises.specs.Accounts.{opened_by}
use Rattle.rb_promises.specs.Headline.{Served, RunsAreServed}
use Rattle.rb_promises.specs.Headline.Served.{NoMore, OneMore}
use Rattle.rb_promises.proofs.GoesSaid.{goes}
use Rattle.rb_promises.proofs.PassedClocks.{AreOpened, step_clock, openings_on}
use Rattle.rb_promises.proofs.PassedRuns.{opening_holds, no_connection}
use Rattle.rb_promises.proofs.PassedSteps.{happens}

served_on : RepliesAreOfTheGrammar → (events : List Event) (s : State) → IsReached s → (t : ℕ → Session) → ((id : ℕ) → Holds id s.connections (t id)) → Await s
    → (opened : List (ℕ × Who)) → AreOpened opened s.connections → Served s opened t events (run s events)
served_on grammar [] s reached t h waits opened are = NoMore s opened t
served_on grammar (event ∷ events) s reached t h waits opened are =
    let more : List (ℕ × Who) = opened ++ opened_by event (step s event).0 in
    let later : ℕ → Session = λ id. session_after s id event (t id) in
    OneMore s (step s event).1 opened more t later event (step s event).0 events (run (step s event).1 events)
    (record { clock = step_clock s event; opened = refl; happens = happens s reached t h waits opened more are event })
    (goes grammar s reached waits t h event)
    (served_on grammar events (step s event).1 (reached-step s reached event) later (λ id. step-holds id s (t id) (h id) event waits) (step-awaits s (h 0).sound waits event) more (openings_on s opened are event))

pub runs_are_served : RepliesAreOfTheGrammar → RunsAreServed
runs_are_served grammar limits listener first_xid now events =
    let start : State = opening limits listener first_xid now in
    served_on grammar events start (record { limits = limits; listener = listener; first_xid = first_xid; now = now; events = []; is = refl })
    (λ id. empty_session) (λ id. opening_holds limits listener first_xid now id) (opening-awaits limits listener first_xid now)
    [] (λ c within. absurd (no_connection c within))
