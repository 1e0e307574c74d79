-- Every run passes as the page of runs says.
use Rattle.std.specs.Prelude.{ℕ, List, [], ◌∷◌, ◌++◌}
use Rattle.rb_address.specs.declared.who.Who.{Who}
use Rattle.rb_answers.specs.declared.listener.Listener.{Listener}
use Rattle.rb_model.specs.declared.types.Limits.{Limits}
use Rattle.rb_model.specs.State.{State, opening}
use Rattle.rb_model.specs.Step.{Event, Output, step, after}
use Rattle.rb_model.specs.Sessions.{Session, empty_session, session_from}
use Rattle.rb_promises.specs.Accounts.{Account, opened_by, Passed}

-- the events of a run, each with its output
abbrev pub happened : State → List Event → List (Event × Output)
happened s [] = []
happened s (event ∷ events) = (event, (step s event).0) ∷ happened (step s event).1 events

-- the connections that were opened, after those
abbrev pub opened_after : State → List (ℕ × Who) → List Event → List (ℕ × Who)
opened_after s opened [] = opened
opened_after s opened (event ∷ events) = opened_after (step s event).1 (opened ++ opened_by event (step s event).0) events

abbrev pub account_of : State → List (ℕ × Who) → (ℕ → Session) → Account
account_of s opened sessions = record { clock = s.clock; ledger = s.ledger; opened = opened; sessions = sessions }

-- nothing has passed
abbrev pub new_account : State → Account
new_account start = account_of start [] (λ id. empty_session)

abbrev pub account_after : State → List Event → Account
account_after start events = account_of (after start events) (opened_after start [] events) (λ id. session_from start id empty_session events)

-- for every list of events from every opening
abbrev pub RunsPassAsSaid : Type 0
RunsPassAsSaid =
    (limits : Limits) (listener : Listener) (first_xid now : ℕ) (events : List Event)
    → let start : State = opening limits listener first_xid now in
    Passed limits listener (new_account start) (happened start events) (account_after start events)
