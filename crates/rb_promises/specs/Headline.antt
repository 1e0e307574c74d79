-- What is promised of every run, in one contract.
use Rattle.std.specs.Prelude.{ℕ, List, [], ◌∷◌}
use Rattle.rb_address.specs.declared.who.Who.{Who}
use Rattle.rb_answers.specs.declared.listener.Listener.{Listener}
use Rattle.rb_model.specs.declared.types.Limits.{Limits}
use Rattle.rb_model.specs.State.{State, opening}
use Rattle.rb_model.specs.Sessions.{Session, empty_session}
use Rattle.rb_model.specs.Step.{Event, Output, run}
use Rattle.rb_promises.specs.Accounts.{Passes}
use Rattle.rb_promises.specs.Ends.{Goes}
use Rattle.rb_promises.specs.PassedRuns.{account_of}

-- These events had these outputs, one after another, from what was known, with the connections that had been opened and what had passed
-- on each. Between two events any `State` may be known that fits both pages.
pub data Served : State → List (ℕ × Who) → (ℕ → Session) → List Event → List Output → Type 0 where
  NoMore : (s : State) (opened : List (ℕ × Who)) (t : ℕ → Session) → Served s opened t [] []
  OneMore : (s left : State) (opened more : List (ℕ × Who)) (t u : ℕ → Session) (event : Event) (output : Output) (events : List Event) (outputs : List Output)
      -- the calls of a connection are the records in its bytes, each call and each datagram is answered as the page of answers says, of the
      -- rows that the SETs and UNSETs before it left and of what was counted, and the bytes given are the replies, in order;
      → Passes s.setting.limits s.setting.listener (account_of s opened t) event output (account_of left more u)
      -- connections close, deadlines come and calls are forwarded and end as the page of ends says.
      → Goes s t event output left u
      → Served left more u events outputs → Served s opened t (event ∷ events) (output ∷ outputs)

-- A new core of these limits, for this listener, was given these events and had these outputs.
abbrev pub IsServed : Limits → Listener → ℕ → ℕ → List Event → List Output → Type 0
IsServed limits listener first_xid now events outputs = Served (opening limits listener first_xid now) [] (λ id. empty_session) events outputs

-- for every list of events from every opening
abbrev pub RunsAreServed : Type 0
RunsAreServed =
    (limits : Limits) (listener : Listener) (first_xid now : ℕ) (events : List Event)
    → IsServed limits listener first_xid now events (run (opening limits listener first_xid now) events)
