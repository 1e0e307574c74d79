-- How connections stay, come and go, and the order of their numbers.
use Rattle.std.specs.Prelude.{◌≡◌, ◌⊎◌, ◌<◌, ◌≤◌, ℕ, min, Bool, true, length, find, All, Any, Some, Ok}
use Rattle.std.specs.List.{AllPairs, Contains}
use Rattle.rb_model.specs.State.{Connection, State}
use Rattle.rb_model.specs.State.Phase.{Idle, Lost}
use Rattle.rb_model.specs.Connections.{pending_in}
use Rattle.rb_model.specs.Laws.{IsLive}
use Rattle.rb_model.specs.DeadlineLaws.{clock_at}
use Rattle.rb_model.specs.Step.{gave, Event, step, IsReached}
use Rattle.rb_model.specs.Step.Event.{Open, Gave, Closed}
use Rattle.rb_model.specs.Step.Output.{Opened, Done}
use Rattle.rb_promises.specs.Refusals.{HasNone}

-- the connection is one of those that there are
abbrev pub IsIn : State → Connection → Type 0
IsIn s c = Contains s.connections.all c

-- ---- Lost ones

-- It stays as it is under every event but its close. The close is not refused, and leaves none of its number.
pub record StaysLost (s : State) (c : Connection) : Type 0 where
  pub stays : (event : Event) → (event ≡ Closed c.number → ⊥) → IsIn (step s event).1 c
  pub closes : (step s (Closed c.number)).0 ≡ Done
  pub goes : HasNone (step s (Closed c.number)).1 c.number

abbrev pub LostConnectionsStay : Type 0
LostConnectionsStay = (s : State) (c : Connection) → IsIn s c → c.phase ≡ Lost → StaysLost s c

-- ---- how they come and go

-- there is a connection with its number, and with the same at its other end
abbrev pub HasOneOf : State → Connection → Type 0
HasOneOf s c = Any (λ (d : Connection). (d.number ≡ c.number) × (d.who ≡ c.who)) s.connections.all

-- The event is an opening that is not refused, and this is its connection: it has the next number, and is Idle.
pub record IsOpened (s : State) (event : Event) (c : Connection) : Type 0 where
  pub now : ℕ
  pub opens : event ≡ Open now c.who
  pub told : (step s event).0 ≡ Opened c.number
  pub number : c.number ≡ s.connections.next
  pub phase : c.phase ≡ Idle
  pub since : c.since ≡ clock_at now s

-- Each connection after an event was there before it, or was opened by it.
abbrev pub OnlyOpeningsAdd : Type 0
OnlyOpeningsAdd =
    (s : State) (event : Event) (c : Connection) → IsIn (step s event).1 c
    → HasOneOf s c ⊎ IsOpened s event c

-- Each connection before an event is there after it, unless it is its close.
abbrev pub OnlyClosesRemove : Type 0
OnlyClosesRemove =
    (s : State) (event : Event) (c : Connection) → IsIn s c → (event ≡ Closed c.number → ⊥)
    → HasOneOf (step s event).1 c

-- ---- their numbers

-- Each number is below those of all later connections, and below the next one.
pub record AreInOrder (s : State) : Type 0 where
  pub rising : AllPairs (λ (c d : Connection). c.number < d.number) s.connections.all
  pub below : All (λ (c : Connection). c.number < s.connections.next) s.connections.all

abbrev pub ConnectionsAreInOrder : Type 0
ConnectionsAreInOrder = (s : State) → IsReached s → AreInOrder s

-- So the first that passes a test is the one of least number that does.
abbrev pub FirstConnectionsAreLeast : Type 0
FirstConnectionsAreLeast =
    (s : State) → IsReached s → (test : Connection → Bool) (c : Connection)
    → find test s.connections.all ≡ Some c
    → All (λ (d : Connection). test d ≡ true → c.number ≤ d.number) s.connections.all

-- two connections of one number are one connection
abbrev pub NumbersAreDistinct : Type 0
NumbersAreDistinct =
    (s : State) → IsReached s → (c d : Connection) → IsIn s c → IsIn s d → c.number ≡ d.number
    → c ≡ d

-- ---- bytes that are given

-- how many of this many bytes are pending on the connection
abbrev pub as_many : Connection → ℕ → ℕ
as_many c n = min n (length (pending_in c.phase))

-- What is given beyond what is pending counts for nothing: `gave` does what the event does of as many as are pending.
pub record IsCapped (s : State) (now id n : ℕ) (c : Connection) : Type 0 where
  pub same : gave s now id n ≡ gave s now id (as_many c n)
  pub done : (gave s now id n).0 ≡ Ok tt
  pub event : (gave s now id n).1 ≡ (step s (Gave now id (as_many c n))).1

abbrev pub GavesAreCapped : Type 0
GavesAreCapped = (s : State) (now id n : ℕ) (c : Connection) → IsLive s id c → IsCapped s now id n c
