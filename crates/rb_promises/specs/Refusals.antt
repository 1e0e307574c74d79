-- Which events are refused, and with what.
use Rattle.std.specs.Prelude.{◌≡◌, ◌↔◌, ◌<◌, ◌≤◌, ℕ, true, length, All}
use Rattle.rb_address.specs.declared.who.Who.{Who}
use Rattle.rb_forward.specs.Forwards.{Entry}
use Rattle.rb_model.specs.declared.types.CoreFault.{CoreFault}
use Rattle.rb_model.specs.declared.types.CoreFault.TheVariants.{NoMemory, Full, BadLimits, Gone, Spent}
use Rattle.rb_model.specs.State.{Connection, State, greatest_number}
use Rattle.rb_model.specs.State.Phase.{Lost}
use Rattle.rb_model.specs.Connections.{pending_in}
use Rattle.rb_model.specs.Laws.{IsLive}
use Rattle.rb_model.specs.Step.{Event, step}
use Rattle.rb_model.specs.Step.Event.{Open, Bytes, Pending, Gave, Closed, Sent}
use Rattle.rb_model.specs.Step.Output.{Refused, TooMuch}

-- ---- openings

-- a connection should be opened, and there are as many as there may be, Lost ones among them
pub record IsFull (s : State) (event : Event) : Type 0 where
  pub now : ℕ
  pub who : Who
  pub opens : event ≡ Open now who
  pub full : s.setting.limits.conns ≤ length s.connections.all

-- a connection should be opened, for which there is room, and no number is left
pub record IsSpent (s : State) (event : Event) : Type 0 where
  pub now : ℕ
  pub who : Who
  pub opens : event ≡ Open now who
  pub room : length s.connections.all < s.setting.limits.conns
  pub spent : greatest_number < s.connections.next

-- ---- numbers of which there is nothing

-- each connection of the number, if there is one, is Lost
abbrev pub HasNoLive : State → ℕ → Type 0
HasNoLive s id = All (λ (c : Connection). c.number ≡ id → c.phase ≡ Lost) s.connections.all

-- no connection has the number, live or Lost
abbrev pub HasNone : State → ℕ → Type 0
HasNone s id = All (λ (c : Connection). c.number ≡ id → ⊥) s.connections.all

-- each forwarded call of the number, if there is one, was sent
abbrev pub HasNoUnsent : State → ℕ → Type 0
HasNoUnsent s number = All (λ (e : Entry). e.number ≡ number → e.sent ≡ true) s.ledger.forwards.all

-- the event is for what there is not
abbrev pub IsGone : State → Event → Type 0
IsGone s (Bytes now id piece) = HasNoLive s id
IsGone s (Pending id) = HasNoLive s id
IsGone s (Gave now id n) = HasNoLive s id
IsGone s (Closed id) = HasNone s id
IsGone s (Sent number) = HasNoUnsent s number
IsGone s other = ⊥

-- ---- all refusals

-- NoMemory and BadLimits are no event's.
abbrev pub IsRefusedWith : State → Event → CoreFault → Type 0
IsRefusedWith s event Full = IsFull s event
IsRefusedWith s event Spent = IsSpent s event
IsRefusedWith s event Gone = IsGone s event
IsRefusedWith s event NoMemory = ⊥
IsRefusedWith s event BadLimits = ⊥

abbrev pub RefusalsAreTheNamedOnes : Type 0
RefusalsAreTheNamedOnes =
    (s : State) (event : Event) (fault : CoreFault)
    → ((step s event).0 ≡ Refused fault) ↔ IsRefusedWith s event fault

-- more bytes are said to be given on a live connection than are pending
pub record GivesTooMuch (s : State) (event : Event) : Type 0 where
  pub now : ℕ
  pub id : ℕ
  pub n : ℕ
  pub gives : event ≡ Gave now id n
  pub connection : Connection
  pub live : IsLive s id connection
  pub more : length (pending_in connection.phase) < n

abbrev pub TooMuchIsTheNamedOne : Type 0
TooMuchIsTheNamedOne =
    (s : State) (event : Event) → ((step s event).0 ≡ TooMuch) ↔ GivesTooMuch s event
