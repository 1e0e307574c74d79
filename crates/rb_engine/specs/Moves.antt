-- What a call of the engine does, at the engine's moment.
use Rattle.std.specs.Prelude.{◌≡◌, ℕ, ◌+◌, List, [], ◌∷◌, Option, Result}
use Rattle.rb_answers.specs.declared.listener.Listener.{Listener}
use Rattle.rb_model.specs.declared.types.Limits.{Limits}
use Rattle.rb_model.specs.State.{State, opening}
use Rattle.rb_model.specs.declared.types.CoreFault.{CoreFault}
use Rattle.rb_model.specs.Step.{Event}
use Rattle.rb_lines.specs.Entries.{run_entries}
use Rattle.rb_lines.specs.Tapes.{Records}
use Rattle.rb_connections.specs.Slots.{Acts, Shows}
use Rattle.rb_model.specs.declared.types.Exchanged.{Exchanged}
use Rattle.rb_model.specs.Exchanges.{count_now}
use Rattle.rb_model.specs.Gives.{write_into}
use Rattle.rb_model.specs.Sessions.{pending_bytes}
use Rattle.rb_core.specs.AtOnce.{Exchanges}
use Rattle.rb_core.specs.MeteredCalls.{Priced, PricedExchange}
use Rattle.rb_core.specs.StandsFor.{StandsFor}
use Rattle.rb_arrivals.specs.Dispatches.{Dispatch, Hands}
use Rattle.rb_engine.specs.declared.engine.Engine.{Engine}
use Rattle.rb_engine.specs.Recording.{exchange_events, give_events}

-- Its core stands for the state before the first event; the first forwarded call will have this xid.
abbrev pub IsNewEngine : ℕ → ℕ → Limits → Listener → Engine → Type 0
IsNewEngine first_xid moment limits listener engine = StandsFor engine.core.core (opening limits listener first_xid moment)

-- Whatever state its core stood for, it stands for the next one.
abbrev pub Moves : (State → ℕ → State) → Engine → Engine → Type 0
Moves next old new = (s : State) → StandsFor old.core.core s → StandsFor new.core.core (next s old.moment)

-- One look of the daemon was taken.
-- STEPS-8
abbrev pub LooksOnce : Engine → Engine → Type 0
LooksOnce old new = new.looks.steps ≡ old.looks.steps + 1

-- The same, and its result is that of the step.
abbrev pub ActsNow : {R : Type 0} → (State → ℕ → R × State) → Engine → Engine → R → Type 0
ActsNow step old new result = Acts StandsFor (λ s. step s old.moment) old.core.core new.core.core result

-- Whatever state its core stood for, this is what the state shows.
abbrev pub ShowsNow : {R : Type 0} → (State → ℕ → R) → Engine → R → Type 0
ShowsNow show engine result = Shows StandsFor (λ s. show s engine.moment) engine.core.core result

-- Whatever state its core stood for, the sockets were handed the datagram that this gives, if any, and no other.
abbrev pub HandsNow : {S : Type 0} → (S → Dispatch → S → Type 0) → (State → ℕ → Option Dispatch) → Engine → S → S → Type 0
HandsNow sends datagram engine old new = (s : State) → StandsFor engine.core.core s → Hands sends (datagram s engine.moment) old new

-- Whatever state its core stood for, these events from it were recorded, each with what it gave.
-- TAPE-4
abbrev pub RecordsEvents : (State → ℕ → List Event) → Engine → Engine → Type 0
RecordsEvents events old new = (s : State) → StandsFor old.core.core s → Records (run_entries s (events s old.moment)) old.tape new.tape

-- So this event, which is that of the engine's moment, was recorded with what it gave.
abbrev pub RecordsEvent : (ℕ → Event) → Engine → Engine → Type 0
RecordsEvent event old new = RecordsEvents (λ s now. event now ∷ []) old new

-- At most what this event costs, which is that of the engine's moment, was counted, whatever state its core stood for.
-- STEPS-7
abbrev pub PricedNow : (ℕ → Event) → Engine → Engine → Type 0
PricedNow event old new = Priced (event old.moment) old.core new.core

-- The same of bytes, and of what was given at once of the reply to them, if there is this much room.
-- STEPS-7
abbrev pub PricedExchangeNow : ℕ → List ℕ → ℕ → Engine → Engine → Result Exchanged CoreFault → Type 0
PricedExchangeNow id piece room old new result = PricedExchange old.moment id piece room old.core new.core result

-- Bytes came on a connection, and what was given at once of the reply stands in the room.
abbrev pub ExchangesNow : ℕ → List ℕ → Engine → Engine → Result Exchanged CoreFault → List ℕ → Type 0
ExchangesNow id piece old new result room = Exchanges old.moment id piece old.core.core new.core.core result room

-- Bytes came on a connection, of whose reply this many were given at once, and that was recorded.
abbrev pub RecordsExchange : ℕ → List ℕ → ℕ → Engine → Engine → Type 0
RecordsExchange id piece count old new = RecordsEvents (λ s now. exchange_events now id piece count) old new

-- These bytes were given on a connection, piece by piece, and that was recorded.
abbrev pub RecordsGiving : ℕ → List ℕ → Engine → Engine → Type 0
RecordsGiving id given old new = RecordsEvents (λ s now. give_events now id given s) old new

-- What was given on a connection, or nothing if it was refused, and that was recorded.
abbrev pub RecordsGiven : ℕ → Result (List ℕ) CoreFault → Engine → Engine → Type 0
RecordsGiven id given old new = RecordsGiving id (pending_bytes given) old new

-- What a connection owes is given into a room of this many bytes, as far as it fits: these bytes, or a refusal.
abbrev pub WritesInto : ℕ → ℕ → Engine → Engine → Result (List ℕ) CoreFault → Type 0
WritesInto id room old new given = ActsNow (λ s now. write_into s now id room) old new given

-- This many bytes are given at once of the reply to a record that ends with these bytes, if there is this much room.
abbrev pub CountsGiven : ℕ → List ℕ → ℕ → Engine → ℕ → Type 0
CountsGiven id piece room engine count = Shows StandsFor (count_now engine.moment id piece room) engine.core.core count
