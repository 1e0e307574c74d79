-- When a connection becomes Lost, and when it is gone.
use Rattle.std.specs.Prelude.{◌≡◌, ◌⊎◌, ◌↔◌, ◌<◌, ◌≤◌, ℕ, ◌+◌, true, false, List, ◌++◌, length, take, All, Some}
use Rattle.rb_address.specs.declared.caller.Caller.{Caller}
use Rattle.rb_address.specs.declared.caller.Caller.TheVariants.{Tcp}
use Rattle.rb_rpc.specs.Records.{first_record, data_of}
use Rattle.rb_answers.specs.Ledger.{rows_in}
use Rattle.rb_model.specs.declared.message.Message.TheVariants as says
use Rattle.rb_model.specs.Calls.{message_of}
use Rattle.rb_model.specs.State.{Connection, State, at_moment}
use Rattle.rb_model.specs.Connections.{fed_in, is_there}
use Rattle.rb_model.specs.Losses.{is_due, stamp_in, needed_removals, asks_room}
use Rattle.rb_model.specs.Step.{sender, context_in, Event, step, IsReached}
use Rattle.rb_model.specs.Step.Event.{Bytes, Closed, Datagram, Expire}
use Rattle.rb_model.specs.Laws.{IsLive, IsLost}
use Rattle.rb_model.specs.DeadlineLaws.{clock_at, NoEntryIsDue}

-- the event brings the end of a record that is no call
pub record EndsNoCall (id : ℕ) (c : Connection) (event : Event) : Type 0 where
  pub now : ℕ
  pub piece : List ℕ
  pub is : event ≡ Bytes now id piece
  pub fed : List ℕ
  pub takes : fed_in c.phase ≡ Some fed
  pub n : ℕ
  pub ends : first_record (fed ++ piece) ≡ Some n
  pub no_call : message_of (data_of (take n (fed ++ piece))) ≡ says.NoCall

-- the event is an `expire`, this connection is due, and neither a forwarded call nor a connection of lesser number is
pub record EndsAtDeadline (s : State) (id : ℕ) (c : Connection) (event : Event) : Type 0 where
  pub now : ℕ
  pub is : event ≡ Expire now
  pub due : is_due (clock_at now s) c ≡ true
  pub entries : NoEntryIsDue now s
  pub least : All (λ (d : Connection). is_due (clock_at now s) d ≡ true → id ≤ d.number) s.connections.all

-- the data of a record that ends in a piece for a live connection
pub record BringsEnd (s : State) (id : ℕ) (piece : List ℕ) (caller : Caller) (content : List ℕ) : Type 0 where
  pub connection : Connection
  pub live : IsLive s id connection
  pub fed : List ℕ
  pub takes : fed_in connection.phase ≡ Some fed
  pub n : ℕ
  pub ends : first_record (fed ++ piece) ≡ Some n
  pub caller_is : caller ≡ Tcp id connection.who
  pub content_is : content ≡ data_of (take n (fed ++ piece))

-- the event brings this data of a datagram, or of a record, from this caller, at this moment
abbrev pub Brings : State → Event → ℕ → Caller → List ℕ → Type 0
Brings s (Datagram at who bytes) now caller content = (now ≡ at) × (caller ≡ sender s who bytes) × (content ≡ bytes)
Brings s (Bytes at id piece) now caller content = (now ≡ at) × BringsEnd s id piece caller content
Brings s other now caller content = ⊥

-- The event brings a SET that is accepted, the live rows and those that lists need reach the limit, and the connection is
-- given a list that began before each change that removed a row which some list needs.
-- EVICT-1
pub record EndsForRoom (s : State) (c : Connection) (event : Event) : Type 0 where
  pub now : ℕ
  pub caller : Caller
  pub content : List ℕ
  pub brings : Brings s event now caller content
  pub asks : asks_room (context_in (at_moment now s) caller) (message_of content) s.ledger ≡ true
  pub full : s.setting.limits.rows ≤ length (rows_in s.ledger) + length (needed_removals s.connections.all s.ledger)
  pub stamp : ℕ
  pub lists : stamp_in c.phase ≡ Some stamp
  pub before : All (λ change. stamp < change) (needed_removals s.connections.all s.ledger)

-- A live connection becomes Lost exactly by the end of a record that is no call, at its deadline, or for the room of a row,
-- and is gone exactly by its close.
pub record ClosesExactly (s : State) (event : Event) (id : ℕ) (c : Connection) : Type 0 where
  pub lost : IsLost (step s event).1 id ↔ (EndsNoCall id c event ⊎ EndsAtDeadline s id c event ⊎ EndsForRoom s c event)
  pub gone : (is_there id (step s event).1.connections ≡ false) ↔ (event ≡ Closed id)

-- LOST-1: A live connection becomes Lost by a record that is no call, at its deadline, or for the
-- room of a row (EVICT-1), and by nothing else.
abbrev pub ConnectionsCloseExactly : Type 0
ConnectionsCloseExactly =
    (s : State) → IsReached s → (event : Event) (id : ℕ) (c : Connection)
    → IsLive s id c → ClosesExactly s event id c
