-- What is held of connections, and the connections that it stands for.
use Rattle.std.specs.Prelude.{◌≡◌, ◌<◌, ◌≤◌, ⊤, ℕ, ◌+◌, ◌*◌, ◌/◌, ◌%◌, nat_le, max, List, [], length, take, drop, All, Option, Some, None}
use Rattle.std.specs.List.{AllZip, sum_by}
use Rattle.std.specs.Map.{values_of}
use Rattle.rb_xdr.specs.Kept.{Kept}
use Rattle.rb_rpc.specs.Marks.{StandsForFed}
use Rattle.rb_rpc.specs.Records.{fragment_size, data_of, marked_reply}
use Rattle.rb_rpc.specs.declared.feed.CallFeed.{CallFeed}
use Rattle.rb_rpc.specs.Feeds.{StandsForCall}
use Rattle.rb_answers.specs.ListReplies.{rest_of}
use Rattle.rb_model.specs.Calls.{longest_reply, kept_of, longest_kept}
use Rattle.rb_registry.specs.Registry.{Registry}
use Rattle.rb_model.specs.State.{Owed, Phase, Connection, Connections}
use Rattle.rb_model.specs.Connections.{longest_fragment}
use Rattle.rb_model.specs.State.Phase.{Idle, Reading, Owing, Awaiting, Lost}
use Rattle.rb_connections.specs.declared.reading.Reader.{Reader}
use Rattle.rb_connections.specs.declared.giving.Giving.{Giving}
use Rattle.rb_connections.specs.declared.giving.Rest.{Rest}
use Rattle.rb_connections.specs.declared.giving.Rest.TheVariants as rests
use Rattle.rb_connections.specs.declared.slot.Stage.{Stage}
use Rattle.rb_connections.specs.declared.slot.Stage.TheVariants as stages
use Rattle.rb_connections.specs.declared.slot.Slot.{Slot}
use Rattle.rb_model.specs.Bounds.{connection_charge}

-- a connection's buffer has the arguments of the call that is read, and later the reply to it
unfoldable pub buffer_size : ℕ
buffer_size = max longest_kept longest_reply

-- The head and the buffer stand for this data of a record.
pub record IsHeld (head : CallFeed) (kept : Kept) (content : List ℕ) : Type 0 where
  pub head_is : StandsForCall head content
  pub kept_is : kept.bytes ≡ kept_of content
  pub cap : kept.cap ≡ buffer_size

-- The reader and the buffer stand for the bytes fed since the last record's end.
-- TAKE-4
pub record IsReading (reader : Reader) (kept : Kept) (fed : List ℕ) : Type 0 where
  pub marks_are : StandsForFed reader.marks fed
  pub data_is : IsHeld reader.head kept (data_of fed)

-- ---- a reply that is given

-- the whole current fragment, in which the next byte to be given stands
unfoldable pub window : Owed → List ℕ
window o = take longest_fragment (drop (longest_fragment * (o.given / longest_fragment)) o.marked)

-- A window shows the current fragment of this reply.
pub record IsShown (reply : List ℕ) (shown : Kept) (o : Owed) : Type 0 where
  pub marked : o.marked ≡ marked_reply reply
  pub owes : o.given < length o.marked
  pub shown_is : shown.bytes ≡ window o
  pub cap : shown.cap ≡ longest_fragment

-- the bytes that are not shown yet: those of the buffer from a place on, or those of a list, which are made from this registry
abbrev pub rest_in : Registry → List ℕ → Rest → List ℕ
rest_in registry buffer (rests.Held start) = drop start buffer
rest_in registry buffer (rests.Listed list) = rest_of registry list

-- the stamp of the reply, if it is a list: how many changes were accepted before it began
abbrev pub stamp_of_rest : Rest → Option ℕ
stamp_of_rest (rests.Held start) = None
stamp_of_rest (rests.Listed list) = Some list.stamp

-- The window and the rest after it stand for what is owed: this many bytes of the fragment that is shown were given.
-- LIST-5: A fragment of a streamed list is made once the one before it was given, from the rows as
-- of the call.
pub record IsGiving (registry : Registry) (giving : Giving) (buffer : List ℕ) (shown : Kept) (o : Owed) : Type 0 where
  pub reply : List ℕ
  pub shows : IsShown reply shown o
  pub stamp : o.stamp ≡ stamp_of_rest giving.rest
  pub place : giving.place ≡ o.given % longest_fragment
  pub rest : rest_in registry buffer giving.rest ≡ drop (fragment_size * (o.given / longest_fragment + 1)) reply
  pub last : giving.last ≡ nat_le (length reply) (fragment_size * (o.given / longest_fragment + 1))

-- ---- one connection

-- The stage and the buffers hold what there is to know of the phase, but for the rest of a list, which is made
-- from this registry.
abbrev pub StandsForPhase : Registry → Stage → Kept → Kept → Phase → Type 0
StandsForPhase registry stages.Idle buffer window Idle = (buffer.bytes ≡ []) × (window.bytes ≡ [])
StandsForPhase registry (stages.Reading reader) buffer window (Reading fed) = IsReading reader buffer fed × (window.bytes ≡ [])
StandsForPhase registry (stages.Owing giving) buffer window (Owing o) = IsGiving registry giving buffer.bytes window o
StandsForPhase registry stages.Awaiting buffer window Awaiting = (buffer.bytes ≡ []) × (window.bytes ≡ [])
StandsForPhase registry stages.Lost buffer window Lost = ⊤
StandsForPhase registry stage buffer window phase = ⊥

pub record StandsForConnection (registry : Registry) (slot : Slot) (c : Connection) : Type 0 where
  pub number : slot.number ≡ c.number
  pub who : slot.who ≡ c.who
  pub since : slot.since ≡ c.since
  pub phase : StandsForPhase registry slot.stage slot.buffer slot.window c.phase

-- HELD-4: A connection, also one that is Lost, counts as 128 bytes and those of its buffer and its
-- window.
abbrev pub charge : Slot → ℕ
charge slot = connection_charge + length slot.buffer.bytes + length slot.window.bytes

-- with a full buffer and a full window
abbrev pub most_charge : ℕ
most_charge = connection_charge + buffer_size + longest_fragment

abbrev pub IsWithin : Slot → Type 0
IsWithin slot = charge slot ≤ most_charge

-- ---- all connections

-- the slots of connections with their keys, in order of opening, the last number that was given, how many connections
-- there may be, the memory that the tables of slots and of spare buffers hold (as of a `Pool`), and the number of the meter
-- that counts the steps
pub record Table : Type 0 where
  pub slots : List (ℕ × Slot)
  pub last_number : ℕ
  pub conns : ℕ
  pub memory : (ℕ × ℕ) × (ℕ × ℕ)
  pub tie : ℕ

pub record StandsForConnections (registry : Registry) (table : Table) (connections : Connections) : Type 0 where
  pub all : AllZip (StandsForConnection registry) (values_of table.slots) connections.all
  pub next : connections.next ≡ table.last_number + 1

abbrev pub held_in : List Slot → ℕ
held_in slots = sum_by charge slots

abbrev pub AreWithin : List (ℕ × Slot) → Type 0
AreWithin slots = All IsWithin (values_of slots)
