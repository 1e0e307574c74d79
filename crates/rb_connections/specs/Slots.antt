-- What calls do with the slots of connections, and what is true of them.
use Rattle.std.specs.Prelude.{◌≡◌, ◌≤◌, ⊤, ℕ, ◌+◌, ◌==◌, Bool, true, false, not, ◌&&◌, List, [], ◌∷◌, length, take, find, All, Option, Some, None, MatchOption, Result, Ok, Err, MatchResult}
use Rattle.std.specs.Borrow.{Bor}
use Rattle.std.specs.Option.{option_map_or}
use Rattle.std.specs.List.{list_any}
use Rattle.std.specs.Map.{values_of}
use Rattle.rb_xdr.specs.Kept.{Kept}
use Rattle.rb_xdr.specs.Pool.{Pool, HasDistinctKeys}
use Rattle.rb_rpc.specs.Verdict.{verdict}
use Rattle.rb_address.specs.declared.who.Who.{Who}
use Rattle.rb_model.specs.declared.types.CoreFault.{CoreFault}
use Rattle.rb_rpc.specs.declared.standing.Standing.{Standing}
use Rattle.rb_model.specs.declared.types.Given.{Given}
use Rattle.rb_model.specs.Gives.{write_fitting, bytes_given}
use Rattle.rb_model.specs.Standings.{without_standing}
use Rattle.rb_model.specs.State.{Phase, Connection, Connections}
use Rattle.rb_model.specs.Calls.{kept_of}
use Rattle.rb_model.specs.Connections.{longest_fragment, Taking, taking_on, taking_of, since_when_fed, keep_reading, give, is_lost, has_number, is_live, live_connection, on_live}
use Rattle.rb_model.specs.Connections.Taking.{TakesNone, GoesOn, Ends}
use Rattle.rb_model.specs.State.Phase.{Idle, Reading, Owing, Awaiting, Lost}
use Rattle.rb_model.specs.Losses.{deadline, has_come, is_due}
use Rattle.rb_connections.specs.declared.slot.Slot.{Slot}
use Rattle.rb_connections.specs.declared.reading.Reader.{Reader}
use Rattle.rb_connections.specs.declared.slot.EndedRecord.{EndedRecord}
use Rattle.rb_connections.specs.declared.slot.Received.{Received}
use Rattle.rb_connections.specs.declared.slot.Stage.{Stage}
use Rattle.rb_connections.specs.declared.slot.Stage.TheVariants as stages
use Rattle.rb_connections.specs.declared.slot.Sought.{Sought}
use Rattle.rb_connections.specs.declared.slot.WholeRecord.{WholeRecord}
use Rattle.rb_connections.specs.declared.slot.Sought.TheVariants as wanted
use Rattle.rb_connections.specs.declared.slot.Buffers.{Buffers}
use Rattle.rb_connections.specs.StandsFor.{buffer_size, IsReading, StandsForConnection, Table, StandsForConnections, held_in, AreWithin}
use Rattle.rb_registry.specs.Registry.{Registry}

-- A call does an act of the model: whatever plain value `x` the old value stood for, the result is that of `act x`,
-- and the new value stands for what `act x` leaves.
pub record Acts {Held Plain Result : Type 0} (StandsFor : Held → Plain → Type 0) (act : Plain → Result × Plain) (old new : Held) (result : Result) : Type 0 where
  pub gives : (x : Plain) → StandsFor old x → result ≡ (act x).0
  pub stands : (x : Plain) → StandsFor old x → StandsFor new (act x).1

-- Whatever plain value the held one stands for, the result is what `show` gives of it.
abbrev pub Shows : {Held Plain Result : Type 0} → (Held → Plain → Type 0) → (Plain → Result) → Held → Result → Type 0
Shows {Held} {Plain} {Result} StandsFor show held result = (x : Plain) → StandsFor held x → result ≡ show x

-- The same of bytes that are lent, or refused.
abbrev pub Lends : {Held Plain : Type 0} → (Held → Plain → Type 0) → (Plain → Result (List ℕ) CoreFault) → Held → Result (Bor (List ℕ)) CoreFault → Type 0
Lends {Held} {Plain} StandsFor show held result =
    (x : Plain) → StandsFor held x → MatchResult result (λ bytes. show x ≡ Ok bytes.now) (λ fault. show x ≡ Err fault)

-- ---- one slot

-- an act on the connection that a slot stands for, whichever registry lists are made from
abbrev pub SlotActs : {Result : Type 0} → (Connection → Result × Connection) → Slot → Slot → Result → Type 0
SlotActs act old new result = (registry : Registry) → Acts (StandsForConnection registry) act old new result

-- From whatever connection the old slot stood for, the new one stands for what it becomes.
abbrev pub SlotBecomesFrom : Registry → (Connection → Connection) → Slot → Slot → Type 0
SlotBecomesFrom registry change old new =
    (c : Connection) → StandsForConnection registry old c → StandsForConnection registry new (change c)

-- n bytes that are pending are given on the connection that a slot stands for, or as many as there are
abbrev pub SlotGives : Registry → ℕ → ℕ → Slot → Slot → Type 0
SlotGives registry clock n old new = Acts (StandsForConnection registry) (give clock n) old new tt

-- What is pending, and what is after that, is given on it, as much as fits into the room, whose first n bytes it is.
abbrev pub SlotWritesInto : Registry → ℕ → Slot → Slot → List ℕ → ℕ → Type 0
SlotWritesInto registry clock old new room n =
    Acts (StandsForConnection registry) (write_fitting clock (length room)) old new (take n room)

-- with its buffers emptied
abbrev pub emptied_slot : Slot → Slot
emptied_slot slot =
    record slot { buffer = record slot.buffer { bytes = [] }; window = record slot.window { bytes = [] } }

-- what a slot shows of its connection, whichever registry lists are made from
abbrev pub SlotShows : {Result : Type 0} → (Connection → Result) → Slot → Result → Type 0
SlotShows show slot result = (registry : Registry) → Shows (StandsForConnection registry) show slot result

-- A slot that stands for the connection, but for `since`, is about to be fed a piece after the
-- bytes `fed` of a record.
pub record IsBeforePiece (slot : Slot) (reader : Reader) (clock : ℕ) (c : Connection) (fed : List ℕ) : Type 0 where
  pub number : slot.number ≡ c.number
  pub who : slot.who ≡ c.who
  pub since : slot.since ≡ since_when_fed clock c.since c.phase
  pub reads : IsReading reader slot.buffer fed
  pub window : slot.window.bytes ≡ []

-- the verdict on a record with this data, and who sent it
abbrev pub ended_record : Who → List ℕ → EndedRecord
ended_record who content = record { who = who; verdict = verdict content }

-- what a connection that takes a piece returns of it
abbrev pub received_of : List ℕ → Connection → Taking → Received
received_of piece c TakesNone = record { count = 0; ended = None }
received_of piece c (GoesOn fed) = record { count = length piece; ended = None }
received_of piece c (Ends n content) = record { count = n; ended = Some (ended_record c.who content) }

-- what a connection returns of a record that is one fragment with this data
abbrev pub received_whole : Who → List ℕ → Received
received_whole who content = record { count = 4 + length content; ended = Some (ended_record who content) }

-- the arguments that the core has after it: those that are kept of the record that ended, or what it had before
abbrev pub arguments_after : List ℕ → Taking → List ℕ
arguments_after before TakesNone = before
arguments_after before (GoesOn fed) = before
arguments_after before (Ends n content) = kept_of content

-- the connection after the piece: if a record ended, Idle until that is answered
abbrev pub connection_after : ℕ → Connection → Taking → Connection
connection_after clock c TakesNone = c
connection_after clock c (GoesOn fed) = keep_reading clock fed c
connection_after clock c (Ends n content) = record c { phase = Idle; since = clock }

-- Whatever bytes of a record were fed before, this is what is returned of the piece.
abbrev pub ReceivesPiece : Slot → Reader → ℕ → List ℕ → Received → Type 0
ReceivesPiece slot reader clock piece result =
    (c : Connection) (fed : List ℕ) → IsBeforePiece slot reader clock c fed → result ≡ received_of piece c (taking_on fed piece)

-- the new slot stands for the connection after the piece
abbrev pub StandsBehindPiece : Slot → Slot → Reader → ℕ → List ℕ → Type 0
StandsBehindPiece old new reader clock piece =
    (registry : Registry) (c : Connection) (fed : List ℕ) → IsBeforePiece old reader clock c fed
    → StandsForConnection registry new (connection_after clock c (taking_on fed piece))

-- the buffer that the core handed in has these arguments after it
abbrev pub KeepsArguments : Slot → Reader → ℕ → List ℕ → Kept → Kept → Type 0
KeepsArguments slot reader clock piece before after =
    (c : Connection) (fed : List ℕ) → IsBeforePiece slot reader clock c fed
    → after.bytes ≡ arguments_after before.bytes (taking_on fed piece)

-- a piece is taken, and what it says is not answered yet
unfoldable pub take_piece : ℕ → List ℕ → Connection → Received × Connection
take_piece clock piece c = (received_of piece c (taking_of c.phase piece), connection_after clock c (taking_of c.phase piece))

-- the arguments that the core has once a piece was taken
abbrev pub arguments_taken : List ℕ → List ℕ → Connection → List ℕ
arguments_taken before piece c = arguments_after before (taking_of c.phase piece)

-- the buffer that the core handed in has them
abbrev pub SlotHasArguments : List ℕ → Slot → Kept → Kept → Type 0
SlotHasArguments piece slot before after = SlotShows (arguments_taken before.bytes piece) slot after.bytes

-- ---- the table

-- an act on the connections, whichever registry lists are made from
abbrev pub TableActs : {Result : Type 0} → (Connections → Result × Connections) → Table → Table → Result → Type 0
TableActs act old new result = (registry : Registry) → Acts (StandsForConnections registry) act old new result

-- what a table shows of them, whichever registry lists are made from
abbrev pub TableShows : {Result : Type 0} → (Connections → Result) → Table → Result → Type 0
TableShows show table result = (registry : Registry) → Shows (StandsForConnections registry) show table result

-- the bytes that a table lends of them, or refuses, whichever registry lists are made from
abbrev pub TableLends : (Connections → Result (List ℕ) CoreFault) → Table → Result (Bor (List ℕ)) CoreFault → Type 0
TableLends show table result = (registry : Registry) → Lends (StandsForConnections registry) show table result

-- From whatever connections the old table stood for, the new one stands for what they become.
abbrev pub BecomesFrom : Registry → (Connections → Connections) → Table → Table → Type 0
BecomesFrom registry change old new =
    (c : Connections) → StandsForConnections registry old c → StandsForConnections registry new (change c)

-- the same, whichever registry lists are made from
abbrev pub TableBecomes : (Connections → Connections) → Table → Table → Type 0
TableBecomes change old new = (registry : Registry) → BecomesFrom registry change old new

-- the arguments that the core has once a piece for the connection of a number was taken
abbrev pub arguments_on : ℕ → List ℕ → List ℕ → Connections → List ℕ
arguments_on id before piece connections = option_map_or (arguments_taken before piece) (live_connection id connections.all) before

-- the buffer that the core handed in has them
abbrev pub TableHasArguments : ℕ → List ℕ → Table → Kept → Kept → Type 0
TableHasArguments id piece table before after = TableShows (arguments_on id before.bytes piece) table after.bytes

-- this many bytes of a piece were taken on the live connection of the number, and this came of it
abbrev pub TableTakes : ℕ → ℕ → List ℕ → Table → Table → Received → Type 0
TableTakes id clock piece old new got = TableActs (on_live id (take_piece clock piece)) old new (Ok got)

-- the same of what came of a piece, or that the connection is not there
abbrev pub TableTakesPiece : ℕ → ℕ → List ℕ → Table → Table → Result (Received × Standing) CoreFault → Type 0
TableTakesPiece id clock piece old new result =
    TableActs (on_live id (take_piece clock piece)) old new (without_standing result)

-- which arguments are kept of a record that came whole
abbrev pub kept_in : WholeRecord → List ℕ
kept_in whole = kept_of whole.content.now

-- it was taken on the live connection of the number,
abbrev pub TakesWhole : ℕ → ℕ → List ℕ → WholeRecord → Table → Table → Type 0
TakesWhole id clock piece whole old new = TableTakes id clock piece old new (received_whole whole.who whole.content.now)

-- and the core has its arguments after it
abbrev pub KeepsWhole : ℕ → List ℕ → WholeRecord → Table → Type 0
KeepsWhole id piece whole old = (before : List ℕ) → TableShows (arguments_on id before piece) old (kept_in whole)

-- n bytes that are pending are given on the live connection of the number, or as many as there are
abbrev pub TableGives : Registry → ℕ → ℕ → ℕ → Table → Table → Result (Unit {0}) CoreFault → Type 0
TableGives registry id clock n old new result =
    Acts (StandsForConnections registry) (on_live id (give clock n)) old new result

-- What is pending on the live connection of the number, and what is after that, is given, as much as fits into the room.
abbrev pub TableWritesInto : Registry → ℕ → ℕ → Table → Table → List ℕ → Result Given CoreFault → Type 0
TableWritesInto registry id clock old new room result =
    Acts (StandsForConnections registry) (on_live id (write_fitting clock (length room))) old new (bytes_given room result)

-- a table without connections, for at most this many, counted by this meter
pub record IsEmptyTable (conns tie : ℕ) (table : Table) : Type 0 where
  pub slots : table.slots ≡ []
  pub last_number : table.last_number ≡ 0
  pub conns_are : table.conns ≡ conns
  pub tie_is : table.tie ≡ tie

-- ---- what is looked for

-- a phase of the same kind as this stage, without its data
abbrev pub phase_like : Stage → Phase
phase_like stages.Idle = Idle
phase_like (stages.Reading reader) = Reading []
phase_like (stages.Owing giving) = Owing (record { marked = []; given = 0; stamp = None })
phase_like stages.Awaiting = Awaiting
phase_like stages.Lost = Lost

unfoldable pub is_due_slot : ℕ → Slot → Bool
is_due_slot clock slot = has_come clock (deadline slot.since (phase_like slot.stage))

abbrev pub is_lost_stage : Stage → Bool
is_lost_stage stages.Lost = true
is_lost_stage stages.Idle = false
is_lost_stage (stages.Reading reader) = false
is_lost_stage (stages.Owing giving) = false
is_lost_stage stages.Awaiting = false

abbrev pub is_idle_stage : Stage → Bool
is_idle_stage stages.Idle = true
is_idle_stage stages.Lost = false
is_idle_stage (stages.Reading reader) = false
is_idle_stage (stages.Owing giving) = false
is_idle_stage stages.Awaiting = false

unfoldable pub is_wanted_slot : Sought → Slot → Bool
is_wanted_slot (wanted.Live id) slot = slot.number == id && not (is_lost_stage slot.stage)
is_wanted_slot (wanted.Numbered id) slot = slot.number == id
is_wanted_slot wanted.AnyLost slot = is_lost_stage slot.stage
is_wanted_slot (wanted.Due clock) slot = is_due_slot clock slot

unfoldable pub is_wanted : Sought → Connection → Bool
is_wanted (wanted.Live id) c = is_live id c
is_wanted (wanted.Numbered id) c = has_number id c
is_wanted wanted.AnyLost c = is_lost c.phase
is_wanted (wanted.Due clock) c = is_due clock c

-- it is asked for by its number, which no other connection has
abbrev pub is_by_number : Sought → Bool
is_by_number (wanted.Live id) = true
is_by_number (wanted.Numbered id) = true
is_by_number wanted.AnyLost = false
is_by_number (wanted.Due clock) = false

-- that number, or 0, which no connection has
abbrev pub number_wanted : Sought → ℕ
number_wanted (wanted.Live id) = id
number_wanted (wanted.Numbered id) = id
number_wanted wanted.AnyLost = 0
number_wanted (wanted.Due clock) = 0

-- the key and the slot of the first connection that is asked for
-- HINT-1: A call on a connection finds the one of its number, whatever the hint says.
unfoldable pub wanted_slot : Sought → List (ℕ × Slot) → Option (ℕ × Slot)
wanted_slot sought slots = find (λ (e : ℕ × Slot). is_wanted_slot sought e.1) slots

-- the first connection that is asked for, and its slot
pub record IsFound (registry : Registry) (sought : Sought) (all : List Connection) (slot : Slot) : Type 0 where
  pub connection : Connection
  pub found : find (is_wanted sought) all ≡ Some connection
  pub stands : StandsForConnection registry slot connection

-- The first connection that is asked for was found, or there is none.
abbrev pub Finds : Sought → Table → Option (Bor Slot) → Type 0
Finds sought table result =
    (registry : Registry) (c : Connections) → StandsForConnections registry table c
    → MatchOption result (find (is_wanted sought) c.all ≡ None) (λ slot. IsFound registry sought c.all slot.now)

-- ---- what is true of all slots and buffers

abbrev pub is_numbered : ℕ → Slot → Bool
is_numbered id slot = slot.number == id

-- no two slots have one number, and none has one above the last that was given
abbrev pub AreNumbered : ℕ → List Slot → Type 0
AreNumbered last_number [] = ⊤
AreNumbered last_number (slot ∷ rest) = (slot.number ≤ last_number) × (list_any (is_numbered slot.number) rest ≡ false) × AreNumbered last_number rest

-- no two slots have one number
abbrev pub HasDistinctNumbers : List Slot → Type 0
HasDistinctNumbers [] = ⊤
HasDistinctNumbers (slot ∷ rest) = (list_any (is_numbered slot.number) rest ≡ false) × HasDistinctNumbers rest

-- the buffers of a connection, made with this meter
pub record AreBuffers (tie : ℕ) (buffer window : Kept) : Type 0 where
  pub buffer_tie : buffer.tie ≡ tie
  pub window_tie : window.tie ≡ tie
  pub buffer_cap : buffer.cap ≡ buffer_size
  pub window_cap : window.cap ≡ longest_fragment

abbrev pub HasBuffers : ℕ → Slot → Type 0
HasBuffers tie slot = AreBuffers tie slot.buffer slot.window

-- SPARE-1: Buffers that no connection has, live or Lost, are empty.
pub record AreSpare (tie : ℕ) (b : Buffers) : Type 0 where
  pub buffers : AreBuffers tie b.buffer b.window
  pub buffer_empty : b.buffer.bytes ≡ []
  pub window_empty : b.window.bytes ≡ []

-- a buffer of the core, for a reply or for arguments, which can be swapped for a connection's own
pub record IsDraft (tie : ℕ) (kept : Kept) : Type 0 where
  pub tie_is : kept.tie ≡ tie
  pub cap : kept.cap ≡ buffer_size

-- the same, and it is empty
pub record IsEmptyDraft (tie : ℕ) (kept : Kept) : Type 0 where
  pub is_draft : IsDraft tie kept
  pub empty : kept.bytes ≡ []

-- the slot goes on having its number, and buffers of this meter
pub record StaysSlot (tie : ℕ) (old new : Slot) : Type 0 where
  pub number : new.number ≡ old.number
  pub buffers : HasBuffers tie new

-- as many connections as before may be there, in as much memory, counted by the same meter, and none comes to hold more than
-- its buffers have room for
pub record StaysTable (old new : Table) : Type 0 where
  pub conns : new.conns ≡ old.conns
  pub memory : new.memory ≡ old.memory
  pub tie : new.tie ≡ old.tie
  pub within : AreWithin old.slots → AreWithin new.slots

-- What is true of all that is kept of connections: each connection that is not open has its buffers spare, and the number of
-- bytes that are held is counted.
pub record IsTable (slots : Pool Slot) (spare : Pool Buffers) (last_number conns held : ℕ) : Type 0 where
  pub distinct : HasDistinctKeys slots.entries
  pub spare_distinct : HasDistinctKeys spare.entries
  pub room : length slots.entries + length spare.entries ≡ conns
  pub cap : slots.cap ≡ conns
  pub spare_cap : spare.cap ≡ conns
  pub tie : spare.tie ≡ slots.tie
  pub buffers : All (HasBuffers slots.tie) (values_of slots.entries)
  pub spare_buffers : All (AreSpare slots.tie) (values_of spare.entries)
  pub numbers : AreNumbered last_number (values_of slots.entries)
  pub few : conns ≤ 256
  pub within : AreWithin slots.entries
  pub is_held : held ≡ held_in (values_of slots.entries)
