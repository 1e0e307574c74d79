-- Connections: what bytes that arrive and bytes that are given do to one, and how they come and go.
use Rattle.std.specs.Prelude.{ℕ, ◌+◌, ◌-◌, ◌*◌, ◌/◌, ◌==◌, nat_lt, min, Bool, true, false, not, ◌&&◌, if◌then◌else◌, List, [], ◌∷◌, ◌++◌, length, take, drop, find, filter, Option, Some, None, Result, Ok, Err}
use Rattle.std.specs.Option.{option_map}
use Rattle.std.specs.List.{list_any}
use Rattle.rb_address.specs.declared.who.Who.{Who}
use Rattle.rb_rpc.specs.Records.{first_record, data_of, marked_reply}
use Rattle.rb_model.specs.declared.types.CoreFault.{CoreFault}
use Rattle.rb_model.specs.declared.types.CoreFault.TheVariants.{Full, Gone, Spent}
use Rattle.rb_model.specs.State.{Owed, Phase, Connection, Connections, State, greatest_number}
use Rattle.rb_model.specs.State.Phase.{Idle, Reading, Owing, Awaiting, Lost}
use Rattle.rb_model.specs.Calls.{Outcome}
use Rattle.rb_model.specs.Calls.Outcome.{NoCall, Reply, Forwarded, Silent}

-- ---- a reply that is given piece by piece (RFC 5531 section 11)

-- a whole marked fragment of a reply: four bytes of header and 1,024 of data
unfoldable pub longest_fragment : ℕ
longest_fragment = 1028

-- what is still to be given of the current fragment, in which the next byte to be given stands
-- FRAGMENT-2: A reply is given in fragments of 1,024 bytes; the last alone has the flag, also if it
-- has a full 1,024.
-- PENDING-1: What is pending is the rest of the current fragment; a `gave` never crosses its end.
-- LIST-5
unfoldable pub pending_of : Owed → List ℕ
pending_of o = drop o.given (take (longest_fragment * (o.given / longest_fragment + 1)) o.marked)

-- a reply of which this many marked bytes were given
abbrev pub owed_of : List ℕ → Option ℕ → ℕ → Owed
owed_of reply stamp given = record { marked = marked_reply reply; given = given; stamp = stamp }

-- ---- bytes that arrive on one (RFC 5531 section 11)

-- What a connection takes of a piece of bytes: nothing; or all of it, if no record ends in it (`GoesOn`, with all
-- bytes since the last record's end); or its bytes up to the end of the first record (`Ends`, with how many they are,
-- and the record's data).
pub data Taking : Type 0 where
  TakesNone : Taking
  GoesOn : List ℕ → Taking
  Ends : ℕ → List ℕ → Taking

-- the bytes that came since the last record's end; None if the connection takes no bytes now
-- TAKE-2: No byte is taken while a reply is owed.
-- AWAIT-1: A connection whose call is forwarded takes no byte and has none to give.
-- GAVE-3
abbrev pub fed_in : Phase → Option (List ℕ)
fed_in Idle = Some []
fed_in (Reading fed) = Some fed
fed_in (Owing owed) = None
fed_in Awaiting = None
fed_in Lost = None

abbrev pub taking_up_to : List ℕ → List ℕ → Option ℕ → Taking
taking_up_to fed piece None = GoesOn (fed ++ piece)
taking_up_to fed piece (Some n) = Ends (n - length fed) (data_of (take n (fed ++ piece)))

-- the first record that ends in these bytes decides
abbrev pub taking_on : List ℕ → List ℕ → Taking
taking_on fed piece = taking_up_to fed piece (first_record (fed ++ piece))

-- TAKE-3: An empty piece takes nothing and begins no record.
abbrev pub taking_behind : Option (List ℕ) → List ℕ → Taking
taking_behind None piece = TakesNone
taking_behind (Some fed) [] = TakesNone
taking_behind (Some fed) (byte ∷ piece) = taking_on fed (byte ∷ piece)

-- what a connection in this phase takes of the piece
-- TAKE-1: A connection takes bytes exactly up to the one that ends the first record, or all if none
-- ends.
unfoldable pub taking_of : Phase → List ℕ → Taking
taking_of phase piece = taking_behind (fed_in phase) piece

-- SINCE-1: A connection's `since` is, while a record is read, the moment of the record's first
-- byte, one of an empty fragment's header too.
abbrev pub since_when_fed : ℕ → ℕ → Phase → ℕ
since_when_fed clock since Idle = clock
since_when_fed clock since (Reading fed) = since
since_when_fed clock since (Owing owed) = since
since_when_fed clock since Awaiting = since
since_when_fed clock since Lost = since

-- the connection after bytes with which no record ended
unfoldable pub keep_reading : ℕ → List ℕ → Connection → Connection
keep_reading clock fed c = record c { phase = Reading fed; since = since_when_fed clock c.since c.phase }

-- LOST-1 OWING-1 AWAIT-3
abbrev pub phase_after : Outcome → Phase
phase_after NoCall = Lost
phase_after (Reply bytes stamp) = Owing (owed_of bytes stamp 0)
phase_after Forwarded = Awaiting
phase_after Silent = Idle

-- the connection once its record is answered, or the call that was forwarded for it has ended
-- OWING-1: The reply to a call is owed from the end of its record on, unless the call is forwarded
-- or has no reply.
-- SINCE-2: Before a record `since` is the moment of the opening; after one it is that of its call
-- or of the end of its forwarded call, and then of the last bytes given. A `gave` of 0 leaves it.
unfoldable pub settle : ℕ → Outcome → Connection → Connection
settle clock given c = record c { phase = phase_after given; since = clock }

-- ---- bytes that are given on one

-- AWAIT-1
abbrev pub pending_in : Phase → List ℕ
pending_in (Owing o) = pending_of o
pending_in Idle = []
pending_in (Reading fed) = []
pending_in Awaiting = []
pending_in Lost = []

-- GAVE-3: With the last byte of its reply a connection is Idle, and takes the next record.
abbrev pub phase_when_given : ℕ → Phase → Phase
phase_when_given n (Owing o) =
    if nat_lt (o.given + n) (length o.marked) then Owing (record o { given = o.given + n }) else Idle
phase_when_given n Idle = Idle
phase_when_given n (Reading fed) = Reading fed
phase_when_given n Awaiting = Awaiting
phase_when_given n Lost = Lost

-- this many of the pending bytes were given; none leaves it as it was
-- PENDING-2: What was given is not shown again, and nothing is left out; the next fragment follows.
-- SINCE-2
unfoldable pub with_given : ℕ → ℕ → Connection → Connection
with_given clock n c = if n == 0 then c else record c { phase = phase_when_given n c.phase; since = clock }

-- GAVE-1: `Core::gave` gives n bytes, or as many as are pending.
unfoldable pub give : ℕ → ℕ → Connection → Unit {0} × Connection
give clock n c = (tt, with_given clock (min n (length (pending_in c.phase))) c)

-- ---- all connections

abbrev pub is_lost : Phase → Bool
is_lost Lost = true
is_lost Idle = false
is_lost (Reading fed) = false
is_lost (Owing owed) = false
is_lost Awaiting = false

abbrev pub has_number : ℕ → Connection → Bool
has_number id c = c.number == id

-- it has this number and is not Lost
-- LOST-2: A Lost connection takes, shows and gives nothing.
unfoldable pub is_live : ℕ → Connection → Bool
is_live id c = c.number == id && not (is_lost c.phase)

unfoldable pub live_connection : ℕ → List Connection → Option Connection
live_connection id all = find (is_live id) all

-- the values, of which the first that passes the test is changed
abbrev pub change_first : {A : Type 0} → (A → Bool) → (A → A) → List A → List A
change_first test change [] = []
change_first test change (x ∷ xs) = if test x then change x ∷ xs else x ∷ change_first test change xs

-- the connections, with the live one of the number changed
abbrev pub changed_at : ℕ → (Connection → Connection) → Connections → Connections
changed_at id change c = record c { all = change_first (is_live id) change c.all }

abbrev pub on_connection : ℕ → (Connection → Connection) → State → State
on_connection id change s = record s { connections = changed_at id change s.connections }

-- Something is done with the live connection of the number. If there is none, it is refused and nothing changes.
abbrev pub on_found : {A : Type 0} → ℕ → (Connection → A × Connection) → Connections → Option Connection → Result A CoreFault × Connections
on_found id act connections None = (Err Gone, connections)
on_found id act connections (Some c) = (Ok (act c).0, changed_at id (λ x. (act x).1) connections)

abbrev pub on_live : {A : Type 0} → ℕ → (Connection → A × Connection) → Connections → Result A CoreFault × Connections
on_live id act connections = on_found id act connections (live_connection id connections.all)

-- ---- how they come and go

-- the number of a new connection, or why there is none: Lost ones count until they are closed
-- NUMBER-1: Connections are numbered from 1 upwards, and no number recurs.
-- NUMBER-2: There may be as many connections as the limit, Lost ones among them; one more is Full.
-- NUMBER-3: After 2^64 - 1 numbers an opening is Spent.
unfoldable pub number_for : ℕ → Connections → Result ℕ CoreFault
number_for conns c =
    if not (nat_lt (length c.all) conns) then Err Full
    else if nat_lt greatest_number c.next then Err Spent
    else Ok c.next

-- a new connection among them, Idle from its opening
-- SINCE-2 NUMBER-1
abbrev pub with_new : Who → ℕ → Connections → Connections
with_new who clock c =
    let new : Connection = record { number = c.next; who = who; phase = Idle; since = clock } in
    record { next = c.next + 1; all = c.all ++ new ∷ [] }

abbrev pub opening_as : Who → ℕ → Connections → Result ℕ CoreFault → Result ℕ CoreFault × Connections
opening_as who clock c (Err fault) = (Err fault, c)
opening_as who clock c (Ok number) = (Ok number, with_new who clock c)

-- a connection is opened if there may be one more
unfoldable pub open_in_table : ℕ → Who → ℕ → Connections → Result ℕ CoreFault × Connections
open_in_table conns who clock c = opening_as who clock c (number_for conns c)

-- The connections are in the order of their numbers, so the first is that of least number.
-- LOST-4: `next_lost` gives the least number of the connections that are Lost.
-- CLOSE-2
unfoldable pub next_lost_in_table : Connections → Option ℕ
next_lost_in_table c = option_map (λ (x : Connection). x.number) (find (λ (x : Connection). is_lost x.phase) c.all)

unfoldable pub is_there : ℕ → Connections → Bool
is_there id c = list_any (has_number id) c.all

unfoldable pub without_number : ℕ → Connections → Connections
without_number id c = record c { all = filter (λ (x : Connection). not (x.number == id)) c.all }

-- LOST-3: A Lost connection is there until it is closed; `closed` takes a live or a Lost one away.
unfoldable pub close_in_table : ℕ → Connections → Result (Unit {0}) CoreFault × Connections
close_in_table id c = if is_there id c then (Ok tt, without_number id c) else (Err Gone, c)
