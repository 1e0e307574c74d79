-- Laws of steps and of runs.
use Rattle.std.specs.Prelude.{◌≡◌, ◌⊎◌, ◌↔◌, ◌<◌, ◌≤◌, ⊤, ℕ, ◌+◌, ◌==◌, max, Bool, true, false, ◌&&◌, List, [], ◌∷◌, ◌++◌, length, take, drop, filter_map, All, Any, Option, Some, None, IfSome, Result, Ok, Err}
use Rattle.std.specs.List.{list_any}
use Rattle.rb_xdr.specs.Xdr.{AreBytes}
use Rattle.rb_address.specs.declared.caller.Caller.TheVariants.{Tcp}
use Rattle.rb_rpc.specs.Records.{first_record, data_of}
use Rattle.rb_rpc.specs.RecordLaws.{IsFirstRecord, HasNoRecord}
use Rattle.rb_registry.specs.Rows.{are_distinct}
use Rattle.rb_registry.specs.Laws.{are_accepted}
use Rattle.rb_answers.specs.Callers.{own_rows}
use Rattle.rb_answers.specs.Ledger.{rows_in}
use Rattle.rb_model.specs.declared.types.CoreFault.{CoreFault}
use Rattle.rb_model.specs.declared.types.Taken.{Taken}
use Rattle.rb_model.specs.State.{Owed, Phase, Connection, State, are_good, at_moment}
use Rattle.rb_model.specs.Losses.{needed_removals}
use Rattle.rb_model.specs.Step.{serve, bytes, pending, gave, next_lost, Event, Output, step, run, after, IsReached}
use Rattle.rb_model.specs.Step.Output.{Opened, Refused, TooMuch}
use Rattle.rb_model.specs.Connections.{owed_of, fed_in, since_when_fed, is_lost, live_connection}
use Rattle.rb_model.specs.State.Phase.{Idle, Reading, Owing, Awaiting, Lost}
use Rattle.rb_model.specs.Calls.{Outcome, is_no_call}
use Rattle.rb_model.specs.Calls.Outcome.{NoCall, Reply, Forwarded, Silent}
use Rattle.rb_model.specs.Step.Event.{Gave, Closed}

-- ---- runs

abbrev pub RunsAppend : Type 0
RunsAppend =
    (s : State) (first second : List Event)
    → run s (first ++ second) ≡ run s first ++ run (after s first) second

abbrev pub StatesAppend : Type 0
StatesAppend =
    (s : State) (first second : List Event)
    → after s (first ++ second) ≡ after (after s first) second

-- ---- refusals

abbrev pub IsKeptIfRefused : Output → State → State → Type 0
IsKeptIfRefused (Refused fault) old new = new ≡ old
IsKeptIfRefused TooMuch old new = new ≡ old
IsKeptIfRefused other old new = ⊤

-- REFUSED-1: A refused event changes nothing, the clock included.
abbrev pub RefusedEventsChangeNothing : Type 0
RefusedEventsChangeNothing =
    (s : State) (event : Event) → IsKeptIfRefused (step s event).0 s (step s event).1

-- ---- numbers

abbrev pub number_given : Output → Option ℕ
number_given (Opened id) = Some id
number_given other = None

-- each is above those before it
abbrev pub AreRisingFrom : ℕ → List ℕ → Type 0
AreRisingFrom least [] = ⊤
AreRisingFrom least (id ∷ ids) = (least ≤ id) × AreRisingFrom (id + 1) ids

-- the numbers that a run gives to connections
abbrev pub NumbersNeverRecur : Type 0
NumbersNeverRecur =
    (s : State) (events : List Event)
    → AreRisingFrom s.connections.next (filter_map number_given (run s events))

-- ---- bytes in two pieces

-- two pieces are taken one after the other
abbrev pub one_after_another :
    Result Taken CoreFault → Result Taken CoreFault → Result Taken CoreFault
one_after_another (Ok a) (Ok b) = Ok (record { count = a.count + b.count; lost = b.lost })
one_after_another (Ok a) (Err fault) = Err fault
one_after_another (Err fault) later = Err fault

-- `one` is what bytes in one piece do, and `first` and then `second` what they do in two.
pub record AreTogether (one first second : Result Taken CoreFault × State) : Type 0 where
  pub taken : one.0 ≡ one_after_another first.0 second.0
  pub state : one.1 ≡ second.1

-- Bytes in two pieces, at one moment, do what they do in one.
abbrev pub SameInOnePiece : State → ℕ → ℕ → List ℕ → List ℕ → Type 0
SameInOnePiece s now id first second =
    let before : Result Taken CoreFault × State = bytes s now id first in
    AreTogether (bytes s now id (first ++ second)) before (bytes before.1 now id second)

-- no record ends in the piece, if a live connection of the number takes it
abbrev pub NoRecordEnds : State → ℕ → List ℕ → Type 0
NoRecordEnds s id piece =
    IfSome (live_connection id s.connections.all) (λ (c : Connection).
    IfSome (fed_in c.phase) (λ fed. first_record (fed ++ piece) ≡ None))

abbrev pub CutsDoNotMatter : Type 0
CutsDoNotMatter =
    (s : State) (now id : ℕ) (first second : List ℕ)
    → NoRecordEnds s id first → SameInOnePiece s now id first second

-- ---- live connections

-- the connection of the number is live
abbrev pub IsLive : State → ℕ → Connection → Type 0
IsLive s id c = live_connection id s.connections.all ≡ Some c

-- ---- the look for a Lost connection

-- It is the least number of the connections that pass the test, or none passes.
abbrev pub IsLeast : (Connection → Bool) → List Connection → Option ℕ → Type 0
IsLeast test all None = All (λ (c : Connection). test c ≡ false) all
IsLeast test all (Some id) =
    Any (λ (c : Connection). (test c ≡ true) × (c.number ≡ id)) all
    × All (λ (c : Connection). test c ≡ true → id ≤ c.number) all

abbrev pub NextLostIsLeast : Type 0
NextLostIsLeast =
    (s : State) → IsReached s → IsLeast (λ (c : Connection). is_lost c.phase) s.connections.all (next_lost s)

-- ---- bytes are taken exactly

-- a piece of bytes for the live connection of a number
pub record Arrival : Type 0 where
  pub state : State
  pub now : ℕ
  pub id : ℕ
  pub piece : List ℕ
  pub connection : Connection

-- how many of them are taken, and the state after it
abbrev pub taken_of : Arrival → Result Taken CoreFault
taken_of a = (bytes a.state a.now a.id a.piece).0

abbrev pub state_after : Arrival → State
state_after a = (bytes a.state a.now a.id a.piece).1

-- the connection is live after the piece, in this phase and with this `since`, and else as it was
abbrev pub IsNow : Arrival → Phase → ℕ → Type 0
IsNow a phase since = IsLive (state_after a) a.id (record a.connection { phase = phase; since = since })

-- the moment of the piece, which is never before an earlier one
abbrev pub clock_of : Arrival → ℕ
clock_of a = max a.state.clock a.now

-- the moment at which the first byte of the record came
abbrev pub since_of_record : Arrival → ℕ
since_of_record a = since_when_fed (clock_of a) a.connection.since a.connection.phase

-- Nothing is taken, and the connection stays.
pub record TakesNothing (a : Arrival) : Type 0 where
  pub taken : taken_of a ≡ Ok (record { count = 0; lost = false })
  pub stays : IsLive (state_after a) a.id a.connection

-- No record ends in the piece after these bytes: it is taken whole. `since` is the moment of the record's first byte.
pub record ReadsOn (a : Arrival) (fed : List ℕ) : Type 0 where
  pub none : HasNoRecord (fed ++ a.piece)
  pub taken : taken_of a ≡ Ok (record { count = length a.piece; lost = false })
  pub reads : IsNow a (Reading (fed ++ a.piece)) (since_of_record a)

-- the outcome of the record with these bytes
abbrev pub said_to : Arrival → List ℕ → Outcome
said_to a record_bytes =
    (serve (at_moment a.now a.state) (Tcp a.id a.connection.who) (data_of record_bytes)).0

-- Its whole reply, marked, is owed from this moment on; or it is forwarded, and awaited; or it stays without a reply, and
-- the connection is Idle; or it is no call, and no connection of the number is live.
abbrev pub GoesOnWith : Arrival → Outcome → Type 0
GoesOnWith a (Reply reply stamp) = IsNow a (Owing (owed_of reply stamp 0)) (clock_of a)
GoesOnWith a Forwarded = IsNow a Awaiting (clock_of a)
GoesOnWith a Silent = IsNow a Idle (clock_of a)
GoesOnWith a NoCall = live_connection a.id (state_after a).connections.all ≡ None

-- this many bytes of the piece are taken, with which a record ended that is answered so
pub record IsAnswered (a : Arrival) (count : ℕ) (said : Outcome) : Type 0 where
  pub taken : taken_of a ≡ Ok (record { count = count; lost = is_no_call said })
  pub settles : GoesOnWith a said

-- The first record ends with the last byte of the piece that is taken, and it is answered.
pub record EndsRecord (a : Arrival) (fed : List ℕ) : Type 0 where
  pub count : ℕ
  pub ends : IsFirstRecord (length fed + count) (fed ++ a.piece)
  pub answers : IsAnswered a count (said_to a (take (length fed + count) (fed ++ a.piece)))

-- If the connection takes no bytes, or there are none, nothing is taken; else a record ends in them, or none does.
abbrev pub TakesExactly : Arrival → Option (List ℕ) → List ℕ → Type 0
TakesExactly a None piece = TakesNothing a
TakesExactly a (Some fed) [] = TakesNothing a
TakesExactly a (Some fed) (byte ∷ piece) = AreBytes (fed ++ a.piece) → ReadsOn a fed ⊎ EndsRecord a fed

-- TAKE-1
abbrev pub BytesAreTakenExactly : Type 0
BytesAreTakenExactly =
    (a : Arrival) → IsReached a.state → IsLive a.state a.id a.connection
    → TakesExactly a (fed_in a.connection.phase) a.piece

-- ---- replies are given whole

-- what is still to be given
unfoldable pub owed_bytes : Owed → List ℕ
owed_bytes o = drop o.given o.marked

-- what is still to be given
abbrev pub owed_in : Phase → List ℕ
owed_in (Owing o) = owed_bytes o
owed_in Idle = []
owed_in (Reading fed) = []
owed_in Awaiting = []
owed_in Lost = []

abbrev pub is_owing : Phase → Bool
is_owing (Owing o) = true
is_owing Idle = false
is_owing (Reading fed) = false
is_owing Awaiting = false
is_owing Lost = false

-- it waits for the end of a call that was forwarded for it
abbrev pub is_awaiting : Phase → Bool
is_awaiting Awaiting = true
is_awaiting Idle = false
is_awaiting (Reading fed) = false
is_awaiting (Owing owed) = false
is_awaiting Lost = false

-- The first n bytes of what was still to be given were given: the rest is still to be given.
-- The connection is Idle if there is no rest, and one that owed nothing is as it was.
pub record IsGiven (n : ℕ) (old new : Phase) : Type 0 where
  pub left : owed_in new ≡ drop n (owed_in old)
  pub ended : is_owing old ≡ true → (new ≡ Idle) ↔ (owed_in new ≡ [])
  pub kept : is_owing old ≡ false → new ≡ old

-- What is pending on the live connection is a front of what is still to be given, and is not empty if a reply is owed.
-- However many of its bytes are given, the connection is live after it, and the rest is still to be given.
pub record GivesInOrder (s : State) (id : ℕ) (c : Connection) : Type 0 where
  pub front : List ℕ
  pub rest : List ℕ
  pub lends : pending s id ≡ Ok front
  pub whole : owed_in c.phase ≡ front ++ rest
  pub some : is_owing c.phase ≡ true → 0 < length front
  pub gives : (now n : ℕ) → n ≤ length front
      → (d : Connection) × IsLive (gave s now id n).1 id d × IsGiven n c.phase d.phase

-- PENDING-2
abbrev pub RepliesAreGivenWhole : Type 0
RepliesAreGivenWhole =
    (s : State) → IsReached s → (id : ℕ) (c : Connection) → IsLive s id c → GivesInOrder s id c

-- ---- replies that are owed

-- a connection of the number is Lost
abbrev pub IsLost : State → ℕ → Type 0
IsLost s id =
    list_any (λ (c : Connection). c.number == id && is_lost c.phase) s.connections.all ≡ true

-- the event gives bytes on the connection of a number, or closes it
abbrev pub gives_or_closes : ℕ → Event → Bool
gives_or_closes id (Gave now other n) = other == id
gives_or_closes id (Closed other) = other == id
gives_or_closes id event = false

-- Every other event leaves a live connection that owes a reply as it was, or the connection is Lost.
abbrev pub OwedRepliesStay : Type 0
OwedRepliesStay =
    (s : State) → IsReached s → (event : Event) (id : ℕ) → gives_or_closes id event ≡ false
    → (c : Connection) → IsLive s id c → is_owing c.phase ≡ true
    → IsLive (step s event).1 id c ⊎ IsLost (step s event).1 id

-- ---- the ledger

-- What is true of all that is remembered of the calls.
-- ROWS-1: No two live rows are of one program, version and netid, and at good limits at most as
-- many are live as the limit, in each state that a run reaches.
pub record IsWellKept (s : State) : Type 0 where
  -- The own rows are the listener's, and each change was accepted by the rows that were live before it.
  pub own : s.ledger.own ≡ own_rows s.setting.listener
  pub accepted : are_accepted s.setting.limits.rows s.ledger.own [] s.ledger.changes ≡ true
  -- No two own rows are of one program, version and netid, nor are two live ones.
  pub own_distinct : are_distinct s.ledger.own ≡ true
  pub distinct : are_distinct (rows_in s.ledger) ≡ true
  -- At good limits no more rows are live than there may be, nor live or needed by a list.
  pub fit : are_good s.setting.limits s.setting.listener ≡ true → length (rows_in s.ledger) ≤ s.setting.limits.rows
  pub needed_fit : are_good s.setting.limits s.setting.listener ≡ true
      → length (rows_in s.ledger) + length (needed_removals s.connections.all s.ledger) ≤ s.setting.limits.rows

abbrev pub LedgersAreWellKept : Type 0
LedgersAreWellKept = (s : State) → IsReached s → IsWellKept s
