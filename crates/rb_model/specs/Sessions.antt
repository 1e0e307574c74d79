-- What passes on one connection in a whole run (RFC 5531 section 11).
use Rattle.std.specs.Prelude.{◌≡◌, ◌≢◌, ◌⊎◌, ⊤, ℕ, ◌==◌, max, Bool, true, false, if◌then◌else◌, List, [], ◌∷◌, ◌++◌, take, map, All, Option, Some, None, Result, Ok, Err}
use Rattle.std.specs.List.{flat_map}
use Rattle.rb_xdr.specs.Xdr.{AreBytes}
use Rattle.rb_address.specs.declared.caller.Caller.{Caller}
use Rattle.rb_address.specs.declared.caller.Caller.TheVariants.{Tcp}
use Rattle.rb_rpc.specs.Records.{first_record, data_of, marked_reply}
use Rattle.rb_rpc.specs.RecordLaws.{Records}
use Rattle.rb_forward.specs.declared.types.Ended.{Ended}
use Rattle.rb_forward.specs.Forwards.{is_connection}
use Rattle.rb_answers.specs.declared.listener.Listener.{Listener}
use Rattle.rb_answers.specs.Forwarding.{target_replied, fell_due}
use Rattle.rb_model.specs.declared.types.CoreFault.{CoreFault}
use Rattle.rb_model.specs.declared.types.Limits.{Limits}
use Rattle.rb_model.specs.Calls.{Outcome}
use Rattle.rb_model.specs.Step.{serve, pending, Event, Output, step, after}
use Rattle.rb_model.specs.Step.Event.{Bytes, Gave, Forward, Expire}
use Rattle.rb_model.specs.Bounds.{count_in}
use Rattle.rb_model.specs.State.{Connection, State, opening, at_moment}
use Rattle.rb_model.specs.Step.Output.{Done}
use Rattle.rb_model.specs.Connections.{live_connection}
use Rattle.rb_model.specs.Ending.{outcome_at_end}
use Rattle.rb_model.specs.Calls.Outcome.{NoCall, Reply, Forwarded, Silent}
use Rattle.rb_model.specs.Laws.{IsLive, owed_in, is_awaiting}

-- The data of a record, and its outcome: `Forwarded` while its call is forwarded, and then what the connection was
-- told at the end of that call.
pub record Exchange : Type 0 where
  pub content : List ℕ
  pub said : Outcome

-- What passed on a connection so far: all bytes that were taken, all that were given, those taken after the last
-- whole record, and the calls in the records.
pub record Session : Type 0 where
  pub taken : List ℕ
  pub given : List ℕ
  pub unfinished : List ℕ
  pub calls : List Exchange

-- ---- what one event takes and gives, by the event and its output

abbrev pub piece_to : ℕ → Event → List ℕ
piece_to id (Bytes now other piece) = if other == id then piece else []
piece_to id other = []

-- of the piece that an event brings to a connection, as many bytes as its output says
abbrev pub taken_by : ℕ → Event → Output → List ℕ
taken_by id event output = take (count_in output) (piece_to id event)

abbrev pub gave_to : ℕ → Event → ℕ
gave_to id (Gave now other n) = if other == id then n else 0
gave_to id other = 0

abbrev pub pending_bytes : Result (List ℕ) CoreFault → List ℕ
pending_bytes (Ok bytes) = bytes
pending_bytes (Err fault) = []

-- of what was pending on a connection, as many bytes as an event says, if it is not refused
abbrev pub given_by : State → ℕ → Event → Output → List ℕ
given_by s id event Done = take (gave_to id event) (pending_bytes (pending s id))
given_by s id event other = []

-- ---- the calls

-- the state at the moment of an event that brings bytes
abbrev pub at_event : Event → State → State
at_event (Bytes now id piece) s = at_moment now s
at_event other s = s

-- a record with this data from this caller, and its outcome in this state
abbrev pub exchange_in : State → Caller → List ℕ → Exchange
exchange_in s caller content = record { content = content; said = (serve s caller content).0 }

-- the call in these bytes of a record, none if no connection of the number is live
abbrev pub call_in : State → ℕ → List ℕ → Option Connection → List Exchange
call_in s id record_bytes None = []
call_in s id record_bytes (Some c) = exchange_in s (Tcp id c.who) (data_of record_bytes) ∷ []

-- the call that ended, if the bytes since the last record are a whole record
abbrev pub calls_ended : State → ℕ → List ℕ → Option ℕ → List Exchange
calls_ended s id bytes None = []
calls_ended s id bytes (Some n) = call_in s id bytes (live_connection id s.connections.all)

abbrev pub left_behind : List ℕ → Option ℕ → List ℕ
left_behind bytes None = bytes
left_behind bytes (Some n) = []

-- what a connection is told when a forwarded call ended, if that was one of its own
abbrev pub outcome_of_ended : ℕ → List ℕ → Option Ended → Option Outcome
outcome_of_ended id message None = None
outcome_of_ended id message (Some ended) = if is_connection id ended.forward.caller then Some (outcome_at_end message ended) else None

-- what a connection is told by an event at which a forwarded call ends
abbrev pub outcome_by : State → ℕ → Event → Option Outcome
outcome_by s id (Forward now from message) =
    outcome_of_ended id message (target_replied s.setting.first_xid (max s.clock now) from message s.ledger).0
outcome_by s id (Expire now) = outcome_of_ended id [] (fell_due (max s.clock now) s.ledger).0
outcome_by s id other = None

-- the calls, with this outcome for the last one
abbrev pub with_last_outcome : Outcome → List Exchange → List Exchange
with_last_outcome said [] = []
with_last_outcome said (call ∷ []) = record call { said = said } ∷ []
with_last_outcome said (call ∷ next ∷ calls) = call ∷ with_last_outcome said (next ∷ calls)

abbrev pub with_outcome : Option Outcome → List Exchange → List Exchange
with_outcome None calls = calls
with_outcome (Some said) calls = with_last_outcome said calls

-- ---- whole runs

abbrev pub empty_session : Session
empty_session = record { taken = []; given = []; unfinished = []; calls = [] }

-- the session once the bytes `more` were taken and the bytes `gave` were given
abbrev pub session_with : State → ℕ → List ℕ → List ℕ → Session → Session
session_with s id more gave t = record {
  taken = t.taken ++ more;
  given = t.given ++ gave;
  unfinished = left_behind (t.unfinished ++ more) (first_record (t.unfinished ++ more));
  calls = t.calls ++ calls_ended s id (t.unfinished ++ more) (first_record (t.unfinished ++ more));
}

abbrev pub session_after : State → ℕ → Event → Session → Session
session_after s id event t =
    let output : Output = (step s event).0 in
    let after : Session = session_with (at_event event s) id (taken_by id event output) (given_by s id event output) t in
    record after { calls = with_outcome (outcome_by s id event) after.calls }

abbrev pub session_from : State → ℕ → Session → List Event → Session
session_from s id t [] = t
session_from s id t (event ∷ events) =
    session_from (step s event).1 id (session_after s id event t) events

-- what passes on the connection of a number
abbrev pub session : State → ℕ → List Event → Session
session s id events = session_from s id empty_session events

-- ---- the law

abbrev pub marked_reply_in : Outcome → List ℕ
marked_reply_in (Reply reply stamp) = marked_reply reply
marked_reply_in NoCall = []
marked_reply_in Forwarded = []
marked_reply_in Silent = []

-- the replies to calls, each marked, joined
abbrev pub replies_to : List Exchange → List ℕ
replies_to calls = flat_map (λ call. marked_reply_in call.said) calls

-- the data of the records, in order
abbrev pub contents_of : List Exchange → List (List ℕ)
contents_of calls = map (λ call. call.content) calls

-- nothing more will be said: it has a reply, or is silent
abbrev pub IsFinal : Outcome → Type 0
IsFinal (Reply reply stamp) = ⊤
IsFinal Silent = ⊤
IsFinal NoCall = ⊥
IsFinal Forwarded = ⊥

abbrev pub is_answered : Exchange → Type 0
is_answered call = IsFinal call.said

-- Each call before the last is answered, and the last is forwarded.
pub record AwaitsLast (calls : List Exchange) : Type 0 where
  pub before : List Exchange
  pub last : Exchange
  pub whole : calls ≡ before ++ last ∷ []
  pub answered : All is_answered before
  pub forwarded : last.said ≡ Forwarded

-- Each call is answered; while one is awaited, it is the last.
abbrev pub AreAnswered : Bool → List Exchange → Type 0
AreAnswered false calls = All is_answered calls
AreAnswered true calls = AwaitsLast calls

-- `given` is a front of `all`
pub record IsFront (given all : List ℕ) : Type 0 where
  pub rest : List ℕ
  pub whole : given ++ rest ≡ all

-- each call is answered, and all replies are given
pub record AllGiven (t : Session) : Type 0 where
  pub answered : All is_answered t.calls
  pub given : t.given ≡ replies_to t.calls

-- The piece is taken whole, or as many of its bytes as make the unfinished ones a record.
abbrev pub IsWholeOrEnds : List ℕ → List ℕ → List ℕ → Type 0
IsWholeOrEnds unfinished piece more =
    (more ≡ piece) ⊎ ((n : ℕ) × (first_record (unfinished ++ more) ≡ Some n))

-- while a connection is live
pub record IsLiveSession (id : ℕ) (s : State) (c : Connection) (t : Session) : Type 0 where
  -- Each call has a reply or is silent, but for one that is awaited, which is the last,
  pub answered : AreAnswered (is_awaiting c.phase) t.calls
  -- and the bytes given, and then those that are still owed, are the marked replies, joined.
  pub replies : t.given ++ owed_in c.phase ≡ replies_to t.calls
  -- If none are owed and none is awaited, a piece is taken whole, or up to a record's end.
  pub takes : owed_in c.phase ≡ [] → is_awaiting c.phase ≡ false → (now : ℕ) (piece : List ℕ)
      → IsWholeOrEnds t.unfinished piece (taken_by id (Bytes now id piece) (step s (Bytes now id piece)).0)

pub record IsWholeSession (id : ℕ) (s : State) (t : Session) : Type 0 where
  -- The bytes taken are the marked records of the calls, joined, and then those of no whole record.
  pub records : AreBytes t.taken → Records t.taken (contents_of t.calls) t.unfinished
  -- No other split of them into records is right.
  pub only : (contents : List (List ℕ)) (rest : List ℕ) → AreBytes t.taken
      → Records t.taken contents rest → (contents ≡ contents_of t.calls) × (rest ≡ t.unfinished)
  -- The bytes given are a front of the marked replies, joined.
  pub front : IsFront t.given (replies_to t.calls)
  pub live : (c : Connection) → IsLive s id c → IsLiveSession id s c t
  -- Bytes are taken only if nothing is owed or awaited.
  pub in_turn : (event : Event) → taken_by id event (step s event).0 ≢ [] → AllGiven t

-- for each connection, in each run
-- TAKE-2
abbrev pub SessionsAreWhole : Type 0
SessionsAreWhole =
    (limits : Limits) (listener : Listener) (first_xid now : ℕ) (events : List Event) (id : ℕ)
    → let start : State = opening limits listener first_xid now in
    IsWholeSession id (after start events) (session start id events)
