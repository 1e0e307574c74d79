-- The step of each event, and runs of events.
use Rattle.std.specs.Prelude.{◌≡◌, ℕ, ◌*◌, nat_lt, min, max, Bool, false, not, ◌||◌, if◌then◌else◌, List, [], ◌∷◌, length, Option, Some, None, Result, Ok, Err}
use Rattle.rb_address.specs.declared.caller.Caller.{Caller}
use Rattle.rb_address.specs.declared.peer.Peer.{Peer}
use Rattle.rb_address.specs.declared.who.Who.{Who}
use Rattle.rb_address.specs.declared.caller.Caller.TheVariants.{Tcp, Udp}
use Rattle.rb_rpc.specs.Feeds.{arguments_of}
use Rattle.rb_forward.specs.Forwards.{Unsent as UnsentCall, unsent, can_be_sent}
use Rattle.rb_answers.specs.declared.context.Context.{Context}
use Rattle.rb_answers.specs.declared.listener.Listener.{Listener}
use Rattle.rb_answers.specs.declared.listener.Terms.{Terms}
use Rattle.rb_answers.specs.Callers.{is_stranger}
use Rattle.rb_answers.specs.Ledger.{Ledger}
use Rattle.rb_answers.specs.Forwarding.{caller_dropped, call_sent}
use Rattle.rb_model.specs.declared.message.Message.{Message}
use Rattle.rb_model.specs.declared.types.CoreFault.{CoreFault}
use Rattle.rb_model.specs.declared.types.CoreFault.TheVariants.{Gone}
use Rattle.rb_model.specs.declared.types.Told.TheVariants.{TcpReady}
use Rattle.rb_model.specs.declared.types.Told.TheVariants as ends
use Rattle.rb_model.specs.declared.types.Expired.TheVariants.{Ended}
use Rattle.rb_model.specs.declared.types.Expired.TheVariants as expiries
use Rattle.rb_model.specs.declared.types.Limits.{Limits}
use Rattle.rb_model.specs.State.{Connection, Connections, State, opening, at_moment}
use Rattle.rb_model.specs.Calls.{message_of, Outcome, Outcome as outcomes, is_no_call, reply_in, longest_reply, outcome}
use Rattle.rb_model.specs.Losses.{with_room}
use Rattle.rb_model.specs.Connections.{Taking, taking_of, keep_reading, settle, pending_in, give, live_connection, on_live, open_in_table, next_lost_in_table, close_in_table}
use Rattle.rb_model.specs.Connections.Taking.{TakesNone, GoesOn, Ends}
pub use Rattle.rb_model.specs.declared.types.Taken.{Taken}
pub use Rattle.rb_model.specs.Connections.{on_connection}
pub use Rattle.rb_model.specs.Ending.{Told, Expired, forward_reply, expire}

-- ---- calls

-- what a call from a caller sees
abbrev pub context_in : State → Caller → Context
context_in s caller = record {
  announced = s.setting.listener.announced;
  terms = s.setting.listener.terms;
  reserved = s.setting.listener.reserved;
  limit = s.setting.limits.rows;
  forwards = s.setting.limits.forwards;
  clock = s.clock;
  caller = caller;
}

abbrev pub with_ledger : State → Outcome × Ledger → Outcome × State
with_ledger s (given, ledger) = (given, record s { ledger = ledger })

-- A message from a caller is answered, once there is room for the row that it may add; `arguments` are the bytes
-- after its head.
abbrev pub serve_message : State → Caller → Message → List ℕ → Outcome × State
serve_message s caller message arguments =
    with_ledger (with_room (context_in s caller) message s) (outcome (context_in s caller) message arguments s.ledger)

-- the same of the data of a record, or of a datagram
unfoldable pub serve : State → Caller → List ℕ → Outcome × State
serve s caller content = serve_message s caller (message_of content) (arguments_of content)

-- ---- connections

-- A call on the connections at a moment: if it is refused, the state stays, its clock too.
-- REFUSED-1
abbrev pub unless_refused : {A : Type 0} → ℕ → State → Result A CoreFault × Connections → Result A CoreFault × State
unless_refused now s (Err fault, connections) = (Err fault, s)
unless_refused now s (Ok x, connections) = (Ok x, record (at_moment now s) { connections = connections })

-- ---- bytes that arrive on a connection

-- settles the connection with the outcome; and whether it is Lost now, since the record is no call
abbrev pub settle_on : ℕ → Outcome × State → Bool × State
settle_on id (given, s) = (is_no_call given, on_connection id (settle s.clock given) s)

-- the data of a record on a connection is answered, and the connection is settled
unfoldable pub serve_record : State → ℕ → Who → List ℕ → Bool × State
serve_record s id who content = settle_on id (serve s (Tcp id who) content)

abbrev pub with_count : ℕ → Bool × State → Taken × State
with_count n (lost, s) = (record { count = n; lost = lost }, s)

-- Nothing is taken; or all, and no record ends; or all up to the end of a record, which is answered.
abbrev pub when_taken : State → ℕ → List ℕ → Connection → Taking → Taken × State
when_taken s id piece c TakesNone = (record { count = 0; lost = false }, s)
when_taken s id piece c (GoesOn fed) = (record { count = length piece; lost = false }, on_connection id (keep_reading s.clock fed) s)
when_taken s id piece c (Ends n content) = with_count n (serve_record s id c.who content)

abbrev pub bytes_to : State → ℕ → ℕ → List ℕ → Option Connection → Result Taken CoreFault × State
bytes_to s now id piece None = (Err Gone, s)
bytes_to s now id piece (Some c) =
    let after : Taken × State = when_taken (at_moment now s) id piece c (taking_of c.phase piece) in (Ok after.0, after.1)

unfoldable pub bytes : State → ℕ → ℕ → List ℕ → Result Taken CoreFault × State
bytes s now id piece = bytes_to s now id piece (live_connection id s.connections.all)

-- ---- bytes that are given on a connection

abbrev pub pending_on : Option Connection → Result (List ℕ) CoreFault
pending_on None = Err Gone
pending_on (Some c) = Ok (pending_in c.phase)

-- what is pending on the live connection of the number, `Gone` if there is none
abbrev pub pending_at : ℕ → Connections → Result (List ℕ) CoreFault
pending_at id c = pending_on (live_connection id c.all)

-- the rest of the current fragment
unfoldable pub pending : State → ℕ → Result (List ℕ) CoreFault
pending s id = pending_at id s.connections

-- n bytes of the current fragment were given, or all that were left of it
unfoldable pub gave : State → ℕ → ℕ → ℕ → Result (Unit {0}) CoreFault × State
gave s now id n = unless_refused now s (on_live id (give (max s.clock now) n) s.connections)

-- GAVE-2: An event that gives more than is pending is answered TooMuch, and nothing happens.
abbrev pub is_too_much : ℕ → Result (List ℕ) CoreFault → Bool
is_too_much n (Err fault) = false
is_too_much n (Ok bytes) = nat_lt (length bytes) n

-- ---- connections that come and go

unfoldable pub open_connection : State → ℕ → Who → Result ℕ CoreFault × State
open_connection s now who = unless_refused now s (open_in_table s.setting.limits.conns who (max s.clock now) s.connections)

-- END-4: A forwarded call ends with its connection: a later connection never gets its reply.
abbrev pub dropped_with : State → ℕ → Result (Unit {0}) CoreFault × Connections → Result (Unit {0}) CoreFault × State
dropped_with s id (Err fault, connections) = (Err fault, s)
dropped_with s id (Ok u, connections) =
    (Ok u, record s { connections = connections; ledger = (caller_dropped id s.ledger).1 })

-- closing has no moment, and leaves the clock
unfoldable pub close_connection : State → ℕ → Result (Unit {0}) CoreFault × State
close_connection s id = dropped_with s id (close_in_table id s.connections)

-- the Lost connection of least number
unfoldable pub next_lost : State → Option ℕ
next_lost s = next_lost_in_table s.connections

-- ---- datagrams

-- the last reply over UDP is replaced by this one, or by nothing if there is none
-- DATAGRAM-2: The last reply over UDP is lent whole; it is empty if the last `datagram`,
-- `forward_reply` or `expire` gave no reply.
abbrev pub with_reply : Outcome × State → Outcome × State
with_reply (given, s) = (given, record s { reply = reply_in given })

-- REFLECT-1: With `--udp-lists local` a reply over UDP to a stranger has at most twice the bytes of
-- its call's datagram, at once and at the end of its forwarded call; a longer one becomes
-- SYSTEM_ERR.
unfoldable pub longest_to : Terms → Who → ℕ → ℕ
longest_to terms who count =
    if terms.long_replies || not (is_stranger who) then longest_reply else min longest_reply (2 * count)

-- the caller of a datagram of these bytes
abbrev pub sender : State → Who → List ℕ → Caller
sender s who content = Udp who (longest_to s.setting.listener.terms who (length content))

-- DATAGRAM-1
unfoldable pub datagram : State → ℕ → Who → List ℕ → Outcome × State
datagram s now who content = with_reply (serve (at_moment now s) (sender s who content) content)

-- ---- calls that are forwarded

-- the one that must be sent next: the unsent entry of least number
unfoldable pub unsent_call : State → Option UnsentCall
unsent_call s = unsent s.setting.first_xid s.ledger.forwards

-- the call of the entry of a number was sent, if it was not before
unfoldable pub sent_call : State → ℕ → Result (Unit {0}) CoreFault × State
sent_call s number =
    if can_be_sent number s.ledger.forwards then (Ok tt, record s { ledger = call_sent number s.ledger }) else (Err Gone, s)

-- ---- statistics

-- statistics begin anew: nothing was called yet, and nothing else changes
-- STAT-7
unfoldable pub zero_stats : State → State
zero_stats s = record s { ledger = record s.ledger { history = [] } }

-- ---- events, one for each event line (docs/EVENTS.md)

pub data Event : Type 0 where
  Open : ℕ → Who → Event
  Bytes : ℕ → ℕ → List ℕ → Event
  Pending : ℕ → Event
  Gave : ℕ → ℕ → ℕ → Event
  Closed : ℕ → Event
  NextLost : Event
  Datagram : ℕ → Who → List ℕ → Event
  Unsent : Event
  Sent : ℕ → Event
  Forward : ℕ → Peer → List ℕ → Event
  Expire : ℕ → Event
  ZeroStats : Event

-- the result of an event, as an output line shows it
pub data Output : Type 0 where
  Opened : ℕ → Output
  Refused : CoreFault → Output
  TooMuch : Output
  Took : ℕ → Output
  TookAndLost : ℕ → Output
  IsPending : List ℕ → Output
  Done : Output
  LostIs : Option ℕ → Output
  Replied : List ℕ → Output
  Forwarded : Output
  Silent : Output
  UnsentIs : Option UnsentCall → Output
  Ignored : Output
  Nothing : Output
  ConnectionLost : ℕ → Output
  Ready : ℕ → Output
  RepliedTo : Who → List ℕ → Output

abbrev pub output_or : {A : Type 0} → (A → Output) → Result A CoreFault × State → Output × State
output_or show (Ok x, s) = (show x, s)
output_or show (Err fault, s) = (Refused fault, s)

abbrev pub show_taken : Taken → Output
show_taken t = if t.lost then TookAndLost t.count else Took t.count

abbrev pub show_done : Unit {0} → Output
show_done u = Done

-- The output of a datagram has its reply: the event is the call and the look at the reply after it.
abbrev pub show_outcome : Outcome × State → Output × State
show_outcome (outcomes.NoCall, s) = (Silent, s)
show_outcome (outcomes.Reply reply stamp, s) = (Replied reply, s)
show_outcome (outcomes.Forwarded, s) = (Forwarded, s)
show_outcome (outcomes.Silent, s) = (Silent, s)

-- the output when a forwarded call ended; `reply` is the last reply over UDP
abbrev pub show_told : List ℕ → Told → Output
show_told reply (TcpReady id) = Ready id
show_told reply (ends.Datagram call who) = RepliedTo who reply
show_told reply (ends.Silent call) = Silent

abbrev pub show_end : Option Told × State → Output × State
show_end (None, s) = (Ignored, s)
show_end (Some told, s) = (show_told s.reply told, s)

abbrev pub show_expired : Expired × State → Output × State
show_expired (expiries.Nothing, s) = (Nothing, s)
show_expired (Ended told, s) = (show_told s.reply told, s)
show_expired (expiries.ConnectionLost id, s) = (ConnectionLost id, s)

-- GAVE-2 EVENT-1
unfoldable pub step : State → Event → Output × State
step s (Open now who) = output_or Opened (open_connection s now who)
step s (Bytes now id piece) = output_or show_taken (bytes s now id piece)
step s (Pending id) = output_or IsPending (pending s id, s)
step s (Gave now id n) = if is_too_much n (pending s id) then (TooMuch, s) else output_or show_done (gave s now id n)
step s (Closed id) = output_or show_done (close_connection s id)
step s NextLost = (LostIs (next_lost s), s)
step s (Datagram now who content) = show_outcome (datagram s now who content)
step s Unsent = (UnsentIs (unsent_call s), s)
step s (Sent number) = output_or show_done (sent_call s number)
step s (Forward now from message) = show_end (forward_reply s now from message)
step s (Expire now) = show_expired (expire s now)
step s ZeroStats = (Done, zero_stats s)

-- ---- runs

-- OUTPUT-1: Each event has one output, in order.
abbrev pub run : State → List Event → List Output
run s [] = []
run s (event ∷ events) = (step s event).0 ∷ run (step s event).1 events

-- the state after the events
abbrev pub after : State → List Event → State
after s [] = s
after s (event ∷ events) = after (step s event).1 events

-- it is the state after some list of events from an opening
pub record IsReached (s : State) : Type 0 where
  pub limits : Limits
  pub listener : Listener
  pub first_xid : ℕ
  pub now : ℕ
  pub events : List Event
  pub is : s ≡ after (opening limits listener first_xid now) events
