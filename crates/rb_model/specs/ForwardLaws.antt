-- Laws of forwarded calls (RFC 1833 sections 2.2.1 and 3.2).
use Rattle.std.specs.Prelude.{◌≡◌, ℕ, ◌+◌, ◌==◌, nat_le, nat_lt, max, not, is_some, Bool, true, ◌&&◌, if◌then◌else◌, List, [], ◌∷◌, ◌++◌, map, filter, Option, Some, None, Ok}
use Rattle.std.specs.List.{count_by, list_any}
use Rattle.rb_address.specs.declared.peer.Peer.{Peer}
use Rattle.rb_address.specs.declared.who.Who.{Who}
use Rattle.rb_address.specs.declared.caller.Caller.{Caller}
use Rattle.rb_address.specs.declared.caller.Caller.TheVariants.{Tcp, Udp}
use Rattle.rb_forward.specs.declared.types.ForwardEnd.TheVariants.{Failed}
use Rattle.rb_forward.specs.declared.types.FwdId.{FwdId}
use Rattle.rb_forward.specs.Forwards.{Entry, outcome_of, is_of_connection, id_of, ended_by}
use Rattle.rb_forward.specs.Ends.{NoneIs, IsFirst, IsReplyTo}
use Rattle.rb_forward.specs.Laws.{number_of, times}
use Rattle.rb_answers.specs.declared.listener.Listener.{Listener}
use Rattle.rb_model.specs.declared.types.Limits.{Limits}
use Rattle.rb_rpc.specs.declared.standing.Standing.TheVariants.{Sends}
use Rattle.rb_model.specs.declared.types.Told.{Told}
use Rattle.rb_model.specs.declared.types.Told.TheVariants.{TcpReady}
use Rattle.rb_model.specs.declared.types.Expired.{Expired}
use Rattle.rb_model.specs.declared.types.Expired.TheVariants.{Nothing, Ended, ConnectionLost}
use Rattle.rb_model.specs.Calls.{Outcome, reply_in}
use Rattle.rb_model.specs.Calls.Outcome.{NoCall, Reply, Forwarded, Silent}
use Rattle.rb_model.specs.State.{Connection, State, opening}
use Rattle.rb_model.specs.Laws.{is_awaiting}
use Rattle.rb_model.specs.Connections.{settle, live_connection, changed_at}
use Rattle.rb_model.specs.Ending.{outcome_at_end, told_over_udp, at_fresh_moment, forward_reply, expire}
use Rattle.rb_model.specs.Standings.{standing_of, standing_behind}
use Rattle.rb_model.specs.Step.{Taken, Event, Output, Output as outputs, bytes, unsent_call, step, after, IsReached}
use Rattle.rb_model.specs.Step.Event.{Forward, Expire}
use Rattle.rb_model.specs.Step.Output.{RepliedTo}
use Rattle.rb_model.specs.DeadlineLaws.{clock_at, EntryIsDue}

-- ---- connections that wait

-- 1 for a connection that awaits the end of a call that was forwarded for it
abbrev pub count_awaiting : Option Connection → ℕ
count_awaiting None = 0
count_awaiting (Some c) = if is_awaiting c.phase then 1 else 0

-- AWAIT-2: A connection is Awaiting exactly while one forwarded call is its own, and no other
-- connection has one.
abbrev pub ConnectionsAwait : Type 0
ConnectionsAwait =
    (s : State) → IsReached s → (id : ℕ)
    → count_by (is_of_connection id) s.ledger.forwards.all ≡ count_awaiting (live_connection id s.connections.all)

-- an entry of this connection is there, and was not sent
abbrev pub has_unsent : ℕ → State → Bool
has_unsent id s = list_any (λ (e : Entry). is_of_connection id e && not e.sent) s.ledger.forwards.all

-- If a connection stands as Sends after bytes, its call is there and was not sent, so an unsent call is lent.
-- STANDING-2
abbrev pub SendsAreUnsent : Type 0
SendsAreUnsent =
    (s : State) → IsReached s → (now id : ℕ) (piece : List ℕ) (taken : Taken) → (bytes s now id piece).0 ≡ Ok taken
    → let left : State = (bytes s now id piece).1 in
    standing_behind taken.count (standing_of id left) ≡ Sends
    → (has_unsent id left ≡ true) × (is_some (unsent_call left) ≡ true)

-- ---- how an entry ends

-- The caller of the call of this number is told this, and nobody else: a connection goes on with it, or it is the reply over
-- UDP.
-- END-1
abbrev pub CallerGets : State → ℕ → Outcome → FwdId → Caller → Told → State → Type 0
CallerGets s clock said call (Tcp id who) told after =
    (told ≡ TcpReady id) × (after.connections ≡ changed_at id (settle clock said) s.connections) × (after.reply ≡ [])
CallerGets s clock said call (Udp who longest) told after =
    (told ≡ told_over_udp call who said) × (after.connections ≡ s.connections) × (after.reply ≡ reply_in said)

-- The first entry for which `Is` holds ends, and is there no longer; its caller is told what `says`
-- gives for it.
pub record EndsFirst (Is : Entry → Type 0) (says : Entry → Outcome) (s : State) (clock : ℕ) (told : Told) (after : State) : Type 0 where
  pub entry : Entry
  pub first : IsFirst Is s.ledger.forwards.all entry after.ledger.forwards.all
  pub tells : CallerGets s clock (says entry) (id_of entry) entry.forward.caller told after

-- `Is` holds for no entry. But for the clock and the last reply over UDP, nothing changes.
-- END-3: A datagram that answers no forwarded call changes nothing but the clock and the last reply
-- over UDP, which is taken back.
pub record EndsNone (Is : Entry → Type 0) (s : State) (now : ℕ) (after : State) : Type 0 where
  pub none : NoneIs Is s.ledger.forwards.all
  pub stays : after ≡ at_fresh_moment now s

-- what the caller of an entry is told by the datagram of its target
abbrev pub said_by : List ℕ → Entry → Outcome
said_by message e = outcome_at_end message (ended_by (outcome_of message) e)

abbrev pub EndsByReply : State → ℕ → Peer → List ℕ → Option Told → State → Type 0
EndsByReply s now from message None after =
    EndsNone (IsReplyTo s.setting.first_xid (max s.clock now) from message) s now after
EndsByReply s now from message (Some told) after =
    EndsFirst (IsReplyTo s.setting.first_xid (max s.clock now) from message) (said_by message) s (max s.clock now) told after

-- A datagram ends the first entry that was sent to where it comes from, by its xid and before its deadline, and its caller is
-- told what the datagram says. Every other datagram is ignored.
abbrev pub RepliesEndTheirOwn : Type 0
RepliesEndTheirOwn =
    (s : State) (now : ℕ) (from : Peer) (message : List ℕ)
    → EndsByReply s now from message (forward_reply s now from message).0 (forward_reply s now from message).1

abbrev pub said_at_deadline : Entry → Outcome
said_at_deadline e = outcome_at_end [] (ended_by Failed e)

abbrev pub EndsByDeadline : State → ℕ → Expired → State → Type 0
EndsByDeadline s now Nothing after = EndsNone (EntryIsDue (clock_at now s)) s now after
EndsByDeadline s now (Ended told) after =
    EndsFirst (EntryIsDue (clock_at now s)) said_at_deadline s (max s.clock now) told after
EndsByDeadline s now (ConnectionLost id) after =
    NoneIs (EntryIsDue (clock_at now s)) s.ledger.forwards.all × (after.ledger ≡ s.ledger)

-- The first entry whose deadline has come ends, if there is one. If there is none, no entry changes.
-- END-2
abbrev pub DeadlinesEndOne : Type 0
DeadlinesEndOne = (s : State) (now : ℕ) → EndsByDeadline s now (expire s now).0 (expire s now).1

-- ---- what callers over UDP get

-- the output with what they are told
abbrev pub later_output : Who → Outcome → Output
later_output who (Reply reply stamp) = RepliedTo who reply
later_output who NoCall = outputs.Silent
later_output who Forwarded = outputs.Silent
later_output who Silent = outputs.Silent

-- If the caller of the first entry for which `Is` holds is over UDP, the output of the event has what `says` gives
-- for it.
abbrev pub TellsOverUdp : (Entry → Type 0) → (Entry → Outcome) → State → Event → Type 0
TellsOverUdp Is says s event =
    (e : Entry) (rest : List Entry) (who : Who) (longest : ℕ) → IsFirst Is s.ledger.forwards.all e rest → e.forward.caller ≡ Udp who longest
    → (step s event).0 ≡ later_output who (says e)

-- A caller over UDP gets what the datagram of its target says, or what the deadline says.
pub record UdpCallersAreTold (s : State) : Type 0 where
  pub replies : (now : ℕ) (from : Peer) (message : List ℕ)
      → TellsOverUdp (IsReplyTo s.setting.first_xid (clock_at now s) from message) (said_by message) s (Forward now from message)
  pub deadlines : (now : ℕ) → TellsOverUdp (EntryIsDue (clock_at now s)) said_at_deadline s (Expire now)

-- ---- each ends once

-- the numbers of the entries that are there
abbrev pub numbers_in : State → List ℕ
numbers_in s = map number_of s.ledger.forwards.all

-- the number of the next one
abbrev pub next_in : State → ℕ
next_in s = s.ledger.forwards.next

-- One of these numbers is gone, and the others stay in their order.
pub record OneIsGone (numbers left : List ℕ) : Type 0 where
  pub before : List ℕ
  pub gone : ℕ
  pub behind : List ℕ
  pub were : numbers ≡ before ++ gone ∷ behind
  pub are_left : left ≡ before ++ behind

-- The entries that are there are the same, or one of them has ended, or one has begun after them, with the next number.
pub data ChangesAtMostOne (old new : State) : Type 0 where
  Same : numbers_in new ≡ numbers_in old → next_in new ≡ next_in old → ChangesAtMostOne old new
  OneEnds : OneIsGone (numbers_in old) (numbers_in new) → next_in new ≡ next_in old
      → ChangesAtMostOne old new
  OneBegins : numbers_in new ≡ numbers_in old ++ next_in old ∷ [] → next_in new ≡ next_in old + 1
      → ChangesAtMostOne old new

-- END-5
abbrev pub EventsChangeAtMostOne : Type 0
EventsChangeAtMostOne = (s : State) (event : Event) → ChangesAtMostOne s (step s event).1

-- the numbers of the entries that are there before the event and not after it
abbrev pub gone_with : State → Event → List ℕ
gone_with s event = filter (λ n. times n (numbers_in (step s event).1) == 0) (numbers_in s)

-- the same of all events of a run, in order
abbrev pub ended_in : State → List Event → List ℕ
ended_in s [] = []
ended_in s (event ∷ events) = gone_with s event ++ ended_in (step s event).1 events

-- the entries that have begun have the numbers from 1 up to that of the next one
abbrev pub has_begun : ℕ → State → Bool
has_begun number s = nat_le 1 number && nat_lt number (next_in s)

-- In every run, each entry that has begun has ended with one event, or is there, once. No other number occurs.
-- END-5: Each forwarded call of a run that has begun has ended with exactly one of its events, or
-- is still there. An event ends one, or begins one with the next number, or neither.
abbrev pub EntriesEndOnce : Type 0
EntriesEndOnce =
    (limits : Limits) (listener : Listener) (first_xid now : ℕ) (events : List Event) (number : ℕ)
    → let start : State = opening limits listener first_xid now in
    let end : State = after start events in
    times number (ended_in start events) + times number (numbers_in end) ≡ if has_begun number end then 1 else 0
