-- Connections and forwarded calls on a page: how each begins, goes on and ends, and when (RFC 1833 sections 2.2.1 and 3.2; deadlines are
-- this daemon's). Begin at `Goes`, and read upwards. What is known is a `State`; there is no step of the model, and no parser of calls.
-- What is answered is on the page of answers, Answers.antt, and what passes on a connection is on the page of runs, Accounts.antt.
use Rattle.std.specs.Prelude.{◌≡◌, ◌⊎◌, ◌↔◌, ◌<◌, ◌≤◌, ℕ, ◌+◌, ◌-◌, ◌==◌, max, not, List, [], ◌∷◌, ◌++◌, length, map, filter, drop, Option, Some, None, All, Contains}
use Rattle.std.specs.List.{count_by}
use Rattle.rb_xdr.specs.Xdr.{AreBytes}
use Rattle.rb_address.specs.declared.netid.Netid.{Netid}
use Rattle.rb_address.specs.declared.who.Who.{Who}
use Rattle.rb_address.specs.declared.caller.Caller.{Caller}
use Rattle.rb_address.specs.declared.caller.Caller.TheVariants.{Tcp, Udp}
use Rattle.rb_arguments.specs.declared.kind.Kind.{Kind}
use Rattle.rb_rpc.specs.declared.reply.ReplyStatus.{ReplyStatus}
use Rattle.rb_rpc.specs.Grammar.{BeginsWithReply}
use Rattle.rb_uaddr.specs.declared.address.Uaddr.{Uaddr}
use Rattle.rb_registry.specs.declared.row.Row.{Row}
use Rattle.rb_registry.specs.Rows.Change.{Added}
use Rattle.rb_forward.specs.declared.types.Ended.{Ended}
use Rattle.rb_forward.specs.declared.types.ForwardEnd.{ForwardEnd}
use Rattle.rb_forward.specs.declared.types.ForwardEnd.TheVariants.{Failed, Dropped}
use Rattle.rb_forward.specs.Forwards.{Entry, outcome_said, is_of_connection, unsent, sent, with_next_entry}
use Rattle.rb_forward.specs.Ends.{EndsFirst, IsReplyTo, IsOf}
use Rattle.rb_arguments.specs.declared.remote.RemoteCall.{RemoteCall}
use Rattle.rb_arguments.specs.declared.request.Request.TheVariants as requests
use Rattle.rb_arguments.specs.Remote.{args_of}
use Rattle.rb_answers.specs.declared.call.Call.{Call}
use Rattle.rb_answers.specs.Callers.{who_of}
use Rattle.rb_answers.specs.Ledger.{rows_in}
use Rattle.rb_answers.specs.Forwarding.{address_of_row, forward_of, end_notes}
use Rattle.rb_model.specs.declared.types.CoreFault.{CoreFault}
use Rattle.rb_model.specs.declared.types.CoreFault.TheVariants.{Gone}
use Rattle.rb_model.specs.Grammar.{BeginsWithRequest}
use Rattle.rb_model.specs.Calls.{Outcome, Outcome as outcomes}
use Rattle.rb_model.specs.State.{Phase, Connection, State}
use Rattle.rb_model.specs.State.Phase.{Idle, Reading, Owing, Awaiting, Lost}
use Rattle.rb_model.specs.Connections.{is_lost, live_connection, pending_in, since_when_fed, phase_after, with_given, with_new}
use Rattle.rb_model.specs.Losses.{is_due, stamp_in, needed_removals}
use Rattle.rb_model.specs.Ending.{outcome_at_end}
use Rattle.rb_model.specs.Laws.{IsLive, IsLost, IsLeast, owed_bytes}
use Rattle.rb_model.specs.DeadlineLaws.{EntryIsDue}
use Rattle.rb_model.specs.Closings.{EndsAtDeadline}
use Rattle.rb_model.specs.ForwardLaws.{count_awaiting, later_output}
use Rattle.rb_model.specs.Sessions.{Session, replies_to, with_last_outcome, is_answered, AwaitsLast, AllGiven}
use Rattle.rb_model.specs.Step.{Event, Output, Output as outputs, longest_to}
use Rattle.rb_model.specs.Step.Event.{Open, Bytes, Pending, Gave, Closed, NextLost, Datagram, Unsent, Sent, Forward, Expire, ZeroStats}
use Rattle.rb_model.specs.Step.Output.{Opened, Refused, TooMuch, Took, TookAndLost, IsPending, Done, LostIs, UnsentIs, Ignored, Nothing, ConnectionLost, Ready}
use Rattle.rb_promises.specs.Refusals.{IsRefusedWith, GivesTooMuch}
use Rattle.rb_promises.specs.LookUps.{IsFoundExactly}
use Rattle.rb_promises.specs.Forwards.{GoesBy, CanGo}
use Rattle.rb_promises.specs.Accounts.{context_at, opened_by}

-- A live connection stands as what passed on it says: all replies were given, and no byte or some of a record came; or a reply is not
-- given whole; or the last call was forwarded.
abbrev pub StandsAt : Phase → Session → Type 0
StandsAt Idle t = AllGiven t × (t.unfinished ≡ [])
StandsAt (Reading fed) t = AllGiven t × (t.unfinished ≡ fed)
StandsAt (Owing o) t = All is_answered t.calls × (t.given ++ owed_bytes o ≡ replies_to t.calls) × (o.given < length o.marked)
StandsAt Awaiting t = AwaitsLast t.calls
StandsAt Lost t = ⊥

-- all connections, live or Lost: the number of each, with who is at its other end
abbrev pub those_in : State → List (ℕ × Who)
those_in s = map (λ (c : Connection). (c.number, c.who)) s.connections.all

-- those that an event leaves: one that is closed goes
abbrev pub left_by : Event → List (ℕ × Who) → List (ℕ × Who)
left_by (Closed id) those = filter (λ (c : ℕ × Who). not (c.0 == id)) those
left_by other those = those

-- What the datagram of a target says: results of at most 8,800 bytes pass, the refusal of the call itself is passed on, and all else is
-- a failure.
pub data IsSaid (message : List ℕ) (how : ForwardEnd) : Type 0 where
  ByReply : (xid : ℕ) (status : ReplyStatus) (place : ℕ) → BeginsWithReply xid status place message
      → how ≡ outcome_said status place (length message - place) → IsSaid message how
  ByNoReply : ((xid : ℕ) (status : ReplyStatus) (place : ℕ) → ¬ (BeginsWithReply xid status place message)) → how ≡ Failed → IsSaid message how

-- What was known, and what had passed on each connection; the event and its output; and the same after it.
module _ (s : State) (t : ℕ → Session) (event : Event) (output : Output) (left : State) (u : ℕ → Session) where
  -- ---- how connections go on

  -- A connection that stays live is as it was, and nothing passed on it, or goes on by what passed. It is due 300,000 ms from `since` if
  -- it is Idle, 30,000 ms if it is Reading or Owing: from its opening, the first byte of a record, the end of a call, the last bytes given.
  pub data GoesOn (id : ℕ) (c d : Connection) : Type 0 where
    AsItWas : u id ≡ t id → d ≡ c → GoesOn id c d
    ReadsOn : (now : ℕ) (piece : List ℕ) → event ≡ Bytes now id piece → 0 < length piece → output ≡ Took (length piece)
        → d ≡ record c { phase = Reading ((t id).unfinished ++ piece); since = since_when_fed (max s.clock now) c.since c.phase } → GoesOn id c d
    RecordEnds : (now n : ℕ) (piece content : List ℕ) (said : Outcome) → event ≡ Bytes now id piece → output ≡ Took n
        → (u id).calls ≡ (t id).calls ++ record { content = content; said = said } ∷ []
        → d ≡ record c { phase = phase_after said; since = max s.clock now } → GoesOn id c d
    IsGiven : (now n : ℕ) → event ≡ Gave now id n → output ≡ Done → d ≡ with_given (max s.clock now) n c → GoesOn id c d
    IsTold : (said : Outcome) → output ≡ Ready id → AwaitsLast (t id).calls → (u id).calls ≡ with_last_outcome said (t id).calls
        → d ≡ record c { phase = phase_after said; since = left.clock } → GoesOn id c d

  -- ---- how connections end

  -- the record that came was no call, as the output tells
  pub record BringsNoCall (id : ℕ) : Type 0 where
    pub now : ℕ
    pub piece : List ℕ
    pub n : ℕ
    pub is : event ≡ Bytes now id piece
    pub told : output ≡ TookAndLost n

  -- A SET was accepted while the live rows and those that lists need reached the limit, and this connection's list began before the
  -- earliest change that removed a row which some list needs; so several may be Lost at once.
  pub record MakesRoom (c : Connection) : Type 0 where
    pub row : Row
    pub adds : left.ledger.changes ≡ s.ledger.changes ++ Added row ∷ []
    pub full : s.setting.limits.rows ≤ length (rows_in s.ledger) + length (needed_removals s.connections.all s.ledger)
    pub stamp : ℕ
    pub lists : stamp_in c.phase ≡ Some stamp
    pub before : All (λ change. stamp < change) (needed_removals s.connections.all s.ledger)

  pub record Connect : Type 0 where
    pub stands : (id : ℕ) (c : Connection) → IsLive left id c → StandsAt c.phase (u id)
    -- it waits exactly while a forwarded call is its own, which is one alone
    pub waits : (id : ℕ) → count_by (is_of_connection id) left.ledger.forwards.all ≡ count_awaiting (live_connection id left.connections.all)
    pub goes_on : (id : ℕ) (c d : Connection) → IsLive s id c → IsLive left id d → GoesOn id c d
    -- A live connection is Lost for one of these reasons, and each is there from its opening until it is closed.
    pub lost : (id : ℕ) (c : Connection) → IsLive s id c → IsLost left id ↔ (BringsNoCall id ⊎ EndsAtDeadline s id c event ⊎ MakesRoom c)
    pub there : those_in left ≡ left_by event (those_in s) ++ opened_by event output
    pub stays_lost : (c : Connection) → Contains s.connections.all c → c.phase ≡ Lost → ¬ (event ≡ Closed c.number) → Contains left.connections.all c

  -- ---- how forwarded calls begin

  -- The call asks for a forwarded one, and a row of just its program and version is found to which it may go: an entry begins. It is sent
  -- to the row's address, on this machine if that is every host, with a new xid, AUTH_NONE and the arguments as they came, and is due from
  -- 5,000 ms on.
  pub record Begins (clock : ℕ) (caller : Caller) (content : List ℕ) : Type 0 where
    pub call : Call
    pub kind : Kind
    pub remote : RemoteCall
    pub forwards : call.request ≡ requests.Forward kind remote
    pub asked : AreBytes content → BeginsWithRequest call content
    pub arguments : List ℕ
    pub behind : (are : AreBytes content) → arguments ≡ drop (asked are).place content
    pub netid : Netid
    pub goes_by : GoesBy (who_of caller).source netid
    pub row : Row
    pub is_found : IsFoundExactly remote.prog remote.vers netid (rows_in s.ledger) (Some row)
    pub can_go : CanGo (context_at s.setting.limits s.setting.listener clock caller) remote row
    pub address : Uaddr
    pub is_at : address_of_row row ≡ Some address
    pub begins : left.ledger.forwards
        ≡ with_next_entry clock (forward_of (context_at s.setting.limits s.setting.listener clock caller) call.head.xid kind remote address) (args_of remote arguments) s.ledger.forwards

  abbrev pub NoneMoves : Type 0
  NoneMoves = left.ledger.forwards ≡ s.ledger.forwards

  -- a record of this content was answered so on the connection
  abbrev pub IsForwarded : ℕ → List ℕ → Type 0
  IsForwarded id content = (u id).calls ≡ (t id).calls ++ record { content = content; said = outcomes.Forwarded } ∷ []

  pub data BeginsOn (clock id : ℕ) : Type 0 where
    OneBegins : (content : List ℕ) (c : Connection) → IsForwarded id content → IsLive s id c → Begins clock (Tcp id c.who) content → BeginsOn clock id
    NoneBegins : ((content : List ℕ) → ¬ (IsForwarded id content)) → NoneMoves → BeginsOn clock id

  pub data BeginsFor (clock : ℕ) (who : Who) (content : List ℕ) : Type 0 where
    OneBegins : output ≡ outputs.Forwarded → Begins clock (Udp who (longest_to s.setting.listener.terms who (length content))) content → BeginsFor clock who content
    NoneBegins : ¬ (output ≡ outputs.Forwarded) → NoneMoves → BeginsFor clock who content

  -- ---- how forwarded calls end

  -- The caller of the call is told this: its connection goes on with it, or it is sent back over UDP.
  abbrev pub Tells : Caller → Outcome → Type 0
  Tells (Tcp id who) said = (output ≡ Ready id) × ((u id).calls ≡ with_last_outcome said (t id).calls)
  Tells (Udp who longest) said = output ≡ later_output who said

  -- The first such call ends so, if there is one: its caller alone is told, by the datagram of its target if there is one, and statistics
  -- count how it ended.
  pub record CallEnds (Is : Entry → Type 0) (how : ForwardEnd) (message : List ℕ) (Else : Type 0) : Type 0 where
    pub ended : Option Ended
    pub first : EndsFirst Is how s.ledger.forwards ended left.ledger.forwards
    pub told : (it : Ended) → ended ≡ Some it → Tells it.forward.caller (outcome_at_end message it)
    pub noted : left.ledger.history ≡ s.ledger.history ++ end_notes ended
    pub none : ended ≡ None → Else

  -- ---- deadlines

  -- no entry is due: the due connection of least number is Lost, which the program then closes, or none is due
  pub record ConnectionIsDue (clock : ℕ) : Type 0 where
    pub due : Option ℕ
    pub least : IsLeast (is_due clock) s.connections.all due
    pub some : (id : ℕ) → due ≡ Some id → output ≡ ConnectionLost id
    pub none : due ≡ None → output ≡ Nothing

  -- ---- what is told, by event

  pub record LostIsTold : Type 0 where
    pub number : Option ℕ
    pub told : output ≡ LostIs number
    pub least : IsLeast (λ (c : Connection). is_lost c.phase) s.connections.all number

  pub data OpensOne (clock : ℕ) (who : Who) : Type 0 where
    Opens : output ≡ Opened s.connections.next → left.connections ≡ with_new who clock s.connections → OpensOne clock who
    OpensNone : (fault : CoreFault) → output ≡ Refused fault → OpensOne clock who

  pub data ClosesOne (id : ℕ) : Type 0 where
    Closes : output ≡ Done → (ended : Option Ended) → EndsFirst (λ e. IsOf id e.forward.caller) Dropped s.ledger.forwards ended left.ledger.forwards
        → left.ledger.history ≡ s.ledger.history ++ end_notes ended → ClosesOne id
    ClosesNone : output ≡ Refused Gone → left.ledger ≡ s.ledger → ClosesOne id

  pub data SendsOne (number : ℕ) : Type 0 where
    Sends : output ≡ Done → left.ledger.forwards ≡ sent number s.ledger.forwards → SendsOne number
    SendsNone : output ≡ Refused Gone → NoneMoves → SendsOne number

  abbrev pub Does : Event → Type 0
  Does (Open now who) = OpensOne (max s.clock now) who × NoneMoves
  Does (Pending id) = ((c : Connection) → IsLive s id c → output ≡ IsPending (pending_in c.phase)) × NoneMoves
  Does (Closed id) = ClosesOne id
  Does NextLost = LostIsTold × NoneMoves
  Does (Bytes now id piece) = BeginsOn (max s.clock now) id
  Does (Datagram now who content) = BeginsFor (max s.clock now) who content
  Does Unsent = (output ≡ UnsentIs (unsent s.setting.first_xid s.ledger.forwards)) × NoneMoves
  Does (Sent number) = SendsOne number
  Does (Forward now from message) =
      (how : ForwardEnd) × (AreBytes message → IsSaid message how)
      × CallEnds (IsReplyTo s.setting.first_xid (max s.clock now) from message) how message (output ≡ Ignored)
  Does (Expire now) = CallEnds (EntryIsDue (max s.clock now)) Failed [] (ConnectionIsDue (max s.clock now))
  Does ZeroStats = (output ≡ Done) × NoneMoves
  Does other = NoneMoves

  -- ---- one event

  pub record Goes : Type 0 where
    pub setting : left.setting ≡ s.setting
    pub next : left.connections.next ≡ s.connections.next + length (opened_by event output)
    pub connect : Connect
    pub does : Does event
    -- What is refused, and with what.
    pub refused : (fault : CoreFault) → (output ≡ Refused fault) ↔ IsRefusedWith s event fault
    pub too_much : (output ≡ TooMuch) ↔ GivesTooMuch s event
