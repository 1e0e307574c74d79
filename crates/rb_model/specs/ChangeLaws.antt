-- Laws of the changes that calls make, and of the calls that set the rows again (RFC 1833 sections 2.2.1 and 3.2).
use Rattle.std.specs.Prelude.{◌≡◌, ◌≤◌, ⊤, ℕ, ◌+◌, Bool, true, false, List, [], ◌∷◌, ◌++◌, length, map, bytes_eq, All, Option, Some, None, option_map}
use Rattle.rb_xdr.specs.Xdr.{IsNumber, AreBytes, boolean}
use Rattle.rb_rpc.specs.declared.call.Credential.{Credential}
use Rattle.rb_rpc.specs.declared.call.Credential.TheVariants as credentials
use Rattle.rb_rpc.specs.declared.call.CallHead.{CallHead}
use Rattle.rb_address.specs.declared.caller.Caller.{Caller}
use Rattle.rb_address.specs.declared.caller.Caller.TheVariants.{Tcp, Udp}
use Rattle.rb_address.specs.declared.host.Host.TheVariants.{V4}
use Rattle.rb_address.specs.declared.who.Source.TheVariants as sources
use Rattle.rb_address.specs.declared.who.Trust.{Trust}
use Rattle.rb_address.specs.declared.who.Trust.TheVariants.{Claims, Local, Stranger}
use Rattle.rb_address.specs.declared.who.Who.{Who}
use Rattle.rb_rpc.specs.CallBytes.{call_bytes}
use Rattle.rb_rpc.specs.declared.reply.ReplyStatus.TheVariants as replies
use Rattle.rb_rpc.specs.Replies.{reply_head}
use Rattle.rb_rpc.specs.Grammar.{IsCaller}
use Rattle.rb_address.specs.declared.who.Owner.{Owner}
use Rattle.rb_address.specs.declared.who.Owner.TheVariants.{Unknown, Uid}
use Rattle.rb_registry.specs.declared.row.Row.{Row}
use Rattle.rb_registry.specs.declared.row.Which.TheVariants.{Inet}
use Rattle.rb_registry.specs.Rows.{Change, rpcb_prog, left_by}
use Rattle.rb_address.specs.Netids.{netid_text}
use Rattle.rb_registry.specs.Rows.Change.{Added, Removed}
use Rattle.rb_arguments.specs.declared.rpcb.Rpcb.{Rpcb}
use Rattle.rb_arguments.specs.declared.procedure.MappingProcedure.TheVariants as mappings
use Rattle.rb_arguments.specs.declared.procedure.RpcbProcedure.TheVariants as rpcbs
use Rattle.rb_arguments.specs.declared.request.Request.{Request}
use Rattle.rb_arguments.specs.declared.request.Request.TheVariants as requests
use Rattle.rb_arguments.specs.Types.{rpcb_spelling}
use Rattle.rb_answers.specs.declared.call.Call.{Call}
use Rattle.rb_answers.specs.declared.listener.Listener.{Listener}
use Rattle.rb_answers.specs.Callers.{may_register, own_rows, owner_of, who_of}
use Rattle.rb_answers.specs.declared.reserved.Reservation.{Reservation}
use Rattle.rb_answers.specs.Reserved.{may_own}
use Rattle.rb_answers.specs.Ledger.{rows_in}
use Rattle.rb_answers.specs.Netids.{which_of}
use Rattle.rb_answers.specs.Answers.{row_of_mapping, row_of_rpcb, can_be_set}
use Rattle.rb_model.specs.declared.message.Message.{Message}
use Rattle.rb_model.specs.declared.message.Message.TheVariants as says
use Rattle.rb_model.specs.declared.types.Limits.{Limits}
use Rattle.rb_model.specs.Calls.{Outcome, message_of}
use Rattle.rb_model.specs.Calls.Outcome.{NoCall, Reply, Forwarded, Silent}
use Rattle.rb_model.specs.Connections.{Taking, taking_of, owed_of, live_connection}
use Rattle.rb_model.specs.Connections.Taking.{TakesNone, GoesOn, Ends}
use Rattle.rb_model.specs.State.{Connection, State, opening, are_good, at_moment}
use Rattle.rb_model.specs.State.Phase.{Owing}
use Rattle.rb_model.specs.Step.{sender, serve, Event, Output, step, run, after, IsReached}
use Rattle.rb_model.specs.Step.Output.{Replied}
use Rattle.rb_model.specs.Step.Event.{Open, Bytes, Datagram, ZeroStats}

-- ---- what a call asks for

-- the change that a SET or an UNSET asks for in the name of this owner
abbrev pub change_for : Owner → Request → Option Change
change_for owner (requests.Mapping mappings.Set m) = option_map Added (row_of_mapping owner m)
change_for owner (requests.Mapping mappings.Unset m) = Some (Removed m.prog m.vers Inet owner)
change_for owner (requests.Rpcb rpcbs.Set r) = option_map Added (row_of_rpcb owner r)
change_for owner (requests.Rpcb rpcbs.Unset r) = option_map (λ which. Removed r.prog r.vers which owner) (which_of r.netid)
change_for owner _ = None

-- the change that a call of this caller asks for, in the name of the owner that it counts as
abbrev pub change_asked : Caller → CallHead → Request → Option Change
change_asked caller head request = change_for (owner_of (who_of caller).trust head.cred) request

-- the credential of an owner
abbrev pub credential_for : Owner → Credential
credential_for Unknown = credentials.None
credential_for (Uid uid) = credentials.Sys uid

-- ---- what an event brings

-- a whole message: when it came, from whom, and its bytes
pub record Brought : Type 0 where
  pub now : ℕ
  pub caller : Caller
  pub content : List ℕ

-- the record that ends in a piece of bytes, if one does
abbrev pub record_in : ℕ → ℕ → Who → Taking → Option Brought
record_in now id who TakesNone = None
record_in now id who (GoesOn fed) = None
record_in now id who (Ends n content) = Some (record { now = now; caller = Tcp id who; content = content })

-- none if no connection of the number is live
abbrev pub record_on : ℕ → ℕ → List ℕ → Option Connection → Option Brought
record_on now id piece None = None
record_on now id piece (Some c) = record_in now id c.who (taking_of c.phase piece)

-- a datagram, or the record that ends in a piece of bytes
abbrev pub brought_by : State → Event → Option Brought
brought_by s (Datagram now who content) = Some (record { now = now; caller = sender s who content; content = content })
brought_by s (Bytes now id piece) = record_on now id piece (live_connection id s.connections.all)
brought_by s other = None

-- ---- what it is answered

abbrev pub said_to : State → Brought → Outcome
said_to s m = (serve (at_moment m.now s) m.caller m.content).0

-- the reply with TRUE to a call of this xid
abbrev pub true_reply : ℕ → List ℕ
true_reply xid = reply_head xid replies.Success ++ boolean true

-- a call of this xid is answered TRUE
abbrev pub told_true : ℕ → Outcome
told_true xid = Reply (true_reply xid) None

abbrev pub is_told_true : ℕ → Outcome → Bool
is_told_true xid (Reply reply stamp) = bytes_eq reply (true_reply xid)
is_told_true xid NoCall = false
is_told_true xid Forwarded = false
is_told_true xid Silent = false

-- ---- the changes that were accepted

-- the change, if there is one and the test holds
abbrev pub change_where : Bool → Option Change → List Change
change_where told None = []
change_where true (Some change) = change ∷ []
change_where false (Some change) = []

-- the change that a caller's message asks for, if it is answered TRUE
abbrev pub change_told : Caller → Outcome → Message → List Change
change_told caller said (says.Asked call) = change_where (is_told_true call.head.xid said) (change_asked caller call.head call.request)
change_told caller said says.NoCall = []
change_told caller said (says.Refused head) = []
change_told caller said (says.Garbage head) = []

abbrev pub change_from : State → Option Brought → List Change
change_from s None = []
change_from s (Some m) = change_told m.caller (said_to s m) (message_of m.content)

-- the change of the call that an event brings, if it asks for one and is answered TRUE
-- CHANGE-3: The rows are changed by the SETs and UNSETs of whole calls that were answered TRUE,
-- each once, in order, and by nothing else.
abbrev pub change_by : State → Event → List Change
change_by s event = change_from s (brought_by s event)

-- those of the events of a run, in order
abbrev pub changes_by : State → List Event → List Change
changes_by s [] = []
changes_by s (event ∷ events) = change_by s event ++ changes_by (step s event).1 events

-- The event brings a call that asks for this change, and it is answered TRUE.
pub record Asks (s : State) (event : Event) (change : Change) : Type 0 where
  pub message : Brought
  pub call : Call
  pub brings : brought_by s event ≡ Some message
  pub says : message_of message.content ≡ says.Asked call
  pub asks : change_asked message.caller call.head call.request ≡ Some change
  pub told : said_to s message ≡ told_true call.head.xid

-- the live connection of the number owes the whole reply
pub record Owes (s : State) (id : ℕ) (reply : List ℕ) : Type 0 where
  pub connection : Connection
  pub live : live_connection id s.connections.all ≡ Some connection
  pub phase : connection.phase ≡ Owing (owed_of reply None 0)

-- the caller gets the reply: it is the output of the event, or the caller's connection owes it after the event
abbrev pub GetsReply : State → Event → Caller → List ℕ → Type 0
GetsReply s event (Udp who longest) reply = (step s event).0 ≡ Replied reply
GetsReply s event (Tcp id who) reply = Owes (step s event).1 id reply

-- the row that it adds may be set, and its program is reserved for no other owner
abbrev pub MayBeMade : List Reservation → Change → Type 0
MayBeMade reserved (Added row) = (can_be_set row ≡ true) × (may_own reserved row ≡ true)
MayBeMade reserved (Removed prog vers which owner) = ⊤

-- the changes after the event are those before it, and this one
abbrev pub IsAppended : State → Event → Change → Type 0
IsAppended s event change = (step s event).1.ledger.changes ≡ s.ledger.changes ++ change ∷ []

-- A caller that may register asks for the change by the event, gets TRUE for it, and the change is appended.
pub record Accepts (s : State) (event : Event) (change : Change) : Type 0 where
  pub asked : Asks s event change
  pub registers : may_register s.setting.listener.announced (who_of asked.message.caller) ≡ true
  pub may : MayBeMade s.setting.listener.reserved change
  pub gets : GetsReply s event asked.message.caller (true_reply asked.call.head.xid)
  pub appends : IsAppended s event change

-- The event leaves the changes as they were, or appends one that it accepts.
pub data ChangesAtMostOnce (s : State) (event : Event) : Type 0 where
  Same : (step s event).1.ledger.changes ≡ s.ledger.changes → ChangesAtMostOnce s event
  OneMore : (change : Change) → Accepts s event change → ChangesAtMostOnce s event

-- From every state an event changes the rows only by a call that is told TRUE, and each that is told so by its change.
pub record ChangesByItsCall (s : State) (event : Event) : Type 0 where
  pub at_most_once : ChangesAtMostOnce s event
  pub each : (change : Change) → Asks s event change → IsAppended s event change
  pub is : (step s event).1.ledger.changes ≡ s.ledger.changes ++ change_by s event

-- CHANGE-3
abbrev pub ChangesAreAccepted : Type 0
ChangesAreAccepted = (s : State) (event : Event) → ChangesByItsCall s event

-- In every run, the changes are those that its events made, in order.
-- CHANGE-3
abbrev pub ChangesAreThoseAccepted : Type 0
ChangesAreThoseAccepted =
    (limits : Limits) (listener : Listener) (first_xid now : ℕ) (events : List Event)
    → let start : State = opening limits listener first_xid now in
    (after start events).ledger.changes ≡ changes_by start events

-- From every state, a row that an event adds is its program's owner's or uid 0's, if the program is reserved.
-- RESERVE-1
abbrev pub ReservedRowsAreSetByTheirOwners : Type 0
ReservedRowsAreSetByTheirOwners =
    (s : State) (event : Event) (row : Row) → IsAppended s event (Added row) → may_own s.setting.listener.reserved row ≡ true

-- So is each live row, in each state that a run reaches.
-- RESERVE-1
abbrev pub ReservedRowsAreOwned : Type 0
ReservedRowsAreOwned = (s : State) → IsReached s → All (λ row. may_own s.setting.listener.reserved row ≡ true) (rows_in s.ledger)

-- ---- the rows that were set

-- the live rows but for the own ones
abbrev pub set_rows : State → List Row
set_rows s = left_by s.ledger.changes

-- In each state that a run reaches, each is of another program than the portmapper, at an address that may be set on its
-- netid.
abbrev pub RowsCanBeSet : Type 0
RowsCanBeSet = (s : State) → IsReached s → All (λ row. can_be_set row ≡ true) (set_rows s)

-- Bytes can spell it: its numbers fit in 32 bits, and its address is of bytes.
pub record IsSpelled (row : Row) : Type 0 where
  pub prog : IsNumber row.prog
  pub vers : IsNumber row.vers
  pub owner : IsCaller (credential_for row.owner)
  pub addr : AreBytes row.addr

-- the uid by which a caller is known, if it is, fits in 32 bits
abbrev pub IsTrust : Trust → Type 0
IsTrust Claims = ⊤
IsTrust (Local owner) = IsCaller (credential_for owner)
IsTrust Stranger = ⊤

-- what an event brings is of bytes, from a caller of such a uid
abbrev pub BringsBytes : Event → Type 0
BringsBytes (Open now who) = IsTrust who.trust
BringsBytes (Bytes now id piece) = AreBytes piece
BringsBytes (Datagram now who content) = IsTrust who.trust × AreBytes content
BringsBytes other = ⊤

-- it is the state after some list of events that bring bytes
pub record IsReachedByBytes (s : State) : Type 0 where
  pub reached : IsReached s
  pub bytes : All BringsBytes reached.events

abbrev pub RowsAreSpelled : Type 0
RowsAreSpelled = (s : State) → IsReachedByBytes s → All IsSpelled (set_rows s)

-- ---- the calls that set them again

-- a caller from port 0 of 127.0.0.1, that claims who it is
-- KEEP-2
abbrev pub this_machine : Who
this_machine = record {
  source = sources.Inet (record { host = V4 (127 ∷ 0 ∷ 0 ∷ 1 ∷ []); port = 0 });
  asked = V4 (0 ∷ 0 ∷ 0 ∷ 0 ∷ []);
  trust = Claims;
}

-- a call of RPCBPROC_SET of version 4, by the owner of the row
abbrev pub set_head : Row → CallHead
set_head row = record { xid = 0; prog = rpcb_prog; vers = 4; proc = 1; cred = credential_for row.owner }

-- its argument; r_owner is ignored
abbrev pub rpcb_for : Row → Rpcb
rpcb_for row = record { prog = row.prog; vers = row.vers; netid = netid_text row.netid; addr = row.addr; owner = [] }

abbrev pub set_bytes : Row → List ℕ
set_bytes row = call_bytes (set_head row) ++ rpcb_spelling (rpcb_for row)

-- the call comes from this machine
-- KEEP-2
abbrev pub set_call : ℕ → Row → Event
set_call now row = Datagram now this_machine (set_bytes row)

-- such calls for these rows, one after another
abbrev pub set_calls : ℕ → List Row → List Event
set_calls now rows = map (set_call now) rows

-- its output is TRUE
abbrev pub SaysTrue : Output → Type 0
SaysTrue output = output ≡ Replied (true_reply 0)

-- Each call is answered TRUE, and after them just these rows are set, in this order.
pub record Sets (start : State) (calls : List Event) (rows : List Row) : Type 0 where
  pub told : All SaysTrue (run start calls)
  pub are_set : set_rows (after start calls) ≡ rows

-- The rows of a state that a run of bytes reaches can be set again from any opening with room for them, whatever its
-- listener, its first xid, its moment and that of the calls, if it reserves their programs for no other owners.
-- KEEP-1: One SET of version 4 from 127.0.0.1 for each row, by its owner, sets all rows of a run of
-- bytes again, in their order, from an opening with room for them that reserves their programs for
-- no other owners; if statistics then begin anew, these SETs are in none.
abbrev pub RowsCanBeSetAgain : Type 0
RowsCanBeSetAgain =
    (s : State) → IsReachedByBytes s → (limits : Limits) (listener : Listener) → are_good limits listener ≡ true
    → length (own_rows listener) + length (set_rows s) ≤ limits.rows
    → All (λ row. may_own listener.reserved row ≡ true) (set_rows s) → (first_xid opened now : ℕ)
    → Sets (opening limits listener first_xid opened) (set_calls now (set_rows s)) (set_rows s)

-- a call of at most 368 bytes sets the row
pub record HasShortCall (row : Row) : Type 0 where
  pub bytes : AreBytes (set_bytes row)
  pub short : length (set_bytes row) ≤ 368

abbrev pub KeptCallsAreShort : Type 0
KeptCallsAreShort = (s : State) → IsReachedByBytes s → All HasShortCall (set_rows s)

-- the calls that set the rows of a state again, at its moment
-- KEEP-1
abbrev pub kept_calls : State → List Event
kept_calls s = set_calls s.clock (set_rows s)

-- the opening with the same setting, at the moment of the state
abbrev pub opened_again : State → State
opened_again s = opening s.setting.limits s.setting.listener s.setting.first_xid s.clock

-- In each state that a run of bytes reaches at good limits, these calls bring all live rows back from that opening, in the
-- same order.
-- KEEP-1
abbrev pub KeptRowsAreRestored : Type 0
KeptRowsAreRestored =
    (s : State) → IsReachedByBytes s → are_good s.setting.limits s.setting.listener ≡ true
    → rows_in (after (opened_again s) (kept_calls s)).ledger ≡ rows_in s.ledger

-- those calls from that opening, and then statistics begin anew
abbrev pub restored : State → State
restored s = after (opened_again s) (kept_calls s ++ ZeroStats ∷ [])

-- Then the same rows are live, and in the statistics nothing was called.
-- KEEP-1
abbrev pub KeptRowsAreInNoStatistics : Type 0
KeptRowsAreInNoStatistics =
    (s : State) → IsReachedByBytes s → are_good s.setting.limits s.setting.listener ≡ true
    → (rows_in (restored s).ledger ≡ rows_in s.ledger) × ((restored s).ledger.history ≡ [])
