-- What statistics count: each call that reached its procedure, what it did there, and how each forwarded call ended (RFC 1833
-- section 2.1, rpcb_stat).
use Rattle.std.specs.Prelude.{◌≡◌, ℕ, max, is_some, Bool, true, false, if◌then◌else◌, List, [], ◌∷◌, ◌++◌, Option, Some, None}
use Rattle.std.specs.List.{list_any}
use Rattle.rb_rpc.specs.declared.call.CallHead.{CallHead}
use Rattle.rb_address.specs.declared.caller.Caller.{Caller}
use Rattle.rb_registry.specs.declared.row.Row.{Row}
use Rattle.rb_address.specs.declared.netid.Transport.{Transport}
use Rattle.rb_registry.specs.Rows.{find_exact, find_row}
use Rattle.rb_address.specs.Netids.{netid_of, transport_of_protocol}
use Rattle.rb_stats.specs.declared.key.Target.{Target}
use Rattle.rb_stats.specs.Statistics.{Note}
use Rattle.rb_stats.specs.Statistics.Note.{Called, WasSet, WasUnset, LookedUp}
use Rattle.rb_forward.specs.declared.types.Ended.{Ended}
use Rattle.rb_arguments.specs.declared.mapping.Mapping.{Mapping}
use Rattle.rb_arguments.specs.declared.procedure.MappingProcedure.TheVariants as mappings
use Rattle.rb_arguments.specs.declared.procedure.RpcbProcedure.TheVariants as rpcbs
use Rattle.rb_arguments.specs.declared.request.Request.{Request}
use Rattle.rb_arguments.specs.declared.request.Request.TheVariants as requests
use Rattle.rb_answers.specs.declared.context.Context.{Context}
use Rattle.rb_answers.specs.declared.listener.Listener.{Listener}
use Rattle.rb_answers.specs.Callers.{who_of}
use Rattle.rb_answers.specs.Terms.{counts_look_up, counts_forward}
use Rattle.rb_answers.specs.Ledger.{rows_in, version_of, notes_where}
use Rattle.rb_answers.specs.Answers.{target_of, netid_asked}
use Rattle.rb_answers.specs.Forwarding.{outcome_note, end_notes, target_replied, fell_due, caller_dropped}
use Rattle.rb_model.specs.declared.message.Message.{Message}
use Rattle.rb_model.specs.declared.message.Message.TheVariants as says
use Rattle.rb_model.specs.declared.types.Limits.{Limits}
use Rattle.rb_model.specs.Calls.{Outcome, message_of}
use Rattle.rb_model.specs.Calls.Outcome.{Forwarded}
use Rattle.rb_model.specs.Connections.{is_there}
use Rattle.rb_model.specs.State.{State, opening, at_moment}
use Rattle.rb_model.specs.Step.{context_in, Event, step, after}
use Rattle.rb_model.specs.Step.Event.{Closed, Forward, Expire, ZeroStats}
use Rattle.rb_model.specs.ChangeLaws.{Brought, brought_by, said_to, is_told_true}

-- ---- what a call is counted as

-- its procedure was called, by this version
abbrev pub call_note : CallHead → Note
call_note head = Called (version_of head.vers) head.proc

-- a look-up of the target: whether it found a row, if that counts
abbrev pub lookup_notes : Context → CallHead → Target → Option Row → List Note
lookup_notes context head target found =
    notes_where (counts_look_up (who_of context.caller) target.vers found) (LookedUp (version_of head.vers) target (is_some found))

-- GETPORT by a protocol that is of no transport looks nothing up
abbrev pub getport_notes : Context → CallHead → Mapping → List Row → Option Transport → List Note
getport_notes context head m rows None = []
getport_notes context head m rows (Some transport) =
    lookup_notes context head (record { prog = m.prog; vers = m.vers; netid = netid_of transport }) (find_row m.prog m.vers (netid_of transport) rows)

-- a call that is forwarded counts when it ends, and one that could not be forwarded counts as a failure at once, if
-- that counts
abbrev pub failure_notes : Caller → Outcome → Note → List Note
failure_notes caller Forwarded failure = []
failure_notes caller said failure = notes_where (counts_forward caller false) failure

-- what a call with this request did, by what it was answered and the rows that were live before it: a SET or an UNSET
-- counts once more if it is answered TRUE
abbrev pub notes_done : Context → CallHead → Request → Outcome → List Row → List Note
notes_done context head (requests.Mapping mappings.Set m) said rows = notes_where (is_told_true head.xid said) (WasSet (version_of head.vers))
notes_done context head (requests.Mapping mappings.Unset m) said rows = notes_where (is_told_true head.xid said) (WasUnset (version_of head.vers))
notes_done context head (requests.Mapping mappings.Getport m) said rows = getport_notes context head m rows (transport_of_protocol m.prot)
notes_done context head (requests.Rpcb rpcbs.Set r) said rows = notes_where (is_told_true head.xid said) (WasSet (version_of head.vers))
notes_done context head (requests.Rpcb rpcbs.Unset r) said rows = notes_where (is_told_true head.xid said) (WasUnset (version_of head.vers))
notes_done context head (requests.Rpcb rpcbs.Getaddr r) said rows = lookup_notes context head (target_of context r) (find_row r.prog r.vers (netid_asked context) rows)
notes_done context head (requests.Rpcb rpcbs.Getversaddr r) said rows = lookup_notes context head (target_of context r) (find_exact r.prog r.vers (netid_asked context) rows)
notes_done context head (requests.Forward kind remote) said rows = failure_notes context.caller said (outcome_note kind context.caller remote.prog remote.vers remote.proc false)
notes_done context head _ said rows = []

-- A message that is no call, or is refused before its procedure is known, counts as nothing. A call of a procedure counts as
-- called, whether its arguments can be read or not, and then as what it did.
abbrev pub notes_of : Context → Message → Outcome → List Row → List Note
notes_of context says.NoCall said rows = []
notes_of context (says.Refused head) said rows = []
notes_of context (says.Garbage head) said rows = call_note head ∷ []
notes_of context (says.Asked call) said rows = call_note call.head ∷ notes_done context call.head call.request said rows

-- ---- what an event is counted as

abbrev pub notes_from : State → Option Brought → List Note
notes_from s None = []
notes_from s (Some m) = notes_of (context_in (at_moment m.now s) m.caller) (message_of m.content) (said_to s m) (rows_in s.ledger)

-- the forwarded call that an event ends: by a reply, at its deadline, or with its caller's connection
abbrev pub call_ended_by : State → Event → Option Ended
call_ended_by s (Forward now from message) = (target_replied s.setting.first_xid (max s.clock now) from message s.ledger).0
call_ended_by s (Expire now) = (fell_due (max s.clock now) s.ledger).0
call_ended_by s (Closed id) = if is_there id s.connections then (caller_dropped id s.ledger).0 else None
call_ended_by s event = None

-- the notes of the call that an event brings whole, and of the forwarded call that it ends
-- HISTORY-1
abbrev pub notes_by : State → Event → List Note
notes_by s event = notes_from s (brought_by s event) ++ end_notes (call_ended_by s event)

-- statistics begin anew by this event
abbrev pub begins_anew : Event → Bool
begins_anew ZeroStats = true
begins_anew event = false

-- the notes, unless statistics begin anew after them
abbrev pub unless_anew : Bool → List Note → List Note
unless_anew anew notes = if anew then [] else notes

-- those of the events of a run, in order, but for events after which statistics begin anew
-- HISTORY-1
abbrev pub history_by : State → List Event → List Note
history_by s [] = []
history_by s (event ∷ events) =
    unless_anew (list_any begins_anew events) (notes_by s event) ++ history_by (step s event).1 events

-- From every state, the history after an event is the one before it, or nothing if statistics begin anew, and after it
-- the notes of the event.
-- HISTORY-1
abbrev pub EventsAreNoted : Type 0
EventsAreNoted =
    (s : State) (event : Event)
    → (step s event).1.ledger.history ≡ unless_anew (begins_anew event) s.ledger.history ++ notes_by s event

-- HISTORY-1: The history has each call that reached its procedure, what it did, and how each
-- forwarded call ended, as far as COUNT-2 and COUNT-3 count these, in order, from where statistics
-- last began anew, and nothing else.
abbrev pub HistoryIsOfItsEvents : Type 0
HistoryIsOfItsEvents =
    (limits : Limits) (listener : Listener) (first_xid now : ℕ) (events : List Event)
    → let start : State = opening limits listener first_xid now in
    (after start events).ledger.history ≡ history_by start events
