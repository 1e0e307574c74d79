-- What each event appends to the history.
use Rattle.std.proofs.Common.{◌≡◌, ℕ, Bool, true, false, cond, ◌||◌, is_some, Option, Some, None, List, [], ◌∷◌, ◌++◌, refl, sym, ap, ◌∙◌, append-nil, append_assoc}
use Rattle.std.specs.List.{list_any}
use Rattle.rb_rpc.specs.declared.call.CallHead.{CallHead}
use Rattle.rb_uaddr.specs.declared.address.Uaddr.{Uaddr}
use Rattle.rb_arguments.specs.declared.kind.Kind.{Kind}
use Rattle.rb_arguments.specs.declared.kind.Kind.TheVariants.{Callit2, Callit3, Bcast, Indirect}
use Rattle.rb_rpc.specs.Feeds.{arguments_of}
use Rattle.rb_registry.specs.declared.row.Row.{Row}
use Rattle.rb_address.specs.declared.netid.Transport.{Transport}
use Rattle.rb_registry.specs.declared.row.Which.{Which}
use Rattle.rb_registry.specs.Rows.{Change, find_exact, find_row}
use Rattle.rb_stats.specs.declared.key.Target.{Target}
use Rattle.rb_answers.specs.Callers.{who_of}
use Rattle.rb_answers.specs.Terms.{counts_look_up, counts_forward}
use Rattle.rb_registry.specs.Rows.Change.{Added}
use Rattle.rb_stats.specs.Statistics.{Note}
use Rattle.rb_stats.specs.Statistics.Note.{WasSet, WasUnset, LookedUp}
use Rattle.rb_forward.specs.Forwards.{can_be_sent, can_start}
use Rattle.rb_arguments.specs.declared.mapping.Mapping.{Mapping}
use Rattle.rb_arguments.specs.declared.remote.RemoteCall.{RemoteCall}
use Rattle.rb_arguments.specs.declared.procedure.MappingProcedure.TheVariants as mappings
use Rattle.rb_arguments.specs.declared.procedure.RpcbProcedure.TheVariants as rpcbs
use Rattle.rb_arguments.specs.declared.request.Request.{Request}
use Rattle.rb_arguments.specs.declared.request.Request.TheVariants as requests
use Rattle.rb_arguments.specs.Remote.{args_of}
use Rattle.rb_answers.specs.declared.answers.Answer.{Answer}
use Rattle.rb_answers.specs.declared.answers.Value.TheVariants as values
use Rattle.rb_answers.specs.declared.context.Context.{Context}
use Rattle.rb_answers.specs.Ledger.{Ledger, rows_in, version_of, with_call_noted, note_where, notes_where}
use Rattle.rb_address.specs.Netids.{netid_of, transport_of_protocol}
use Rattle.rb_answers.specs.Results.{result_bytes}
use Rattle.rb_answers.specs.Answers.{target_of, netid_asked, with_lookup, accepts_row, set_row, accepts_removal, removal_of, unset_rows, change_if, port_on, getport, getaddr, getversaddr, answer_to, answer, tell_done}
use Rattle.rb_answers.specs.Forwarding.{outcome_note, address_asked, forward_to, forward_call, end_notes, target_replied, fell_due, caller_dropped, call_sent}
use Rattle.rb_model.specs.declared.message.Message.{Message}
use Rattle.rb_model.specs.declared.message.Message.TheVariants as says
use Rattle.rb_model.specs.Calls.{message_of, outcome, reply_with}
use Rattle.rb_model.specs.Connections.{live_connection, is_there}
use Rattle.rb_model.specs.State.{State, at_moment, opening}
use Rattle.rb_model.specs.Step.{sender, Event, context_in, serve, step, after}
use Rattle.rb_model.specs.Step.Event.{Open, Bytes, Pending, Gave, Closed, NextLost, Datagram, Unsent, Sent, Forward, Expire, ZeroStats}
use Rattle.rb_model.specs.ChangeLaws.{is_told_true, Brought, record_on}
use Rattle.rb_model.specs.HistoryLaws.{call_note, lookup_notes, getport_notes, failure_notes, notes_done, notes_of, notes_from, notes_by, begins_anew, unless_anew, history_by, EventsAreNoted, HistoryIsOfItsEvents}
use Rattle.rb_laws.proofs.Changes.{FitsTrue, Hears, told-true, brought-hears, set-here, unset-here}
use Rattle.rb_laws.proofs.LedgerSteps.{ledger_from, ledger_left, step-ledger}

-- ---- what a call is noted as

abbrev Notes : Ledger → List Note → Ledger → Type 0
Notes old more new = new.history ≡ old.history ++ more

-- an answer, and the notes of what was done
record Fits (context : Context) (head : CallHead) (request : Request) (l : Ledger) (given : Answer × Ledger) : Type 0 where
  notes : Notes l (notes_done context head request (reply_with context head.xid given).0 (rows_in l)) given.1

change-noted : (change : Change) (note : Note) (l : Ledger) (b : Bool) → Notes l (notes_where b note) (change_if b change note l).1
change-noted change note l true = refl
change-noted change note l false = sym (append-nil l.history)

done-noted : (context : Context) (xid : ℕ) (note : Note) (l : Ledger) (done : Bool × Ledger) → (done.0 ≡ true → FitsTrue context.caller) → Notes l (notes_where done.0 note) done.1
    → Notes l (notes_where (is_told_true xid (reply_with context xid (tell_done values.Bool done)).0) note) (tell_done values.Bool done).1
unfolding result_bytes
done-noted context xid note l (b, new) fits e = rw (told-true context.caller xid b fits) e

set-noted : (context : Context) (head : CallHead) (o : Option Row) (l : Ledger) → Notes l (notes_where (set_row context head o l).0 (WasSet (version_of head.vers))) (set_row context head o l).1
unfolding set_row
set-noted context head None l = sym (append-nil l.history)
set-noted context head (Some row) l = change-noted (Added row) (WasSet (version_of head.vers)) l (accepts_row context l row)

unset-noted : (context : Context) (head : CallHead) (prog vers : ℕ) (o : Option Which) (l : Ledger) → Notes l (notes_where (unset_rows context head prog vers o l).0 (WasUnset (version_of head.vers))) (unset_rows context head prog vers o l).1
unfolding unset_rows
unset-noted context head prog vers None l = sym (append-nil l.history)
unset-noted context head prog vers (Some which) l =
    change-noted (removal_of context head prog vers which) (WasUnset (version_of head.vers)) l (accepts_removal context l (removal_of context head prog vers which))

-- a note if it counts
where-noted : (b : Bool) (note : Note) (l : Ledger) → Notes l (notes_where b note) (note_where b note l)
where-noted true note l = refl
where-noted false note l = sym (append-nil l.history)

lookup-noted : (context : Context) (head : CallHead) (target : Target) (found : Option Row) (l : Ledger) → Notes l (lookup_notes context head target found) (with_lookup context head target found l)
lookup-noted context head target found l = where-noted (counts_look_up (who_of context.caller) target.vers found) (LookedUp (version_of head.vers) target (is_some found)) l

getport-noted : (context : Context) (head : CallHead) (m : Mapping) (l : Ledger) (o : Option Transport) → Notes l (getport_notes context head m (rows_in l) o) (port_on context head m o l).1
getport-noted context head m l None = sym (append-nil l.history)
getport-noted context head m l (Some transport) =
    lookup-noted context head (record { prog = m.prog; vers = m.vers; netid = netid_of transport }) (find_row m.prog m.vers (netid_of transport) (rows_in l)) l

forward-noted : (context : Context) (xid : ℕ) (kind : Kind) (remote : RemoteCall) (args : List ℕ) (o : Option Uaddr) (l : Ledger)
    → Notes l (failure_notes context.caller (reply_with context xid (forward_to context xid kind remote args o l)).0 (outcome_note kind context.caller remote.prog remote.vers remote.proc false)) (forward_to context xid kind remote args o l).1
forward-noted context xid kind remote args None l = refused kind
  where
    refused : (kind : Kind) → Notes l (failure_notes context.caller (reply_with context xid (forward_to context xid kind remote args None l)).0 (outcome_note kind context.caller remote.prog remote.vers remote.proc false)) (forward_to context xid kind remote args None l).1
    refused Callit2 = where-noted (counts_forward context.caller false) (outcome_note Callit2 context.caller remote.prog remote.vers remote.proc false) l
    refused Callit3 = where-noted (counts_forward context.caller false) (outcome_note Callit3 context.caller remote.prog remote.vers remote.proc false) l
    refused Bcast = where-noted (counts_forward context.caller false) (outcome_note Bcast context.caller remote.prog remote.vers remote.proc false) l
    refused Indirect = where-noted (counts_forward context.caller false) (outcome_note Indirect context.caller remote.prog remote.vers remote.proc false) l
forward-noted context xid kind remote args (Some registered) l = by_place kind (can_start context.forwards l.forwards) refl
  where
    by_place : (kind : Kind) (b : Bool) → can_start context.forwards l.forwards ≡ b
        → Notes l (failure_notes context.caller (reply_with context xid (forward_to context xid kind remote args (Some registered) l)).0 (outcome_note kind context.caller remote.prog remote.vers remote.proc false)) (forward_to context xid kind remote args (Some registered) l).1
    by_place kind true e = rw e (sym (append-nil l.history))
    by_place Callit2 false e = rw e (where-noted (counts_forward context.caller false) (outcome_note Callit2 context.caller remote.prog remote.vers remote.proc false) l)
    by_place Callit3 false e = rw e (where-noted (counts_forward context.caller false) (outcome_note Callit3 context.caller remote.prog remote.vers remote.proc false) l)
    by_place Bcast false e = rw e (where-noted (counts_forward context.caller false) (outcome_note Bcast context.caller remote.prog remote.vers remote.proc false) l)
    by_place Indirect false e = rw e (where-noted (counts_forward context.caller false) (outcome_note Indirect context.caller remote.prog remote.vers remote.proc false) l)

answer-noted : (context : Context) (head : CallHead) (request : Request) (arguments : List ℕ) (l : Ledger) → Hears context → Fits context head request l (answer_to context head request arguments l)
unfolding getport getaddr getversaddr forward_call
answer-noted context head (requests.Mapping mappings.Set m) arguments l hears = record { notes = done-noted context head.xid _ l (set_row context head _ l) (λ e. hears (set-here context head _ l e)) (set-noted context head _ l) }
answer-noted context head (requests.Mapping mappings.Unset m) arguments l hears = record { notes = done-noted context head.xid _ l (unset_rows context head m.prog m.vers _ l) (λ e. hears (unset-here context head m.prog m.vers _ l e)) (unset-noted context head m.prog m.vers _ l) }
answer-noted context head (requests.Mapping mappings.Getport m) arguments l hears = record { notes = getport-noted context head m l (transport_of_protocol m.prot) }
answer-noted context head (requests.Rpcb rpcbs.Set r) arguments l hears = record { notes = done-noted context head.xid _ l (set_row context head _ l) (λ e. hears (set-here context head _ l e)) (set-noted context head _ l) }
answer-noted context head (requests.Rpcb rpcbs.Unset r) arguments l hears = record { notes = done-noted context head.xid _ l (unset_rows context head r.prog r.vers _ l) (λ e. hears (unset-here context head r.prog r.vers _ l e)) (unset-noted context head r.prog r.vers _ l) }
answer-noted context head (requests.Rpcb rpcbs.Getaddr r) arguments l hears = record { notes = lookup-noted context head (target_of context r) (find_row r.prog r.vers (netid_asked context) (rows_in l)) l }
answer-noted context head (requests.Rpcb rpcbs.Getversaddr r) arguments l hears = record { notes = lookup-noted context head (target_of context r) (find_exact r.prog r.vers (netid_asked context) (rows_in l)) l }
answer-noted context head (requests.Rpcb rpcbs.Getaddrlist r) arguments l hears = record { notes = sym (append-nil l.history) }
answer-noted context head (requests.Void procedure) arguments l hears = record { notes = sym (append-nil l.history) }
answer-noted context head (requests.Uaddr2taddr text) arguments l hears = record { notes = sym (append-nil l.history) }
answer-noted context head (requests.Taddr2uaddr netbuf) arguments l hears = record { notes = sym (append-nil l.history) }
answer-noted context head (requests.Forward kind remote) arguments l hears =
    record { notes = forward-noted context head.xid kind remote (args_of remote arguments) (address_asked context remote (rows_in l)) l }

outcome-noted : (context : Context) (message : Message) (arguments : List ℕ) (l : Ledger) → Hears context
    → Notes l (notes_of context message (outcome context message arguments l).0 (rows_in l)) (outcome context message arguments l).1
unfolding outcome answer with_call_noted
outcome-noted context says.NoCall arguments l hears = sym (append-nil l.history)
outcome-noted context (says.Refused head) arguments l hears = sym (append-nil l.history)
outcome-noted context (says.Garbage head) arguments l hears = refl
outcome-noted context (says.Asked call) arguments l hears =
    (answer-noted context call.head call.request arguments (with_call_noted call.head l) hears).notes ∙ append_assoc l.history (call_note call.head ∷ []) _

-- ---- what an event is noted as

message-noted : (s : State) (o : Option Brought) → ((m : Brought) → o ≡ Some m → Hears (context_in (at_moment m.now s) m.caller)) → Notes s.ledger (notes_from s o ++ []) (ledger_from s o)
unfolding serve
message-noted s None hears = sym (append-nil s.ledger.history)
message-noted s (Some m) hears =
    outcome-noted (context_in (at_moment m.now s) m.caller) (message_of m.content) (arguments_of m.content) s.ledger (hears m refl)
    ∙ ap (λ (notes : List Note). s.ledger.history ++ notes) (sym (append-nil (notes_from s (Some m))))

-- the ledger is left with these notes, after the history, or after nothing if statistics begin anew
left-noted : (s : State) (event : Event) → (ledger_left s event).history ≡ unless_anew (begins_anew event) s.ledger.history ++ notes_by s event
unfolding target_replied fell_due caller_dropped call_sent
left-noted s (Open now who) = sym (append-nil s.ledger.history)
left-noted s (Bytes now id piece) = message-noted s (record_on now id piece (live_connection id s.connections.all)) (brought-hears s (Bytes now id piece))
left-noted s (Pending id) = sym (append-nil s.ledger.history)
left-noted s (Gave now id n) = sym (append-nil s.ledger.history)
left-noted s (Closed id) = by_test (is_there id s.connections)
  where
    by_test : (b : Bool) → Notes s.ledger (end_notes (cond b (caller_dropped id s.ledger).0 None)) (cond b (caller_dropped id s.ledger).1 s.ledger)
    by_test true = refl
    by_test false = sym (append-nil s.ledger.history)
left-noted s NextLost = sym (append-nil s.ledger.history)
left-noted s (Datagram now who content) =
    message-noted s (Some (record { now = now; caller = sender s who content; content = content })) (brought-hears s (Datagram now who content))
left-noted s Unsent = sym (append-nil s.ledger.history)
left-noted s (Sent number) = by_test (can_be_sent number s.ledger.forwards)
  where
    by_test : (b : Bool) → Notes s.ledger [] (cond b (call_sent number s.ledger) s.ledger)
    by_test true = sym (append-nil s.ledger.history)
    by_test false = sym (append-nil s.ledger.history)
left-noted s (Forward now from message) = refl
left-noted s (Expire now) = refl
left-noted s ZeroStats = refl

pub events_are_noted : EventsAreNoted
events_are_noted s event = ap (λ (l : Ledger). l.history) (step-ledger s event) ∙ left-noted s event

-- ---- runs

-- what is left of a history and of notes after it, by one event and by others after it
left-of : (one later : Bool) (history notes more : List Note)
    → unless_anew later (unless_anew one history ++ notes) ++ more ≡ unless_anew (one || later) history ++ (unless_anew later notes ++ more)
left-of true true history notes more = refl
left-of true false history notes more = refl
left-of false true history notes more = refl
left-of false false history notes more = append_assoc history notes more

after-noted : (s : State) (events : List Event)
    → (after s events).ledger.history ≡ unless_anew (list_any begins_anew events) s.ledger.history ++ history_by s events
after-noted s [] = sym (append-nil s.ledger.history)
after-noted s (event ∷ events) =
    let later : Bool = list_any begins_anew events in
    let rest : List Note = history_by (step s event).1 events in
    after-noted (step s event).1 events
    ∙ ap (λ (history : List Note). unless_anew later history ++ rest) (events_are_noted s event)
    ∙ left-of (begins_anew event) later s.ledger.history (notes_by s event) rest

pub history_is_of_its_events : HistoryIsOfItsEvents
history_is_of_its_events limits listener first_xid now events =
    let start : State = opening limits listener first_xid now in
    after-noted start events ∙ ap (λ (kept : List Note). kept ++ history_by start events) (none-before (list_any begins_anew events))
  where
    none-before : (anew : Bool) → unless_anew anew [] ≡ []
    none-before true = refl
    none-before false = refl
