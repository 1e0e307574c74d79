-- Which events change the rows, and by which calls.
use Rattle.std.specs.Prelude.{bytes_eq, option_map}
use Rattle.std.proofs.Common.{◌≡◌, ◌≢◌, ◌≤◌, ℕ, ◌*◌, max, min, nat_lt, Bool, true, false, cond, not, ◌&&◌, ◌||◌, Option, Some, None, Ok, List, [], ◌∷◌, ◌++◌, length, map, get_or, refl, sym, ap, subst, ◌∙◌, append-nil, append_assoc, arith}
use Rattle.std.proofs.lemmas.Bool.{and_parts}
use Rattle.std.proofs.lemmas.Grind.{common_steps}
use Rattle.std.proofs.lemmas.Option.{same_Some}
use Rattle.std.proofs.lemmas.Slice.Eq.{bytes_eq-Decides}
use Rattle.rb_xdr.specs.Xdr.{number, boolean, opaque}
use Rattle.rb_rpc.specs.Replies.{reply_head}
use Rattle.rb_rpc.specs.declared.reply.ReplyStatus.TheVariants as replies
use Rattle.rb_address.specs.declared.who.Trust.{Trust}
use Rattle.rb_address.specs.declared.who.Trust.TheVariants.{Claims, Local, Stranger}
use Rattle.rb_address.specs.declared.who.Who.{Who}
use Rattle.rb_answers.specs.Callers.{is_of_a_stranger, is_trusted, may_register}
use Rattle.rb_address.specs.declared.caller.Caller.{Caller}
use Rattle.rb_address.specs.declared.caller.Caller.TheVariants.{Tcp, Udp}
use Rattle.rb_arguments.specs.declared.kind.Kind.{Kind}
use Rattle.rb_rpc.specs.declared.call.CallHead.{CallHead}
use Rattle.rb_rpc.specs.Feeds.{arguments_of}
use Rattle.rb_registry.specs.declared.row.Row.{Row}
use Rattle.rb_registry.specs.declared.row.Which.{Which}
use Rattle.rb_registry.specs.Rows.{Change}
use Rattle.rb_registry.specs.Rows.Change.{Added}
use Rattle.rb_stats.specs.Statistics.{Note}
use Rattle.rb_stats.specs.Statistics.Note.{WasSet, WasUnset}
use Rattle.rb_arguments.specs.declared.remote.RemoteCall.{RemoteCall}
use Rattle.rb_arguments.specs.declared.procedure.MappingProcedure.TheVariants as mappings
use Rattle.rb_arguments.specs.declared.procedure.RpcbProcedure.TheVariants as rpcbs
use Rattle.rb_arguments.specs.declared.request.Request.{Request}
use Rattle.rb_arguments.specs.declared.request.Request.TheVariants as requests
use Rattle.rb_arguments.specs.declared.mapping.Mapping.{Mapping}
use Rattle.rb_answers.specs.declared.answers.Answer.{Answer}
use Rattle.rb_answers.specs.declared.call.Call.{Call}
use Rattle.rb_answers.specs.declared.answers.Value.TheVariants as values
use Rattle.rb_answers.specs.declared.context.Context.{Context}
use Rattle.rb_answers.specs.Ledger.{Ledger, rows_in, version_of, with_call_noted}
use Rattle.rb_answers.specs.Results.{result_bytes}
use Rattle.rb_answers.specs.Reserved.{may_own}
use Rattle.rb_answers.specs.Answers.{comes_from_here, can_be_set, has_share, accepts_row, set_row, accepts_removal, removal_of, unset_rows, change_if, getport, getaddr, getversaddr, answer_to, answer, tell_done}
use Rattle.rb_model.specs.declared.message.Message.{Message}
use Rattle.rb_model.specs.declared.message.Message.TheVariants as says
use Rattle.rb_model.specs.Calls.{Outcome, Outcome as outcomes, message_of, outcome, success, fitting_reply, longest_reply, longest_for, reply_with}
use Rattle.rb_forward.specs.Forwards.{can_be_sent}
use Rattle.rb_answers.specs.Forwarding.{forward_call, target_replied, fell_due, caller_dropped, call_sent}
use Rattle.rb_model.specs.Losses.{stamp_in, evict_early, evict}
use Rattle.rb_model.specs.State.{State, Phase, Connection, Connections, at_moment, opening}
use Rattle.rb_model.specs.State.Phase.{Idle, Reading, Owing, Awaiting, Lost}
use Rattle.rb_model.specs.Connections.{Taking, taking_of, settle, live_connection, is_there, changed_at}
use Rattle.rb_model.specs.Connections.Taking.{TakesNone, GoesOn, Ends}
use Rattle.rb_model.specs.Step.{longest_to, sender, Event, Output, context_in, serve, serve_record, when_taken, with_count, bytes_to, bytes, on_connection, with_reply, datagram, output_or, show_taken, show_outcome, step, after}
use Rattle.rb_model.specs.Step.Event.{Open, Bytes, Pending, Gave, Closed, NextLost, Datagram, Unsent, Sent, Forward, Expire, ZeroStats}
use Rattle.rb_model.specs.Step.Output.{Replied}
use Rattle.rb_model.specs.ChangeLaws.{change_asked, change_where, change_told, true_reply, told_true, is_told_true, Brought, record_in, record_on, brought_by, said_to, change_from, change_by, changes_by, Asks, Owes, GetsReply, MayBeMade, ChangesAtMostOnce, ChangesAreAccepted, ChangesAreThoseAccepted}
use Rattle.rb_model.specs.ChangeLaws.ChangesAtMostOnce.{Same, OneMore}
use Rattle.rb_laws.proofs.LedgerSteps.{ledger_from, ledger_left, step-ledger}
use Rattle.rb_laws.proofs.Cuts.{find-changed}
use Rattle.rb_laws.proofs.Live.{replying-feeds}
use Rattle.rb_laws.proofs.Crowds.{plain_lives}

-- ---- answers

apart : (m n : ℕ) → m ≡ 0 → n ≡ 1 → m ≡ n → ⊥
apart m n a b e = omega arith

-- the last byte of TRUE is 1, and neither FALSE nor SYSTEM_ERR has one there
never_true : (xid : ℕ) (b : Bool) → cond b (reply_head xid replies.SystemErr) (reply_head xid replies.Success ++ boolean false) ≢ true_reply xid
unfolding reply_head number boolean opaque
never_true xid true e =
    apart (get_or (reply_head xid replies.SystemErr) 27 0) (get_or (true_reply xid) 27 0) refl refl (ap (λ (bytes : List ℕ). get_or bytes 27 0) e)
never_true xid false e =
    apart (get_or (reply_head xid replies.Success ++ boolean false) 27 0) (get_or (true_reply xid) 27 0) refl refl (ap (λ (bytes : List ℕ). get_or bytes 27 0) e)

false-told : (caller : Caller) (xid : ℕ) → is_told_true xid (outcomes.Reply (success caller xid (boolean false)) None) ≡ false
unfolding fitting_reply
false-told caller xid = by_test (bytes_eq (success caller xid (boolean false)) (true_reply xid)) refl
  where
    by_test : (b : Bool) → bytes_eq (success caller xid (boolean false)) (true_reply xid) ≡ b → b ≡ false
    by_test false e = refl
    by_test true e =
        absurd (never_true xid (nat_lt (longest_for caller) (length (reply_head xid replies.Success ++ boolean false))) ((bytes_eq-Decides (success caller xid (boolean false)) (true_reply xid)).0 e))

is-told : (xid : ℕ) → is_told_true xid (told_true xid) ≡ true
is-told xid = (bytes_eq-Decides (true_reply xid) (true_reply xid)).1 refl

true-length : (xid : ℕ) → length (true_reply xid) ≡ 28
unfolding reply_head number boolean opaque
true-length xid = refl

-- TRUE is not too long for this caller
abbrev pub FitsTrue : Caller → Type 0
FitsTrue caller = 28 ≤ longest_for caller

pub true-fits : (caller : Caller) (xid : ℕ) → FitsTrue caller → success caller xid (boolean true) ≡ true_reply xid
unfolding fitting_reply
true-fits caller xid fits = grind (arith, common_steps, true-length xid)

pub told-true : (caller : Caller) (xid : ℕ) (b : Bool) → (b ≡ true → FitsTrue caller) → is_told_true xid (outcomes.Reply (success caller xid (boolean b)) None) ≡ b
told-true caller xid true fits = ap (λ (reply : List ℕ). bytes_eq reply (true_reply xid)) (true-fits caller xid (fits refl)) ∙ is-told xid
told-true caller xid false fits = false-told caller xid

-- ---- who may register is told TRUE whole

abbrev pub Hears : Context → Type 0
Hears context = comes_from_here context ≡ true → FitsTrue context.caller

longest_open : (long : Bool) (count : ℕ) → 28 ≤ min (max (cond (long || true) 9000 (min 9000 (2 * count))) 24) 9000
longest_open true count = omega arith
longest_open false count = omega arith

pub sender-hears : (s : State) (who : Who) (content : List ℕ) → may_register s.setting.listener.announced who ≡ true → FitsTrue (sender s who content)
unfolding longest_to longest_reply
sender-hears s who content may = by_trust who.trust may
  where
    long : Bool
    long = s.setting.listener.terms.long_replies

    by_trust : (trust : Trust) → is_trusted s.setting.listener.announced who.source trust ≡ true
        → 28 ≤ min (max (cond (long || not (is_of_a_stranger trust)) 9000 (min 9000 (2 * length content))) 24) 9000
    by_trust Claims may = longest_open long (length content)
    by_trust (Local owner) may = longest_open long (length content)
    by_trust Stranger may = absurd cc

record-hears : (s : State) (now id : ℕ) (who : Who) (t : Taking) (m : Brought) → record_in now id who t ≡ Some m → FitsTrue m.caller
unfolding longest_reply
record-hears s now id who TakesNone m brings = absurd cc
record-hears s now id who (GoesOn fed) m brings = absurd cc
record-hears s now id who (Ends n content) m brings =
    subst (λ (x : Brought). FitsTrue x.caller) (same_Some (record { now = now; caller = Tcp id who; content = content }) m brings) (omega arith)

bytes-hear : (s : State) (now id : ℕ) (piece : List ℕ) (o : Option Connection) (m : Brought) → record_on now id piece o ≡ Some m → FitsTrue m.caller
bytes-hear s now id piece None m brings = absurd cc
bytes-hear s now id piece (Some c) m brings = record-hears s now id c.who (taking_of c.phase piece) m brings

pub brought-hears : (s : State) (event : Event) (m : Brought) → brought_by s event ≡ Some m → Hears (context_in (at_moment m.now s) m.caller)
unfolding comes_from_here
brought-hears s (Datagram now who content) m brings =
    subst (λ (x : Brought). Hears (context_in (at_moment x.now s) x.caller)) (same_Some (record { now = now; caller = sender s who content; content = content }) m brings) (sender-hears s who content)
brought-hears s (Bytes now id piece) m brings = λ may. bytes-hear s now id piece (live_connection id s.connections.all) m brings
brought-hears s (Open now who) m brings = absurd cc
brought-hears s (Pending id) m brings = absurd cc
brought-hears s (Gave now id n) m brings = absurd cc
brought-hears s (Closed id) m brings = absurd cc
brought-hears s NextLost m brings = absurd cc
brought-hears s Unsent m brings = absurd cc
brought-hears s (Sent number) m brings = absurd cc
brought-hears s (Forward now from message) m brings = absurd cc
brought-hears s (Expire now) m brings = absurd cc
brought-hears s ZeroStats m brings = absurd cc

-- a SET or an UNSET is TRUE only if its caller may register

accepted-here : (context : Context) (l : Ledger) (row : Row) → accepts_row context l row ≡ true → (comes_from_here context ≡ true) × MayBeMade context.reserved (Added row)
unfolding accepts_row
accepted-here context l row e =
    let shared = (and_parts (comes_from_here context && can_be_set row && may_own context.reserved row && has_share context (rows_in l)) _ e).0 in
    let owned = and_parts (comes_from_here context && can_be_set row) (may_own context.reserved row) (and_parts (comes_from_here context && can_be_set row && may_own context.reserved row) _ shared).0 in
    let may = and_parts (comes_from_here context) (can_be_set row) owned.0 in
    (may.0, (may.1, owned.1))

pub set-here : (context : Context) (head : CallHead) (o : Option Row) (l : Ledger) → (set_row context head o l).0 ≡ true → comes_from_here context ≡ true
unfolding set_row
set-here context head None l e = absurd cc
set-here context head (Some row) l e = (accepted-here context l row e).0

pub unset-here : (context : Context) (head : CallHead) (prog vers : ℕ) (o : Option Which) (l : Ledger) → (unset_rows context head prog vers o l).0 ≡ true → comes_from_here context ≡ true
unfolding unset_rows accepts_removal
unset-here context head prog vers None l e = absurd cc
unset-here context head prog vers (Some which) l e = (and_parts (comes_from_here context) _ e).0

-- ---- what a call changes

-- the change that it asks for, if it is told TRUE
abbrev Appends : Ledger → List Change → Ledger → Type 0
Appends old more new = new.changes ≡ old.changes ++ more

same : (old new : Ledger) → new.changes ≡ old.changes → (told : Bool) → Appends old (change_where told None) new
same old new e told = e ∙ sym (append-nil old.changes)

change-appends : (change : Change) (note : Note) (l : Ledger) (b : Bool) → Appends l (change_where b (Some change)) (change_if b change note l).1
change-appends change note l true = refl
change-appends change note l false = sym (append-nil l.changes)

-- an answer, and the changes with that which was asked for
record Fits (context : Context) (xid : ℕ) (asked : Option Change) (l : Ledger) (given : Answer × Ledger) : Type 0 where
  appends : Appends l (change_where (is_told_true xid (reply_with context xid given).0) asked) given.1

done-fits : (context : Context) (xid : ℕ) (asked : Option Change) (l : Ledger) (done : Bool × Ledger) → (done.0 ≡ true → FitsTrue context.caller) → Appends l (change_where done.0 asked) done.1 → Fits context xid asked l (tell_done values.Bool done)
unfolding result_bytes
done-fits context xid asked l (b, new) fits e = record {
  appends = rw (told-true context.caller xid b fits) e;
}

set-fits : (context : Context) (head : CallHead) (xid : ℕ) (o : Option Row) (l : Ledger) → Hears context → Fits context xid (option_map Added o) l (tell_done values.Bool (set_row context head o l))
unfolding set_row
set-fits context head xid None l hears = done-fits context xid None l (false, l) (λ e. absurd cc) (same l l refl false)
set-fits context head xid (Some row) l hears =
    done-fits context xid (Some (Added row)) l (set_row context head (Some row) l) (λ e. hears (accepted-here context l row e).0) (change-appends (Added row) (WasSet (version_of head.vers)) l (accepts_row context l row))

unset-fits : (context : Context) (head : CallHead) (xid prog vers : ℕ) (o : Option Which) (l : Ledger) → Hears context → Fits context xid (option_map (removal_of context head prog vers) o) l (tell_done values.Bool (unset_rows context head prog vers o l))
unfolding unset_rows
unset-fits context head xid prog vers None l hears = done-fits context xid None l (false, l) (λ e. absurd cc) (same l l refl false)
unset-fits context head xid prog vers (Some which) l hears =
    done-fits context xid (Some (removal_of context head prog vers which)) l (unset_rows context head prog vers (Some which) l)
    (λ e. hears (unset-here context head prog vers (Some which) l e)) (change-appends (removal_of context head prog vers which) (WasUnset (version_of head.vers)) l (accepts_removal context l (removal_of context head prog vers which)))

other-fits : (context : Context) (xid : ℕ) (l : Ledger) (given : Answer × Ledger) → given.1.changes ≡ l.changes → Fits context xid None l given
other-fits context xid l given e = record { appends = same l given.1 e (is_told_true xid (reply_with context xid given).0) }

getport-same : (context : Context) (head : CallHead) (m : Mapping) (l : Ledger) → (getport context head m l).1.changes ≡ l.changes
unfolding getport
getport-same context head m l = grind arith

forward-same : (context : Context) (xid : ℕ) (kind : Kind) (remote : RemoteCall) (arguments : List ℕ) (l : Ledger) → (forward_call context xid kind remote arguments l).1.changes ≡ l.changes
unfolding forward_call
forward-same context xid kind remote arguments l = grind arith

answer-fits : (context : Context) (head : CallHead) (request : Request) (arguments : List ℕ) (l : Ledger) → Hears context → Fits context head.xid (change_asked context.caller head request) l (answer_to context head request arguments l)
unfolding getaddr getversaddr
answer-fits context head (requests.Mapping mappings.Set m) arguments l hears = set-fits context head head.xid _ l hears
answer-fits context head (requests.Mapping mappings.Unset m) arguments l hears = unset-fits context head head.xid m.prog m.vers (Some _) l hears
answer-fits context head (requests.Mapping mappings.Getport m) arguments l hears = other-fits context head.xid l _ (getport-same context head m l)
answer-fits context head (requests.Rpcb rpcbs.Set r) arguments l hears = set-fits context head head.xid _ l hears
answer-fits context head (requests.Rpcb rpcbs.Unset r) arguments l hears = unset-fits context head head.xid r.prog r.vers _ l hears
answer-fits context head (requests.Rpcb rpcbs.Getaddr r) arguments l hears = other-fits context head.xid l _ refl
answer-fits context head (requests.Rpcb rpcbs.Getversaddr r) arguments l hears = other-fits context head.xid l _ refl
answer-fits context head (requests.Rpcb rpcbs.Getaddrlist r) arguments l hears = other-fits context head.xid l _ refl
answer-fits context head (requests.Void procedure) arguments l hears = other-fits context head.xid l _ refl
answer-fits context head (requests.Uaddr2taddr text) arguments l hears = other-fits context head.xid l _ refl
answer-fits context head (requests.Taddr2uaddr netbuf) arguments l hears = other-fits context head.xid l _ refl
answer-fits context head (requests.Forward kind remote) arguments l hears = other-fits context head.xid l _ (forward-same context head.xid kind remote arguments l)

pub outcome-appends : (context : Context) (message : Message) (arguments : List ℕ) (l : Ledger) → Hears context
    → Appends l (change_told context.caller (outcome context message arguments l).0 message) (outcome context message arguments l).1
unfolding outcome answer with_call_noted
outcome-appends context says.NoCall arguments l hears = sym (append-nil l.changes)
outcome-appends context (says.Refused head) arguments l hears = sym (append-nil l.changes)
outcome-appends context (says.Garbage head) arguments l hears = sym (append-nil l.changes)
outcome-appends context (says.Asked call) arguments l hears = (answer-fits context call.head call.request arguments (with_call_noted call.head l) hears).appends

-- ---- what an event changes

message-appends : (s : State) (o : Option Brought) → ((m : Brought) → o ≡ Some m → Hears (context_in (at_moment m.now s) m.caller)) → Appends s.ledger (change_from s o) (ledger_from s o)
unfolding serve
message-appends s None hears = sym (append-nil s.ledger.changes)
message-appends s (Some m) hears = outcome-appends (context_in (at_moment m.now s) m.caller) (message_of m.content) (arguments_of m.content) s.ledger (hears m refl)

-- what no message brings leaves them
left-appends : (s : State) (event : Event) → Appends s.ledger (change_by s event) (ledger_left s event)
unfolding target_replied fell_due caller_dropped call_sent
left-appends s (Open now who) = sym (append-nil s.ledger.changes)
left-appends s (Bytes now id piece) = message-appends s (record_on now id piece (live_connection id s.connections.all)) (brought-hears s (Bytes now id piece))
left-appends s (Pending id) = sym (append-nil s.ledger.changes)
left-appends s (Gave now id n) = sym (append-nil s.ledger.changes)
left-appends s (Closed id) = by_test (is_there id s.connections)
  where
    by_test : (b : Bool) → Appends s.ledger [] (cond b (caller_dropped id s.ledger).1 s.ledger)
    by_test true = sym (append-nil s.ledger.changes)
    by_test false = sym (append-nil s.ledger.changes)
left-appends s NextLost = sym (append-nil s.ledger.changes)
left-appends s (Datagram now who content) =
    message-appends s (Some (record { now = now; caller = sender s who content; content = content })) (brought-hears s (Datagram now who content))
left-appends s Unsent = sym (append-nil s.ledger.changes)
left-appends s (Sent number) = by_test (can_be_sent number s.ledger.forwards)
  where
    by_test : (b : Bool) → Appends s.ledger [] (cond b (call_sent number s.ledger) s.ledger)
    by_test true = sym (append-nil s.ledger.changes)
    by_test false = sym (append-nil s.ledger.changes)
left-appends s (Forward now from message) = sym (append-nil s.ledger.changes)
left-appends s (Expire now) = sym (append-nil s.ledger.changes)
left-appends s ZeroStats = sym (append-nil s.ledger.changes)

pub step-appends : (s : State) (event : Event) → Appends s.ledger (change_by s event) (step s event).1.ledger
step-appends s event = subst (Appends s.ledger (change_by s event)) (sym (step-ledger s event)) (left-appends s event)

-- ---- runs

after-appends : (s : State) (events : List Event) → (after s events).ledger.changes ≡ s.ledger.changes ++ changes_by s events
after-appends s [] = sym (append-nil s.ledger.changes)
after-appends s (event ∷ events) =
    after-appends (step s event).1 events
    ∙ ap (λ (changes : List Change). changes ++ changes_by (step s event).1 events) (step-appends s event)
    ∙ append_assoc s.ledger.changes (change_by s event) (changes_by (step s event).1 events)

pub changes_are_those_accepted : ChangesAreThoseAccepted
changes_are_those_accepted limits listener first_xid now events = after-appends (opening limits listener first_xid now) events

-- The answer to a call that asks for the change: it is TRUE only if its caller may register and the change may be made.
record Decided (context : Context) (xid : ℕ) (change : Change) (said : Outcome) : Type 0 where
  accepted : Bool
  says : said ≡ outcomes.Reply (success context.caller xid (boolean accepted)) None
  here : accepted ≡ true → comes_from_here context ≡ true
  may : accepted ≡ true → MayBeMade context.reserved change

set-decided : (context : Context) (head : CallHead) (xid : ℕ) (o : Option Row) (l : Ledger) (change : Change) → option_map Added o ≡ Some change
    → Decided context xid change (reply_with context xid (tell_done values.Bool (set_row context head o l))).0
unfolding set_row result_bytes
set-decided context head xid None l change is = absurd cc
set-decided context head xid (Some row) l change is = record {
  accepted = accepts_row context l row;
  says = refl;
  here = λ e. (accepted-here context l row e).0;
  may = λ e. subst (MayBeMade context.reserved) (same_Some (Added row) change is) (accepted-here context l row e).1;
}

unset-decided : (context : Context) (head : CallHead) (xid prog vers : ℕ) (o : Option Which) (l : Ledger) (change : Change) → option_map (removal_of context head prog vers) o ≡ Some change
    → Decided context xid change (reply_with context xid (tell_done values.Bool (unset_rows context head prog vers o l))).0
unfolding unset_rows accepts_removal result_bytes
unset-decided context head xid prog vers None l change is = absurd cc
unset-decided context head xid prog vers (Some which) l change is = record {
  accepted = accepts_removal context l (removal_of context head prog vers which);
  says = refl;
  here = λ e. (and_parts (comes_from_here context) _ e).0;
  may = λ e. subst (MayBeMade context.reserved) (same_Some (removal_of context head prog vers which) change is) tt;
}

answer-decided : (context : Context) (head : CallHead) (request : Request) (arguments : List ℕ) (l : Ledger) (change : Change) → change_asked context.caller head request ≡ Some change
    → Decided context head.xid change (reply_with context head.xid (answer_to context head request arguments l)).0
answer-decided context head (requests.Mapping mappings.Set m) arguments l change e = set-decided context head head.xid _ l change e
answer-decided context head (requests.Mapping mappings.Unset m) arguments l change e = unset-decided context head head.xid m.prog m.vers (Some _) l change e
answer-decided context head (requests.Mapping mappings.Getport m) arguments l change e = absurd cc
answer-decided context head (requests.Rpcb rpcbs.Set r) arguments l change e = set-decided context head head.xid _ l change e
answer-decided context head (requests.Rpcb rpcbs.Unset r) arguments l change e = unset-decided context head head.xid r.prog r.vers _ l change e
answer-decided context head (requests.Rpcb rpcbs.Getaddr r) arguments l change e = absurd cc
answer-decided context head (requests.Rpcb rpcbs.Getversaddr r) arguments l change e = absurd cc
answer-decided context head (requests.Rpcb rpcbs.Getaddrlist r) arguments l change e = absurd cc
answer-decided context head (requests.Void procedure) arguments l change e = absurd cc
answer-decided context head (requests.Uaddr2taddr text) arguments l change e = absurd cc
answer-decided context head (requests.Taddr2uaddr netbuf) arguments l change e = absurd cc
answer-decided context head (requests.Forward kind remote) arguments l change e = absurd cc

asked-decided : (context : Context) (message : Message) (call : Call) (arguments : List ℕ) (l : Ledger) (change : Change) → message ≡ says.Asked call → change_asked context.caller call.head call.request ≡ Some change
    → Decided context call.head.xid change (outcome context message arguments l).0
unfolding outcome answer
asked-decided context message call arguments l change is e =
    rw is (answer-decided context call.head call.request arguments (with_call_noted call.head l) change e)

said-decided : (s : State) (m : Brought) (call : Call) (change : Change) → message_of m.content ≡ says.Asked call → change_asked m.caller call.head call.request ≡ Some change
    → Decided (context_in (at_moment m.now s) m.caller) call.head.xid change (said_to s m)
unfolding serve
said-decided s m call change is e = asked-decided (context_in (at_moment m.now s) m.caller) (message_of m.content) call (arguments_of m.content) s.ledger change is e

-- the event brings a call that asks for this change and is answered so
each-appends : (s : State) (event : Event) (change : Change) → Asks s event change → change_by s event ≡ change ∷ []
each-appends s event change a =
    ap (change_from s) a.brings
    ∙ ap (λ (said : Outcome). change_told a.message.caller said (message_of a.message.content)) a.told
    ∙ ap (change_told a.message.caller (told_true a.call.head.xid)) a.says
    ∙ ap (λ (b : Bool). change_where b (change_asked a.message.caller a.call.head a.call.request)) (is-told a.call.head.xid)
    ∙ ap (change_where true) a.asks

-- ---- the caller gets the answer

-- a connection with which a record ends is given no list
ends-no-list : (p : Phase) (piece : List ℕ) (n : ℕ) (content : List ℕ) → taking_of p piece ≡ Ends n content → stamp_in p ≡ None
unfolding taking_of
ends-no-list Idle piece n content is = refl
ends-no-list (Reading fed) piece n content is = refl
ends-no-list (Owing o) piece n content is = absurd cc
ends-no-list Awaiting piece n content is = refl
ends-no-list Lost piece n content is = refl

pub shown-replied : (reply : List ℕ) (r : Outcome × State) → r.0 ≡ outcomes.Reply reply None → (show_outcome (with_reply r)).0 ≡ Replied reply
shown-replied reply (said, t) is = rw is refl

module _ (s : State) (reply : List ℕ) where
  -- the state has the reply for the caller
  abbrev Has : Caller → Output × State → Type 0
  Has (Udp who longest) r = r.0 ≡ Replied reply
  Has (Tcp id who) r = Owes r.1 id reply

  settled-owes : (now id : ℕ) (c : Connection) (changes : List ℕ) (t : State) (said : Outcome) → live_connection id s.connections.all ≡ Some c → stamp_in c.phase ≡ None → t.connections ≡ evict changes s.connections
      → said ≡ outcomes.Reply reply None → Owes (on_connection id (settle now said) t) id reply
  unfolding live_connection settle
  settled-owes now id c changes t said there none same is = rw is (record {
    connection = settle now (outcomes.Reply reply None) c;
    live = ap (λ (u : Connections). live_connection id (changed_at id (settle now (outcomes.Reply reply None)) u).all) same
        ∙ find-changed id (settle now (outcomes.Reply reply None)) (replying-feeds id now reply None) (map (evict_early changes) s.connections.all) c (plain_lives id changes s.connections.all c there none);
    phase = refl;
  })

  record-has : (now id n : ℕ) (c : Connection) (content : List ℕ) → live_connection id s.connections.all ≡ Some c → stamp_in c.phase ≡ None → said_to s (record { now = now; caller = Tcp id c.who; content = content }) ≡ outcomes.Reply reply None
      → Has (Tcp id c.who) (output_or show_taken (Ok (with_count n (serve_record (at_moment now s) id c.who content)).0, (with_count n (serve_record (at_moment now s) id c.who content)).1))
  unfolding serve_record serve
  record-has now id n c content there none is =
      settled-owes (max s.clock now) id c _ (serve (at_moment now s) (Tcp id c.who) content).1 (said_to s (record { now = now; caller = Tcp id c.who; content = content })) there none refl is

  bytes-have : (now id : ℕ) (piece : List ℕ) (m : Brought) (o : Option Connection) → live_connection id s.connections.all ≡ o → record_on now id piece o ≡ Some m → said_to s m ≡ outcomes.Reply reply None
      → Has m.caller (output_or show_taken (bytes_to s now id piece o))
  bytes-have now id piece m None there brings is = absurd cc
  bytes-have now id piece m (Some c) there brings is = by_taking (taking_of c.phase piece) refl brings
    where
      by_taking : (t : Taking) → taking_of c.phase piece ≡ t → record_in now id c.who t ≡ Some m → Has m.caller (output_or show_taken (Ok (when_taken (at_moment now s) id piece c t).0, (when_taken (at_moment now s) id piece c t).1))
      by_taking TakesNone e brings = absurd cc
      by_taking (GoesOn fed) e brings = absurd cc
      by_taking (Ends n content) e brings =
          let same : record { now = now; caller = Tcp id c.who; content = content } ≡ m = same_Some (record { now = now; caller = Tcp id c.who; content = content }) m brings in
          subst (λ (x : Brought). said_to s x ≡ outcomes.Reply reply None → Has x.caller (output_or show_taken (Ok (when_taken (at_moment now s) id piece c (Ends n content)).0, (when_taken (at_moment now s) id piece c (Ends n content)).1)))
          same (record-has now id n c content there (ends-no-list c.phase piece n content e)) is

gets-reply : (s : State) (event : Event) (m : Brought) (reply : List ℕ) → brought_by s event ≡ Some m → said_to s m ≡ outcomes.Reply reply None → GetsReply s event m.caller reply
unfolding step datagram bytes
gets-reply s (Datagram now who content) m reply brings is =
    let arrived : Brought = record { now = now; caller = sender s who content; content = content } in
    subst (λ (x : Brought). said_to s x ≡ outcomes.Reply reply None → GetsReply s (Datagram now who content) x.caller reply) (same_Some arrived m brings)
    (shown-replied reply (serve (at_moment now s) (sender s who content) content)) is
gets-reply s (Bytes now id piece) m reply brings is = by_caller m.caller (bytes-have s reply now id piece m (live_connection id s.connections.all) refl brings is)
  where
    by_caller : (caller : Caller) → Has s reply caller (step s (Bytes now id piece)) → GetsReply s (Bytes now id piece) caller reply
    by_caller (Tcp number who) h = h
    by_caller (Udp who longest) h = h
gets-reply s (Open now who) m reply brings is = absurd cc
gets-reply s (Pending id) m reply brings is = absurd cc
gets-reply s (Gave now id n) m reply brings is = absurd cc
gets-reply s (Closed id) m reply brings is = absurd cc
gets-reply s NextLost m reply brings is = absurd cc
gets-reply s Unsent m reply brings is = absurd cc
gets-reply s (Sent number) m reply brings is = absurd cc
gets-reply s (Forward now from message) m reply brings is = absurd cc
gets-reply s (Expire now) m reply brings is = absurd cc
gets-reply s ZeroStats m reply brings is = absurd cc

-- ---- the law of one event

pub at-most-once : (s : State) (event : Event) → ChangesAtMostOnce s event
unfolding comes_from_here
at-most-once s event = by_brought (brought_by s event) refl
  where
    is_same : change_by s event ≡ [] → ChangesAtMostOnce s event
    is_same e = Same (step-appends s event ∙ ap (λ (more : List Change). s.ledger.changes ++ more) e ∙ append-nil s.ledger.changes)

    by_answer : (m : Brought) (call : Call) (change : Change) → brought_by s event ≡ Some m → message_of m.content ≡ says.Asked call → change_asked m.caller call.head call.request ≡ Some change
        → (d : Decided (context_in (at_moment m.now s) m.caller) call.head.xid change (said_to s m)) (b : Bool) → d.accepted ≡ b → ChangesAtMostOnce s event
    by_answer m call change brings is asks d true e =
        let asked : Asks s event change = record { message = m; call = call; brings = brings; says = is; asks = asks; told = d.says ∙ ap (λ (b : Bool). outcomes.Reply (success m.caller call.head.xid (boolean b)) None) e ∙ ap (λ (reply : List ℕ). outcomes.Reply reply None) (true-fits m.caller call.head.xid (brought-hears s event m brings (d.here e))) } in
        OneMore change (record {
          asked = asked;
          registers = d.here e;
          may = d.may e;
          gets = gets-reply s event m (true_reply call.head.xid) brings asked.told;
          appends = step-appends s event ∙ ap (λ (more : List Change). s.ledger.changes ++ more) (each-appends s event change asked);
        })
    by_answer m call change brings is asks d false e =
        is_same (
        ap (change_from s) brings
        ∙ ap (change_told m.caller (said_to s m)) is
        ∙ ap (λ (said : Outcome). change_where (is_told_true call.head.xid said) (change_asked m.caller call.head call.request)) (d.says ∙ ap (λ (b : Bool). outcomes.Reply (success m.caller call.head.xid (boolean b)) None) e)
        ∙ ap (λ (b : Bool). change_where b (change_asked m.caller call.head call.request)) (false-told m.caller call.head.xid)
        ∙ ap (change_where false) asks)

    by_change : (m : Brought) (call : Call) → brought_by s event ≡ Some m → message_of m.content ≡ says.Asked call → (o : Option Change) → change_asked m.caller call.head call.request ≡ o → ChangesAtMostOnce s event
    by_change m call brings is None e =
        is_same (ap (change_from s) brings ∙ ap (change_told m.caller (said_to s m)) is ∙ ap (change_where (is_told_true call.head.xid (said_to s m))) e)
    by_change m call brings is (Some change) e =
        let d = said-decided s m call change is e in by_answer m call change brings is e d d.accepted refl

    by_message : (m : Brought) → brought_by s event ≡ Some m → (message : Message) → message_of m.content ≡ message → ChangesAtMostOnce s event
    by_message m brings says.NoCall is = is_same (ap (change_from s) brings ∙ ap (change_told m.caller (said_to s m)) is)
    by_message m brings (says.Refused head) is = is_same (ap (change_from s) brings ∙ ap (change_told m.caller (said_to s m)) is)
    by_message m brings (says.Garbage head) is = is_same (ap (change_from s) brings ∙ ap (change_told m.caller (said_to s m)) is)
    by_message m brings (says.Asked call) is = by_change m call brings is (change_asked m.caller call.head call.request) refl

    by_brought : (o : Option Brought) → brought_by s event ≡ o → ChangesAtMostOnce s event
    by_brought None e = is_same (ap (change_from s) e)
    by_brought (Some m) e = by_message m e (message_of m.content) refl

pub changes_are_accepted : ChangesAreAccepted
changes_are_accepted s event = record {
  at_most_once = at-most-once s event;
  each = λ change a. step-appends s event ∙ ap (λ (more : List Change). s.ledger.changes ++ more) (each-appends s event change a);
  is = step-appends s event;
}
