-- What is remembered of the calls, in each state that a run reaches.
use Rattle.std.specs.Prelude.{All, ⊤}
use Rattle.std.proofs.Common.{◌≡◌, ℕ, ◌≤◌, max, Bool, true, false, cond, ◌&&◌, Option, Some, None, Result, Ok, Err, List, [], ◌∷◌, ◌++◌, length, refl, arith}
use Rattle.std.proofs.lemmas.List.Elements.{All-push}
use Rattle.std.proofs.lemmas.Grind.{common_steps}
use Rattle.rb_address.specs.declared.caller.Caller.{Caller}
use Rattle.rb_address.specs.declared.peer.Peer.{Peer}
use Rattle.rb_rpc.specs.declared.call.CallHead.{CallHead}
use Rattle.rb_rpc.specs.Feeds.{arguments_of}
use Rattle.rb_registry.specs.declared.row.Row.{Row}
use Rattle.rb_registry.specs.declared.row.Which.{Which}
use Rattle.rb_registry.specs.Rows.{Change, is_on, is_row, are_distinct, has_place, removes_some}
use Rattle.rb_address.specs.Netids.{is_netid}
use Rattle.rb_registry.specs.Rows.Change.{Added, Removed}
use Rattle.rb_registry.specs.Registry.{AreOwn}
use Rattle.rb_registry.specs.Laws.{is_accepted, are_accepted}
use Rattle.rb_registry.proofs.RowLaws.{accepted_more, keys_are_distinct, live_rows_fit}
use Rattle.rb_stats.specs.Statistics.{Note}
use Rattle.rb_stats.specs.Statistics.Note.{WasSet, WasUnset}
use Rattle.rb_arguments.specs.declared.kind.Kind.{Kind}
use Rattle.rb_forward.specs.declared.types.Ended.{Ended as EntryEnd}
use Rattle.rb_forward.specs.Forwards.{can_be_sent}
use Rattle.rb_arguments.specs.declared.remote.RemoteCall.{RemoteCall}
use Rattle.rb_answers.specs.Forwarding.{forward_call, target_replied, fell_due, caller_dropped, call_sent}
use Rattle.rb_answers.specs.declared.listener.Listener.{Listener}
use Rattle.rb_answers.specs.declared.context.Context.{Context}
use Rattle.rb_arguments.specs.declared.procedure.MappingProcedure.TheVariants as mappings
use Rattle.rb_arguments.specs.declared.procedure.RpcbProcedure.TheVariants as rpcbs
use Rattle.rb_arguments.specs.declared.request.Request.{Request}
use Rattle.rb_arguments.specs.declared.request.Request.TheVariants as requests
use Rattle.rb_answers.specs.Callers.{own_inet6, own_inet, own_local, own_rows}
use Rattle.rb_answers.specs.Ledger.{Ledger, rows_in, version_of, with_call_noted}
use Rattle.rb_arguments.specs.declared.mapping.Mapping.{Mapping}
use Rattle.rb_answers.specs.Netids.{is_address}
use Rattle.rb_answers.specs.Reserved.{may_own}
use Rattle.rb_answers.specs.Answers.{comes_from_here, can_be_set, has_share, accepts_row, set_row, accepts_removal, removal_of, unset_rows, change_if, getport, getaddr, getversaddr, answer_to, answer}
use Rattle.rb_answers.proofs.Addresses.{address_short}
use Rattle.rb_model.specs.declared.types.Told.{Told}
use Rattle.rb_model.specs.declared.types.CoreFault.TheVariants.{Gone}
use Rattle.rb_model.specs.Losses.{first_due, with_lost, expire_first}
use Rattle.rb_model.specs.Ending.{tell_end, at_fresh_moment, forward_reply, lost_as, expire_connection, expired_as, expire}
use Rattle.rb_model.specs.declared.message.Message.{Message}
use Rattle.rb_model.specs.declared.message.Message.TheVariants as says
use Rattle.rb_model.specs.declared.types.CoreFault.{CoreFault}
use Rattle.rb_model.specs.declared.types.Limits.{Limits}
use Rattle.rb_model.specs.Calls.{Outcome, Outcome as outcomes, message_of, outcome}
use Rattle.rb_model.specs.State.{State, Connections, at_moment, opening, are_good}
use Rattle.rb_model.specs.Connections.{close_in_table}
use Rattle.rb_model.specs.Step.{sender, Event, Output, context_in, serve, dropped_with, sent_call, show_end, show_expired, unless_refused, bytes, pending, gave, is_too_much, open_connection, close_connection, with_reply, datagram, output_or, show_taken, show_done, show_outcome, step, after, IsReached, zero_stats}
use Rattle.rb_model.specs.declared.types.Taken.{Taken}
use Rattle.rb_model.specs.Step.Event.{Open, Bytes, Pending, Gave, Closed, NextLost, Datagram, Unsent, Sent, Forward, Expire, ZeroStats}
use Rattle.rb_model.specs.Step.Output.{Opened, TooMuch, IsPending}
use Rattle.rb_model.specs.Laws.{LedgersAreWellKept}
use Rattle.rb_laws.proofs.KeptRows.{total-is}
use Rattle.rb_laws.proofs.KeptSteps.{reached-fits}
use Rattle.rb_laws.proofs.Happenings.{Arriving, arriving}
use Rattle.rb_laws.proofs.Happenings.Arriving.{NotThere, NotTaken, ReadOn, Ended}

both : (a b : Bool) → (a && b) ≡ true → (a ≡ true) × (b ≡ true)
both a b e = grind arith

-- ---- what a call leaves behind

-- a row with an address text of at most 128 bytes, or a removal
abbrev pub IsShortChange : Change → Type 0
IsShortChange (Added row) = length row.addr ≤ 128
IsShortChange (Removed prog vers which owner) = ⊤

-- its changes as they were, or one more, which was accepted
data Grows (limit : ℕ) (old new : Ledger) : Type 0 where
  Same : new.own ≡ old.own → new.changes ≡ old.changes → Grows limit old new
  More : (change : Change) → is_accepted limit old.own old.changes change ≡ true → IsShortChange change → new.own ≡ old.own → new.changes ≡ old.changes ++ change ∷ [] → Grows limit old new

change-grows : (limit : ℕ) (change : Change) (note : Note) (l : Ledger) (b : Bool) → (b ≡ true → is_accepted limit l.own l.changes change ≡ true) → (b ≡ true → IsShortChange change) → Grows limit l (change_if b change note l).1
change-grows limit change note l true accepted short = More change (accepted refl) (short refl) refl refl
change-grows limit change note l false accepted short = Same refl refl

-- its address may be set on its netid
pub settable-short : (row : Row) → can_be_set row ≡ true → length row.addr ≤ 128
unfolding can_be_set
settable-short row e = address_short row.netid row.addr (both _ (is_address row.netid row.addr) e).1

set-grows : (context : Context) (head : CallHead) (o : Option Row) (l : Ledger) → Grows context.limit l (set_row context head o l).1
unfolding set_row accepts_row
set-grows context head None l = Same refl refl
set-grows context head (Some row) l = change-grows context.limit (Added row) (WasSet (version_of head.vers)) l (accepts_row context l row) (λ e. (both (comes_from_here context && can_be_set row && may_own context.reserved row && has_share context (rows_in l)) _ e).1)
    (λ e. settable-short row (middle (comes_from_here context) (can_be_set row) (may_own context.reserved row) (has_share context (rows_in l)) (both _ (has_place context.limit (rows_in l) (length l.changes) row) e).0))
  where
    middle : (a b c d : Bool) → (a && b && c && d) ≡ true → b ≡ true
    middle true true c d e = refl
    middle true false c d e = absurd cc
    middle false b c d e = absurd cc

unset-grows : (context : Context) (head : CallHead) (prog vers : ℕ) (o : Option Which) (l : Ledger) → Grows context.limit l (unset_rows context head prog vers o l).1
unfolding unset_rows accepts_removal
unset-grows context head prog vers None l = Same refl refl
unset-grows context head prog vers (Some which) l =
    change-grows context.limit (removal_of context head prog vers which) (WasUnset (version_of head.vers)) l (accepts_removal context l (removal_of context head prog vers which))
    (λ e. (both (comes_from_here context) (removes_some (rows_in l) (length l.changes) (removal_of context head prog vers which)) e).1) (λ e. tt)

getport-grows : (context : Context) (head : CallHead) (m : Mapping) (l : Ledger) → Grows context.limit l (getport context head m l).1
unfolding getport
getport-grows context head m l = grind arith

forward-grows : (context : Context) (xid : ℕ) (kind : Kind) (remote : RemoteCall) (arguments : List ℕ) (l : Ledger) → Grows context.limit l (forward_call context xid kind remote arguments l).1
unfolding forward_call
forward-grows context xid kind remote arguments l = grind arith

answer-grows : (context : Context) (head : CallHead) (request : Request) (arguments : List ℕ) (l : Ledger) → Grows context.limit l (answer_to context head request arguments l).1
unfolding getaddr getversaddr
answer-grows context head (requests.Mapping mappings.Set m) arguments l = set-grows context head _ l
answer-grows context head (requests.Mapping mappings.Unset m) arguments l = unset-grows context head m.prog m.vers _ l
answer-grows context head (requests.Mapping mappings.Getport m) arguments l = getport-grows context head m l
answer-grows context head (requests.Rpcb rpcbs.Set r) arguments l = set-grows context head _ l
answer-grows context head (requests.Rpcb rpcbs.Unset r) arguments l = unset-grows context head r.prog r.vers _ l
answer-grows context head (requests.Rpcb rpcbs.Getaddr r) arguments l = Same refl refl
answer-grows context head (requests.Rpcb rpcbs.Getversaddr r) arguments l = Same refl refl
answer-grows context head (requests.Rpcb rpcbs.Getaddrlist r) arguments l = Same refl refl
answer-grows context head (requests.Void procedure) arguments l = Same refl refl
answer-grows context head (requests.Uaddr2taddr text) arguments l = Same refl refl
answer-grows context head (requests.Taddr2uaddr netbuf) arguments l = Same refl refl
answer-grows context head (requests.Forward kind remote) arguments l = forward-grows context head.xid kind remote arguments l

outcome-grows : (context : Context) (message : Message) (arguments : List ℕ) (l : Ledger) → Grows context.limit l (outcome context message arguments l).1
unfolding outcome answer with_call_noted
outcome-grows context says.NoCall arguments l = Same refl refl
outcome-grows context (says.Refused head) arguments l = Same refl refl
outcome-grows context (says.Garbage head) arguments l = Same refl refl
outcome-grows context (says.Asked call) arguments l = by_growth (answer_to context call.head call.request arguments (with_call_noted call.head l)).1 (answer-grows context call.head call.request arguments (with_call_noted call.head l))
  where
    by_growth : (new : Ledger) → Grows context.limit (with_call_noted call.head l) new → Grows context.limit l new
    by_growth new (Same own same) = Same own same
    by_growth new (More change accepted short own same) = More change accepted short own same

-- ---- what an event leaves behind

record Follows (s u : State) : Type 0 where
  setting : u.setting ≡ s.setting
  grows : Grows s.setting.limits.rows s.ledger u.ledger

stays : (s : State) → Follows s s
stays s = record { setting = refl; grows = Same refl refl }

serve-follows : (s : State) (now : ℕ) (caller : Caller) (content : List ℕ) → Follows s (serve (at_moment now s) caller content).1
unfolding serve
serve-follows s now caller content = record { setting = refl; grows = outcome-grows (context_in (at_moment now s) caller) (message_of content) (arguments_of content) s.ledger }

moved-follows : {A : Type 0} (s : State) (now : ℕ) (show : A → Output) (r : Result A CoreFault × Connections) → Follows s (output_or show (unless_refused now s r)).1
moved-follows s now show r = grind arith

bytes-follow : (s : State) (now id : ℕ) (piece : List ℕ) (r : Result Taken CoreFault × State) → Arriving s now id piece r → Follows s (output_or show_taken r).1
unfolding serve
bytes-follow s now id piece r (NotThere none is) = rw is (stays s)
bytes-follow s now id piece r (NotTaken c there why is) = rw is (record { setting = refl; grows = Same refl refl })
bytes-follow s now id piece r (ReadOn c fed there feeds none is) = rw is (record { setting = refl; grows = Same refl refl })
bytes-follow s now id piece r (Ended c fed n there feeds some is) = rw is (record { setting = refl; grows = outcome-grows _ _ _ s.ledger })

shown-follows : {A : Type 0} (s : State) (show : A → Output) (r : Result A CoreFault) (u : State) → Follows s u → Follows s (output_or show (r, u)).1
shown-follows s show (Ok x) u f = f
shown-follows s show (Err fault) u f = f

outcome-follows : (s : State) (r : Outcome × State) → Follows s r.1 → Follows s (show_outcome (with_reply r)).1
outcome-follows s (outcomes.NoCall, u) f = record { setting = f.setting; grows = f.grows }
outcome-follows s (outcomes.Reply reply began, u) f = record { setting = f.setting; grows = f.grows }
outcome-follows s (outcomes.Forwarded, u) f = record { setting = f.setting; grows = f.grows }
outcome-follows s (outcomes.Silent, u) f = record { setting = f.setting; grows = f.grows }

closed-follows : (s : State) (id : ℕ) (r : Result (Unit {0}) CoreFault × Connections) → Follows s (output_or show_done (dropped_with s id r)).1
unfolding caller_dropped
closed-follows s id r = grind arith

sent-follows : (s : State) (number : ℕ) (b : Bool) → Follows s (output_or show_done (cond b (Ok tt, record s { ledger = call_sent number s.ledger }) (Err Gone, s))).1
unfolding call_sent
sent-follows s number b = grind arith

-- an end of an entry leaves a note alone
record Ends (l : Ledger) (r : Option EntryEnd × Ledger) : Type 0 where
  own : r.1.own ≡ l.own
  changes : r.1.changes ≡ l.changes

tell-follows : (s : State) (at : ℕ) (message : List ℕ) (r : Option EntryEnd × Ledger) → Ends s.ledger r → Follows s (tell_end message (at_fresh_moment at s) r).1
tell-follows s at message r e = grind arith

end-follows : (s : State) (r : Option Told × State) → Follows s r.1 → Follows s (show_end r).1
end-follows s (None, t) f = f
end-follows s (Some told, t) f = f

expired-follows : (s : State) (r : Option Told × State) → Follows s r.1 → Follows s (show_expired (expired_as r)).1
unfolding expire_connection expire_first
expired-follows s (Some told, t) f = f
expired-follows s (None, t) f = by_found (first_due t.clock t.connections)
  where
    by_found : (o : Option ℕ) → Follows s (show_expired (lost_as o, record t { connections = with_lost o t.connections })).1
    by_found None = record { setting = f.setting; grows = f.grows }
    by_found (Some id) = record { setting = f.setting; grows = f.grows }

replied-ends : (l : Ledger) (first_xid clock : ℕ) (from : Peer) (message : List ℕ) → Ends l (target_replied first_xid clock from message l)
unfolding target_replied
replied-ends l first_xid clock from message = record { own = refl; changes = refl }

due-ends : (l : Ledger) (clock : ℕ) → Ends l (fell_due clock l)
unfolding fell_due
due-ends l clock = record { own = refl; changes = refl }

either : (s : State) (b : Bool) (x y : Output × State) → Follows s x.1 → Follows s y.1 → Follows s (cond b x y).1
either s true x y left right = left
either s false x y left right = right

step-follows : (s : State) (event : Event) → Follows s (step s event).1
unfolding step open_connection gave close_connection datagram sent_call forward_reply expire zero_stats
step-follows s (Open now who) = moved-follows s now Opened _
step-follows s (Bytes now id piece) = bytes-follow s now id piece (bytes s now id piece) (arriving s now id piece)
step-follows s (Pending id) = shown-follows s IsPending (pending s id) s (stays s)
step-follows s (Gave now id n) = either s (is_too_much n (pending s id)) (TooMuch, s) (output_or show_done (gave s now id n)) (stays s) (moved-follows s now show_done _)
step-follows s (Closed id) = closed-follows s id (close_in_table id s.connections)
step-follows s NextLost = stays s
step-follows s (Datagram now who content) =
    outcome-follows s (serve (at_moment now s) (sender s who content) content) (serve-follows s now (sender s who content) content)
step-follows s Unsent = stays s
step-follows s (Sent number) = sent-follows s number (can_be_sent number s.ledger.forwards)
step-follows s (Forward now from message) = grind (arith, common_steps, replied-ends, end-follows s, tell-follows s now message)
step-follows s (Expire now) =
    expired-follows s (tell_end [] (at_fresh_moment now s) (fell_due (max s.clock now) s.ledger))
    (tell-follows s now [] (fell_due (max s.clock now) s.ledger) (due-ends s.ledger (max s.clock now)))
step-follows s ZeroStats = record { setting = refl; grows = Same refl refl }

-- no event changes the setting
pub step-setting : (s : State) (event : Event) → (step s event).1.setting ≡ s.setting
step-setting s event = (step-follows s event).setting

-- nor the own rows
pub step-own : (s : State) (event : Event) → (step s event).1.ledger.own ≡ s.ledger.own
step-own s event = by_growth (step s event).1.ledger (step-follows s event).grows
  where
    by_growth : (l : Ledger) → Grows s.setting.limits.rows s.ledger l → l.own ≡ s.ledger.own
    by_growth l (Same own same) = own
    by_growth l (More change accepted short own same) = own

-- ---- what stays so

-- the own rows
pub are-own : (listener : Listener) → AreOwn (own_rows listener)
unfolding own_rows
are-own listener = by_parts listener.announced.inet6 listener.announced.inet listener.local
  where
    by_parts : (inet6 inet local : Option (List ℕ)) → AreOwn (own_inet6 listener.port inet6 ++ own_inet listener.port inet ++ own_local local)
    by_parts None None None = refl
    by_parts None None (Some path) = refl
    by_parts None (Some host) None = refl
    by_parts None (Some host) (Some path) = refl
    by_parts (Some host6) None None = refl
    by_parts (Some host6) None (Some path) = refl
    by_parts (Some host6) (Some host) None = refl
    by_parts (Some host6) (Some host) (Some path) = refl

pub own-distinct : (listener : Listener) → are_distinct (own_rows listener) ≡ true
unfolding own_rows is_row is_on is_netid
own-distinct listener = by_parts listener.announced.inet6 listener.announced.inet listener.local
  where
    by_parts : (inet6 inet local : Option (List ℕ)) → are_distinct (own_inet6 listener.port inet6 ++ own_inet listener.port inet ++ own_local local) ≡ true
    by_parts None None None = refl
    by_parts None None (Some path) = refl
    by_parts None (Some host) None = refl
    by_parts None (Some host) (Some path) = refl
    by_parts (Some host6) None None = refl
    by_parts (Some host6) None (Some path) = refl
    by_parts (Some host6) (Some host) None = refl
    by_parts (Some host6) (Some host) (Some path) = refl

-- what holds of the ledger
record KeepsLedger (limit : ℕ) (listener : Listener) (l : Ledger) : Type 0 where
  own : l.own ≡ own_rows listener
  accepted : are_accepted limit l.own [] l.changes ≡ true
  short : All IsShortChange l.changes

grown : (limit : ℕ) (listener : Listener) (old new : Ledger) → Grows limit old new → KeepsLedger limit listener old → KeepsLedger limit listener new
grown limit listener old new p k = grind (arith, common_steps, accepted_more, All-push)

abbrev KeepsIn : State → Type 0
KeepsIn s = KeepsLedger s.setting.limits.rows s.setting.listener s.ledger

step-keeps : (s : State) (event : Event) → KeepsIn s → KeepsIn (step s event).1
step-keeps s event k =
    let f = step-follows s event in
    rw f.setting (grown s.setting.limits.rows s.setting.listener s.ledger (step s event).1.ledger f.grows k)

after-keeps : (s : State) (events : List Event) → KeepsIn s → KeepsIn (after s events)
after-keeps s [] k = k
after-keeps s (event ∷ events) k = after-keeps (step s event).1 events (step-keeps s event k)

opening-keeps : (limits : Limits) (listener : Listener) (first_xid now : ℕ) → KeepsIn (opening limits listener first_xid now)
opening-keeps limits listener first_xid now = grind arith

own-fit : (limits : Limits) (listener : Listener) → are_good limits listener ≡ true → length (own_rows listener) ≤ limits.rows
own-fit limits listener good = grind arith

reached-keeps : (s : State) → IsReached s → KeepsIn s
reached-keeps s r = grind (arith, common_steps, after-keeps, opening-keeps)

-- the own rows are the listener's, and each change is short
pub reached-short : (s : State) → IsReached s → (s.ledger.own ≡ own_rows s.setting.listener) × All IsShortChange s.ledger.changes
reached-short s r = let k = reached-keeps s r in (k.own, k.short)

pub ledgers_are_well_kept : LedgersAreWellKept
ledgers_are_well_kept s r = grind (arith, common_steps, own-distinct, are-own, keys_are_distinct, live_rows_fit, own-fit, total-is, reached-keeps s r, reached-fits s r)
