-- What an event does to the entries of forwarded calls, and what holds of them in each state that a run reaches.
use Rattle.std.specs.Prelude.{All, drop}
use Rattle.std.proofs.Common.{◌≡◌, ℕ, ◌+◌, ◌-◌, ◌≤◌, ◌<◌, max, Bool, true, false, cond, Option, Some, None, Result, Ok, Err, List, [], ◌∷◌, ◌++◌, length, refl, sym, subst, ◌∙◌, arith}
use Rattle.std.proofs.lemmas.List.{length-take}
use Rattle.std.proofs.lemmas.List.Elements.{All-nil, All-cons, All-head, All-tail, All-push}
use Rattle.std.proofs.lemmas.Grind.{common_steps}
use Rattle.rb_address.specs.declared.caller.Caller.{Caller}
use Rattle.rb_address.specs.declared.caller.Caller.TheVariants.{Tcp, Udp}
use Rattle.rb_rpc.specs.declared.call.CallHead.{CallHead}
use Rattle.rb_uaddr.specs.declared.address.Uaddr.{Uaddr}
use Rattle.rb_rpc.specs.Verdict.{verdict}
use Rattle.rb_rpc.specs.Feeds.{arguments_of}
use Rattle.rb_registry.specs.declared.row.Row.{Row}
use Rattle.rb_registry.specs.declared.row.Which.{Which}
use Rattle.rb_forward.specs.declared.types.Forward.{Forward}
use Rattle.rb_arguments.specs.declared.kind.Kind.{Kind}
use Rattle.rb_forward.specs.declared.types.Ended.{Ended}
use Rattle.rb_forward.specs.declared.types.FwdId.{FwdId}
use Rattle.rb_arguments.specs.Forwarded.{longest_forwarded}
use Rattle.rb_forward.specs.Forwards.{Entry, Forwards, can_start, with_next_entry, next_entry, sent, can_be_sent, without_first, change_first, as_sent, is_unsent, reply, due, drop_caller, counts_for, is_due, is_of_connection}
use Rattle.rb_answers.specs.declared.context.Context.{Context}
use Rattle.rb_arguments.specs.declared.mapping.Mapping.{Mapping}
use Rattle.rb_arguments.specs.declared.remote.RemoteCall.{RemoteCall}
use Rattle.rb_arguments.specs.declared.procedure.MappingProcedure.TheVariants as mappings
use Rattle.rb_arguments.specs.declared.procedure.RpcbProcedure.TheVariants as rpcbs
use Rattle.rb_arguments.specs.declared.request.Request.{Request}
use Rattle.rb_arguments.specs.declared.request.Request.TheVariants as requests
use Rattle.rb_answers.specs.Ledger.{Ledger, rows_in, with_call_noted}
use Rattle.rb_arguments.specs.Remote.{args_of, HasContent}
use Rattle.rb_arguments.specs.Arguments.{HasArgs}
use Rattle.rb_answers.specs.Forwarding.{address_asked, forward_of, forward_to, forward_call, target_replied, fell_due, caller_dropped, call_sent}
use Rattle.rb_answers.specs.Answers.{set_row, unset_rows, getport, getaddr, getversaddr, answer_to, answer}
use Rattle.rb_model.specs.Grammar.{HasArgsIn}
use Rattle.rb_model.specs.declared.message.Message.{Message}
use Rattle.rb_model.specs.declared.message.Message.TheVariants as says
use Rattle.rb_model.specs.declared.types.CoreFault.{CoreFault}
use Rattle.rb_model.specs.declared.types.CoreFault.TheVariants.{Gone}
use Rattle.rb_model.specs.declared.types.Told.{Told}
use Rattle.rb_model.specs.declared.types.Expired.{Expired}
use Rattle.rb_model.specs.declared.types.Expired.TheVariants as expired
use Rattle.rb_model.specs.Calls.{Outcome, Outcome as outcomes, message_of, outcome}
use Rattle.rb_model.specs.State.{Setting, State, Connection, Connections, at_moment, opening}
use Rattle.rb_model.specs.Connections.{Taking, taking_of, live_connection, close_in_table}
use Rattle.rb_model.specs.Connections.Taking.{TakesNone, GoesOn, Ends}
use Rattle.rb_model.specs.Ending.{outcome_at_end, tell, tell_end, at_fresh_moment, forward_reply, expire_connection, expired_as, expire}
use Rattle.rb_model.specs.Step.{sender, Event, Output, context_in, serve, serve_record, unless_refused, when_taken, bytes_to, bytes, pending, gave, is_too_much, open_connection, dropped_with, close_connection, with_reply, datagram, sent_call, output_or, show_taken, show_done, show_outcome, show_end, show_expired, step, after, IsReached, zero_stats}
use Rattle.rb_model.specs.Step.Event.{Open, Bytes, Pending, Gave, Closed, NextLost, Datagram, Unsent, Sent, Forward as ForwardCame, Expire, ZeroStats}
use Rattle.rb_model.specs.Step.Output.{Opened, TooMuch, IsPending}
use Rattle.rb_model.proofs.AskedArgs.{message_has}

-- ---- what a call leaves of them

-- They are as they were, or one more began, for which there is room and whose arguments are short; or a call was sent; or one ended.
pub data Goes (cap : ℕ) (old new : Forwards) : Type 0 where
  Same : new ≡ old → Goes cap old new
  Begins : (clock : ℕ) (forward : Forward) (args : List ℕ) → length args ≤ longest_forwarded → can_start cap old ≡ true → new ≡ with_next_entry clock forward args old → Goes cap old new
  IsSent : (number : ℕ) → new ≡ sent number old → Goes cap old new
  Ends1 : (test : Entry → Bool) → new ≡ record old { all = without_first test old.all } → Goes cap old new

set-stays : (cap : ℕ) (context : Context) (head : CallHead) (o : Option Row) (l : Ledger) → Goes cap l.forwards (set_row context head o l).1.forwards
unfolding set_row
set-stays cap context head o l = grind arith

unset-stays : (cap : ℕ) (context : Context) (head : CallHead) (prog vers : ℕ) (o : Option Which) (l : Ledger) → Goes cap l.forwards (unset_rows context head prog vers o l).1.forwards
unfolding unset_rows
unset-stays cap context head prog vers o l = grind arith

getport-stays : (cap : ℕ) (context : Context) (head : CallHead) (m : Mapping) (l : Ledger) → Goes cap l.forwards (getport context head m l).1.forwards
unfolding getport
getport-stays cap context head m l = grind arith

args-short : (remote : RemoteCall) (arguments : List ℕ) → HasContent remote arguments → length (args_of remote arguments) ≤ longest_forwarded
args-short remote arguments has = let few = length-take (16 + remote.count - 16) (drop 16 arguments) in omega (arith, few, has.few)

forward-goes : (context : Context) (xid : ℕ) (kind : Kind) (remote : RemoteCall) (arguments : List ℕ) (l : Ledger) → HasContent remote arguments → Goes context.forwards l.forwards (forward_call context xid kind remote arguments l).1.forwards
unfolding forward_call
forward-goes context xid kind remote arguments l has = by_address (address_asked context remote (rows_in l))
  where
    args : List ℕ
    args = args_of remote arguments

    by_address : (o : Option Uaddr) → Goes context.forwards l.forwards (forward_to context xid kind remote args o l).1.forwards
    by_address None = Same refl
    by_address (Some registered) = by_room (can_start context.forwards l.forwards) refl
      where
        by_room : (b : Bool) → can_start context.forwards l.forwards ≡ b → Goes context.forwards l.forwards (forward_to context xid kind remote args (Some registered) l).1.forwards
        by_room true e = rw e (Begins context.clock (forward_of context xid kind remote registered) args (args-short remote arguments has) e refl)
        by_room false e = rw e (Same refl)

answer-goes : (context : Context) (head : CallHead) (request : Request) (arguments : List ℕ) (l : Ledger) → HasArgs request arguments → Goes context.forwards l.forwards (answer_to context head request arguments l).1.forwards
unfolding getaddr getversaddr
answer-goes context head (requests.Mapping mappings.Set m) arguments l has = set-stays context.forwards context head _ l
answer-goes context head (requests.Mapping mappings.Unset m) arguments l has = unset-stays context.forwards context head m.prog m.vers _ l
answer-goes context head (requests.Mapping mappings.Getport m) arguments l has = getport-stays context.forwards context head m l
answer-goes context head (requests.Rpcb rpcbs.Set r) arguments l has = set-stays context.forwards context head _ l
answer-goes context head (requests.Rpcb rpcbs.Unset r) arguments l has = unset-stays context.forwards context head r.prog r.vers _ l
answer-goes context head (requests.Rpcb rpcbs.Getaddr r) arguments l has = Same refl
answer-goes context head (requests.Rpcb rpcbs.Getversaddr r) arguments l has = Same refl
answer-goes context head (requests.Rpcb rpcbs.Getaddrlist r) arguments l has = Same refl
answer-goes context head (requests.Void procedure) arguments l has = Same refl
answer-goes context head (requests.Uaddr2taddr text) arguments l has = Same refl
answer-goes context head (requests.Taddr2uaddr netbuf) arguments l has = Same refl
answer-goes context head (requests.Forward kind remote) arguments l has = forward-goes context head.xid kind remote arguments l has

outcome-goes : (context : Context) (message : Message) (arguments : List ℕ) (l : Ledger) → HasArgsIn message arguments → Goes context.forwards l.forwards (outcome context message arguments l).1.forwards
unfolding outcome answer with_call_noted
outcome-goes context says.NoCall arguments l has = Same refl
outcome-goes context (says.Refused head) arguments l has = Same refl
outcome-goes context (says.Garbage head) arguments l has = Same refl
outcome-goes context (says.Asked call) arguments l has = answer-goes context call.head call.request arguments (with_call_noted call.head l) has

-- ---- what an event leaves of them

pub record Follows (s u : State) : Type 0 where
  pub setting : u.setting ≡ s.setting
  pub goes : Goes s.setting.limits.forwards s.ledger.forwards u.ledger.forwards

stays : (s : State) → Follows s s
stays s = record { setting = refl; goes = Same refl }

serve-follows : (s : State) (now : ℕ) (caller : Caller) (content : List ℕ) → Follows s (serve (at_moment now s) caller content).1
unfolding serve message_of
serve-follows s now caller content =
    record { setting = refl; goes = outcome-goes (context_in (at_moment now s) caller) (message_of content) _ s.ledger (message_has (verdict content) (arguments_of content)) }

moved-follows : {A : Type 0} (s : State) (now : ℕ) (show : A → Output) (r : Result A CoreFault × Connections) → Follows s (output_or show (unless_refused now s r)).1
moved-follows s now show r = grind arith

bytes-follow : (s : State) (now id : ℕ) (piece : List ℕ) (o : Option Connection) → Follows s (output_or show_taken (bytes_to s now id piece o)).1
unfolding serve_record
bytes-follow s now id piece None = stays s
bytes-follow s now id piece (Some c) = by_taking (taking_of c.phase piece)
  where
    by_taking : (t : Taking) → Follows s (when_taken (at_moment now s) id piece c t).1
    by_taking TakesNone = record { setting = refl; goes = Same refl }
    by_taking (GoesOn fed) = record { setting = refl; goes = Same refl }
    by_taking (Ends n content) =
        let f = serve-follows s now (Tcp id c.who) content in
        record { setting = f.setting; goes = f.goes }

shown-follows : {A : Type 0} (s : State) (show : A → Output) (r : Result A CoreFault) (u : State) → Follows s u → Follows s (output_or show (r, u)).1
shown-follows s show (Ok x) u f = f
shown-follows s show (Err fault) u f = f

outcome-follows : (s : State) (r : Outcome × State) → Follows s r.1 → Follows s (show_outcome (with_reply r)).1
outcome-follows s (outcomes.NoCall, u) f = record { setting = f.setting; goes = f.goes }
outcome-follows s (outcomes.Reply reply began, u) f = record { setting = f.setting; goes = f.goes }
outcome-follows s (outcomes.Forwarded, u) f = record { setting = f.setting; goes = f.goes }
outcome-follows s (outcomes.Silent, u) f = record { setting = f.setting; goes = f.goes }

either : (s : State) (b : Bool) (x y : Output × State) → Follows s x.1 → Follows s y.1 → Follows s (cond b x y).1
either s true x y left right = left
either s false x y left right = right

closed-follows : (s : State) (id : ℕ) (r : Result (Unit {0}) CoreFault × Connections) → Follows s (output_or show_done (dropped_with s id r)).1
unfolding caller_dropped drop_caller
closed-follows s id (Ok u, c) = record { setting = refl; goes = Ends1 (is_of_connection id) refl }
closed-follows s id (Err fault, c) = stays s

tell-follows : (s u : State) (call : FwdId) (caller : Caller) (said : Outcome) → Follows s u → Follows s (tell call caller said u).1
tell-follows s u call (Tcp id who) said f = record { setting = f.setting; goes = f.goes }
tell-follows s u call (Udp who longest) said f = record { setting = f.setting; goes = f.goes }

told-follows : (message : List ℕ) (s u : State) (o : Option Ended) (ledger : Ledger) → u.setting ≡ s.setting → Goes s.setting.limits.forwards s.ledger.forwards ledger.forwards → Follows s (tell_end message u (o, ledger)).1
told-follows message s u None ledger same goes = record { setting = same; goes = goes }
told-follows message s u (Some ended) ledger same goes =
    tell-follows s (record u { ledger = ledger }) ended.id ended.forward.caller (outcome_at_end message ended) (record { setting = same; goes = goes })

end-follows : (s : State) (r : Option Told × State) → Follows s r.1 → Follows s (show_end r).1
end-follows s (None, u) f = f
end-follows s (Some told, u) f = f

expired-follows : (s : State) (r : Option Told × State) → Follows s r.1 → Follows s (show_expired (expired_as r)).1
unfolding expire_connection
expired-follows s (Some told, u) f = f
expired-follows s (None, u) f = by_found (expire_connection u) (record { setting = f.setting; goes = f.goes })
  where
    by_found : (r : Expired × State) → Follows s r.1 → Follows s (show_expired r).1
    by_found (e, t) g = elim e as (λ x. Follows s (show_expired (x, t)).1) [ expired.Nothing ↦ g | expired.Ended told ↦ g | expired.ConnectionLost id ↦ g ]

pub step-follows : (s : State) (event : Event) → Follows s (step s event).1
unfolding step open_connection bytes gave close_connection datagram sent_call forward_reply expire target_replied fell_due call_sent reply due zero_stats
step-follows s (Open now who) = moved-follows s now Opened _
step-follows s (Bytes now id piece) = bytes-follow s now id piece (live_connection id s.connections.all)
step-follows s (Pending id) = shown-follows s IsPending (pending s id) s (stays s)
step-follows s (Gave now id n) = either s (is_too_much n (pending s id)) (TooMuch, s) (output_or show_done (gave s now id n)) (stays s) (moved-follows s now show_done _)
step-follows s (Closed id) = closed-follows s id (close_in_table id s.connections)
step-follows s NextLost = stays s
step-follows s (Datagram now who content) = outcome-follows s (serve (at_moment now s) (sender s who content) content) (serve-follows s now (sender s who content) content)
step-follows s Unsent = stays s
step-follows s (Sent number) = by_there (can_be_sent number s.ledger.forwards)
  where
    by_there : (b : Bool) → Follows s (output_or show_done (cond b (Ok tt, record s { ledger = call_sent number s.ledger }) (Err Gone, s))).1
    by_there true = record { setting = refl; goes = IsSent number refl }
    by_there false = stays s
step-follows s (ForwardCame now from message) =
    end-follows s (forward_reply s now from message) (told-follows message s (at_fresh_moment now s) (reply s.setting.first_xid (max s.clock now) from message s.ledger.forwards).0 _ refl
    (Ends1 (counts_for s.setting.first_xid (max s.clock now) from message) refl))
step-follows s (Expire now) =
    expired-follows s _ (told-follows [] s (at_fresh_moment now s) (due (max s.clock now) s.ledger.forwards).0 _ refl (Ends1 (is_due (max s.clock now)) refl))
step-follows s ZeroStats = record { setting = refl; goes = Same refl }

-- ---- what holds of them

-- their numbers rise from `least` on, and are below `next`
abbrev pub AreRising : ℕ → ℕ → List Entry → Type 0
AreRising least next [] = least ≤ next
AreRising least next (e ∷ all) = (least ≤ e.number) × AreRising (e.number + 1) next all

abbrev pub HasShortArgs : Entry → Type 0
HasShortArgs e = length e.args ≤ longest_forwarded

pub record AreKept (cap : ℕ) (f : Forwards) : Type 0 where
  pub order : AreRising 1 f.next f.all
  pub few : length f.all ≤ cap
  pub short : All HasShortArgs f.all

lower : (low least next : ℕ) (all : List Entry) → low ≤ least → AreRising least next all → AreRising low next all
lower low least next [] le s = omega arith
lower low least next (e ∷ all) le s = (omega (arith, s.0), s.1)

pushed : (least next : ℕ) (all : List Entry) (e : Entry) → e.number ≡ next → AreRising least next all → AreRising least (next + 1) (all ++ e ∷ [])
pushed least next [] e is s = (omega arith, omega arith)
pushed least next (d ∷ all) e is s = (s.0, pushed (d.number + 1) next all e is s.1)

pushed-length : (all : List Entry) (e : Entry) → length (all ++ e ∷ []) ≡ length all + 1
pushed-length all e = grind (arith, common_steps)

marked : (number least next : ℕ) (all : List Entry) → AreRising least next all → AreRising least next (change_first (is_unsent number) as_sent all)
marked number least next [] s = grind arith
marked number least next (e ∷ all) s = grind (arith, marked number (e.number + 1) next all s.1)

marked-length : (number : ℕ) (all : List Entry) → length (change_first (is_unsent number) as_sent all) ≡ length all
marked-length number [] = grind arith
marked-length number (e ∷ all) = grind (arith, marked-length number all)

ended : (test : Entry → Bool) (least next : ℕ) (all : List Entry) → AreRising least next all → AreRising least next (without_first test all)
ended test least next [] s = grind (arith, common_steps, lower)
ended test least next (e ∷ all) s = grind (arith, common_steps, lower, ended test (e.number + 1) next all s.1)

ended-length : (test : Entry → Bool) (all : List Entry) → length (without_first test all) ≤ length all
ended-length test [] = grind arith
ended-length test (e ∷ all) = grind (arith, ended-length test all)

marked-short : (number : ℕ) (all : List Entry) → All HasShortArgs all → All HasShortArgs (change_first (is_unsent number) as_sent all)
marked-short number [] s = s
marked-short number (e ∷ all) s = by_test (is_unsent number e) (marked-short number all (All-tail HasShortArgs e all s))
  where
    by_test : (b : Bool) → All HasShortArgs (change_first (is_unsent number) as_sent all) → All HasShortArgs (cond b (as_sent e ∷ all) (e ∷ change_first (is_unsent number) as_sent all))
    by_test true rest = All-cons HasShortArgs (as_sent e) all (All-head HasShortArgs e all s) (All-tail HasShortArgs e all s)
    by_test false rest = All-cons HasShortArgs e (change_first (is_unsent number) as_sent all) (All-head HasShortArgs e all s) rest

ended-short : (test : Entry → Bool) (all : List Entry) → All HasShortArgs all → All HasShortArgs (without_first test all)
ended-short test [] s = s
ended-short test (e ∷ all) s = by_test (test e) (ended-short test all (All-tail HasShortArgs e all s))
  where
    by_test : (b : Bool) → All HasShortArgs (without_first test all) → All HasShortArgs (cond b all (e ∷ without_first test all))
    by_test true rest = All-tail HasShortArgs e all s
    by_test false rest = All-cons HasShortArgs e (without_first test all) (All-head HasShortArgs e all s) rest

room : (cap : ℕ) (f : Forwards) → can_start cap f ≡ true → length f.all < cap
unfolding can_start
room cap f e = grind arith

goes-kept : (cap : ℕ) (old new : Forwards) → Goes cap old new → AreKept cap old → AreKept cap new
unfolding with_next_entry next_entry sent
goes-kept cap old new p k = grind (arith, common_steps, room, pushed-length, pushed, All-push, marked-length, marked, marked-short, ended-length, ended, ended-short)

abbrev pub HasKept : State → Type 0
HasKept s = AreKept s.setting.limits.forwards s.ledger.forwards

step-kept : (s : State) (event : Event) → HasKept s → HasKept (step s event).1
step-kept s event k =
    let f = step-follows s event in
    subst (λ (x : Setting). AreKept x.limits.forwards (step s event).1.ledger.forwards) (sym f.setting) (goes-kept _ _ _ f.goes k)

after-kept : (s : State) (events : List Event) → HasKept s → HasKept (after s events)
after-kept s [] k = k
after-kept s (event ∷ events) k = after-kept (step s event).1 events (step-kept s event k)

pub after-setting : (s : State) (events : List Event) → (after s events).setting ≡ s.setting
after-setting s [] = refl
after-setting s (event ∷ events) = after-setting (step s event).1 events ∙ (step-follows s event).setting

pub reached-kept : (s : State) → IsReached s → HasKept s
reached-kept s r =
    let start : State = opening r.limits r.listener r.first_xid r.now in
    subst HasKept (sym r.is) (after-kept start r.events (record { order = omega arith; few = omega arith; short = All-nil HasShortArgs }))
