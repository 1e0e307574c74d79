-- Forwarded calls begin and end as the page of ends says.
use Rattle.std.specs.Prelude.{drop}
use Rattle.std.proofs.Common.{◌≡◌, ℕ, ◌-◌, ◌==◌, max, Bool, true, false, cond, Option, Some, None, option_and_then, Result, List, [], ◌∷◌, ◌++◌, length, take, refl, sym, ap, subst, ◌∙◌, length-append, arith}
use Rattle.std.proofs.lemmas.Option.{same_Some, none-some}
use Rattle.rb_xdr.specs.Xdr.{AreBytes}
use Rattle.rb_address.specs.declared.netid.Netid.{Netid}
use Rattle.rb_address.specs.declared.who.Who.{Who}
use Rattle.rb_uaddr.specs.declared.address.Uaddr.{Uaddr}
use Rattle.rb_rpc.specs.declared.call.CallHead.{CallHead}
use Rattle.rb_rpc.specs.declared.call.Verdict.{Verdict}
use Rattle.rb_address.specs.declared.caller.Caller.{Caller}
use Rattle.rb_address.specs.declared.caller.Caller.TheVariants.{Tcp}
use Rattle.rb_arguments.specs.declared.kind.Kind.{Kind}
use Rattle.rb_arguments.specs.declared.kind.Kind.TheVariants.{Callit2, Callit3, Bcast, Indirect}
use Rattle.rb_rpc.specs.declared.reply.ReplyStatus.{ReplyStatus}
use Rattle.rb_rpc.specs.declared.reply.ReplyStatus.TheVariants as replies
use Rattle.rb_rpc.specs.Feeds.{behind_head, arguments_of}
use Rattle.rb_rpc.specs.Records.{first_record, data_of}
use Rattle.rb_rpc.proofs.Calls.{again}
use Rattle.rb_registry.specs.declared.row.Row.{Row}
use Rattle.rb_registry.specs.Rows.{rpcb_prog, find_exact}
use Rattle.rb_forward.specs.Forwards.{Forwards, can_start, with_next_entry, reply}
use Rattle.rb_arguments.specs.declared.procedure.MappingProcedure.TheVariants as mappings
use Rattle.rb_arguments.specs.declared.procedure.RpcbProcedure.TheVariants as rpcbs
use Rattle.rb_arguments.specs.declared.remote.RemoteCall.{RemoteCall}
use Rattle.rb_arguments.specs.declared.request.Request.{Request}
use Rattle.rb_arguments.specs.declared.request.Request.TheVariants as requests
use Rattle.rb_arguments.specs.Remote.{args_of}
use Rattle.rb_answers.specs.declared.answers.Answer.{Answer}
use Rattle.rb_answers.specs.declared.answers.Answer.TheVariants as answers
use Rattle.rb_answers.specs.declared.answers.Results.{Results}
use Rattle.rb_answers.specs.declared.call.Call.{Call}
use Rattle.rb_answers.specs.declared.context.Context.{Context}
use Rattle.rb_answers.specs.Answers.{getaddr, getversaddr, answer_to, answer}
use Rattle.rb_answers.specs.Callers.{who_of}
use Rattle.rb_answers.specs.Forwarding.{refusal, address_asked, address_of_row, netid_to_forward, if_may_go, address_to_forward, forward_of, forward_to, forward_call, refuse}
use Rattle.rb_answers.specs.Ledger.{Ledger, rows_in, with_call_noted}
use Rattle.rb_answers.specs.Results.{result_bytes, shown_of}
use Rattle.rb_model.specs.declared.message.Message.{Message}
use Rattle.rb_model.specs.declared.message.Message.TheVariants as says
use Rattle.rb_model.specs.declared.types.CoreFault.{CoreFault}
use Rattle.rb_model.specs.declared.types.CoreFault.TheVariants.{Gone}
use Rattle.rb_model.specs.declared.types.Taken.{Taken}
use Rattle.rb_model.specs.Bounds.{count_in}
use Rattle.rb_model.specs.Calls.{Outcome, Outcome as outcomes, is_no_call, message_of, reply_with, results_outcome, outcome}
use Rattle.rb_model.specs.Connections.{fed_in, live_connection}
use Rattle.rb_model.specs.Sessions.{Exchange, Session, given_by, session_after}
use Rattle.rb_model.specs.State.{State, Connection, at_moment}
use Rattle.rb_model.specs.Step.{sender, Event, Output, Output as outputs, context_in, serve, bytes, with_reply, datagram, output_or, show_taken, show_outcome, step}
use Rattle.rb_model.specs.Step.Event.{Bytes, Datagram}
use Rattle.rb_model.specs.Step.Output.{Refused, Took}
use Rattle.rb_laws.proofs.Entering.{is_forwarded, Entering, serve-enters}
use Rattle.rb_laws.proofs.Entering.Entering.{Same, Begins as Enters}
use Rattle.rb_laws.proofs.Happenings.{Arriving, said_in, answered_in}
use Rattle.rb_laws.proofs.Happenings.Arriving.{NotThere, NotTaken, ReadOn, Ended}
use Rattle.rb_laws.proofs.Sessions.{Holds, count-shown}
use Rattle.rb_promises.specs.Accounts.{context_at, sent_back}
use Rattle.rb_promises.specs.LookUps.{IsFoundExactly}
use Rattle.rb_promises.specs.Ends.{Begins, Does}
use Rattle.rb_promises.specs.Ends.{BeginsOn as on, BeginsFor as for}
use Rattle.rb_promises.proofs.Found.{row_is_found_exactly}
use Rattle.rb_promises.proofs.ForwardedCalls.{goes_by, goes_is}
use Rattle.rb_promises.proofs.LeftRows.{says_so}
use Rattle.rb_promises.proofs.SessionSteps.{plain_passes, record_calls, reading_calls}

-- ---- what begins

-- a call asks for a forwarded one, to this address
record Asks (context : Context) (message : Message) (arguments : List ℕ) (l : Ledger) (new : Forwards) : Type 0 where
  call : Call
  says_it : message ≡ says.Asked call
  kind : Kind
  remote : RemoteCall
  forwards : call.request ≡ requests.Forward kind remote
  address : Uaddr
  asked : address_asked context remote (rows_in l) ≡ Some address
  begins : new ≡ with_next_entry context.clock (forward_of context call.head.xid kind remote address) (args_of remote arguments) l.forwards

refused_not : (kind : Kind) (status : ReplyStatus) → refusal kind status ≡ answers.Forwarded → ⊥
refused_not Callit2 status e = absurd cc
refused_not Callit3 status e = absurd cc
refused_not Bcast status e = absurd cc
refused_not Indirect status e = absurd cc

results_now : (caller : Caller) (count xid : ℕ) (given : List ℕ) (results : Results) → is_forwarded (results_outcome caller count xid given results) ≡ false
results_now caller count xid given results = grind arith

not_both : (b : Bool) → b ≡ false → b ≡ true → ⊥
not_both b e f = let clash : true ≡ false = sym f ∙ e in absurd cc

-- what is forwarded was answered so
later_is : (context : Context) (xid : ℕ) (r : Answer × Ledger) → is_forwarded (reply_with context xid r).0 ≡ true → r.0 ≡ answers.Forwarded
later_is context xid (answers.Results results, new) e = absurd (not_both _ (results_now context.caller (length new.changes) xid (result_bytes (shown_of new) results) results) e)
later_is context xid (answers.Refused status, new) e = absurd cc
later_is context xid (answers.Forwarded, new) e = refl
later_is context xid (answers.Silent, new) e = absurd cc

record Going (context : Context) (xid : ℕ) (kind : Kind) (remote : RemoteCall) (arguments : List ℕ) (l : Ledger) (new : Forwards) : Type 0 where
  address : Uaddr
  asked : address_asked context remote (rows_in l) ≡ Some address
  begins : new ≡ with_next_entry context.clock (forward_of context xid kind remote address) (args_of remote arguments) l.forwards

module _ (context : Context) (xid : ℕ) (kind : Kind) (remote : RemoteCall) (arguments : List ℕ) (l : Ledger) where
  by_room : (address : Uaddr) → address_asked context remote (rows_in l) ≡ Some address → (b : Bool)
      → (cond b (answers.Forwarded, record l { forwards = with_next_entry context.clock (forward_of context xid kind remote address) (args_of remote arguments) l.forwards }) (refuse context kind remote replies.SystemErr l)).0 ≡ answers.Forwarded
      → Going context xid kind remote arguments l (cond b (answers.Forwarded, record l { forwards = with_next_entry context.clock (forward_of context xid kind remote address) (args_of remote arguments) l.forwards }) (refuse context kind remote replies.SystemErr l)).1.forwards
  by_room address is true e = record { address = address; asked = is; begins = refl }
  by_room address is false e = absurd (refused_not kind replies.SystemErr e)

  by_address : (o : Option Uaddr) → address_asked context remote (rows_in l) ≡ o → (forward_to context xid kind remote (args_of remote arguments) o l).0 ≡ answers.Forwarded
      → Going context xid kind remote arguments l (forward_to context xid kind remote (args_of remote arguments) o l).1.forwards
  by_address None is e = absurd (refused_not kind replies.ProgUnavail e)
  by_address (Some address) is e = by_room address is (can_start context.forwards l.forwards) e

  call_goes : (forward_call context xid kind remote arguments l).0 ≡ answers.Forwarded → Going context xid kind remote arguments l (forward_call context xid kind remote arguments l).1.forwards
  unfolding forward_call
  call_goes e = by_address (address_asked context remote (rows_in l)) refl e

-- only a call that asks for a forwarded one is forwarded
abbrev AsksFor : Context → CallHead → Request → List ℕ → Ledger → Type 0
AsksFor context head request arguments l =
    (kind : Kind) × (remote : RemoteCall) × (request ≡ requests.Forward kind remote) × Going context head.xid kind remote arguments l (answer_to context head request arguments l).1.forwards

asks_for : (context : Context) (head : CallHead) (request : Request) (arguments : List ℕ) (l : Ledger) → (answer_to context head request arguments l).0 ≡ answers.Forwarded → AsksFor context head request arguments l
unfolding getaddr getversaddr
asks_for context head (requests.Mapping mappings.Set m) arguments l e = absurd cc
asks_for context head (requests.Mapping mappings.Unset m) arguments l e = absurd cc
asks_for context head (requests.Mapping mappings.Getport m) arguments l e = absurd cc
asks_for context head (requests.Rpcb rpcbs.Set r) arguments l e = absurd cc
asks_for context head (requests.Rpcb rpcbs.Unset r) arguments l e = absurd cc
asks_for context head (requests.Rpcb rpcbs.Getaddr r) arguments l e = absurd cc
asks_for context head (requests.Rpcb rpcbs.Getversaddr r) arguments l e = absurd cc
asks_for context head (requests.Rpcb rpcbs.Getaddrlist r) arguments l e = absurd cc
asks_for context head (requests.Void procedure) arguments l e = absurd cc
asks_for context head (requests.Uaddr2taddr text) arguments l e = absurd cc
asks_for context head (requests.Taddr2uaddr netbuf) arguments l e = absurd cc
asks_for context head (requests.Forward kind remote) arguments l e = (kind, remote, refl, call_goes context head.xid kind remote arguments l e)

outcome_asks : (context : Context) (message : Message) (arguments : List ℕ) (l : Ledger) → is_forwarded (outcome context message arguments l).0 ≡ true
    → Asks context message arguments l (outcome context message arguments l).1.forwards
unfolding outcome answer with_call_noted
outcome_asks context says.NoCall arguments l e = absurd cc
outcome_asks context (says.Refused head) arguments l e = absurd cc
outcome_asks context (says.Garbage head) arguments l e = absurd cc
outcome_asks context (says.Asked call) arguments l e =
    let (kind, remote, forwards, goes) = asks_for context call.head call.request arguments (with_call_noted call.head l) (later_is context call.head.xid (answer context call arguments (with_call_noted call.head l)) e) in
    record { call = call; says_it = refl; kind = kind; remote = remote; forwards = forwards; address = goes.address; asked = goes.asked; begins = goes.begins }

-- ---- where it goes

module _ (context : Context) (remote : RemoteCall) where
  at_row : (row : Row) (u : Uaddr) (b : Bool) → if_may_go context remote (cond b None (address_of_row row)) ≡ Some u → address_of_row row ≡ Some u
  at_row row u true e = absurd (none-some u e)
  at_row row u false e = by_found (address_of_row row) e
    where
      by_test : (a : Uaddr) (b : Bool) → cond b (Some a) None ≡ Some u → Some a ≡ Some u
      by_test a true e = e
      by_test a false e = absurd (none-some u e)

      by_found : (o : Option Uaddr) → if_may_go context remote o ≡ Some u → o ≡ Some u
      by_found None e = absurd (none-some u e)
      by_found (Some a) e = by_test a _ e

-- ---- an event that begins one

module _ (s : State) (event : Event) (clock : ℕ) (caller : Caller) (content : List ℕ) where
  abbrev context : Context
  context = context_at s.setting.limits s.setting.listener clock caller

  abbrev netid : Netid
  netid = netid_to_forward (who_of caller).source

  where_asked : (remote : RemoteCall) → address_asked context remote (rows_in s.ledger)
      ≡ if_may_go context remote (cond (remote.prog == rpcb_prog) None (option_and_then address_of_row (find_exact remote.prog remote.vers netid (rows_in s.ledger))))
  unfolding address_to_forward
  where_asked remote = refl

  module _ (a : Asks context (message_of content) (arguments_of content) s.ledger (step s event).1.ledger.forwards) where
    behind_it : (are : AreBytes content) → arguments_of content ≡ drop (says_so content are (says.Asked a.call) a.says_it).place content
    unfolding arguments_of
    behind_it are =
        let b = says_so content are (says.Asked a.call) a.says_it in
        ap (λ (v : Verdict). behind_head v content) (again content a.call.head b.place b.head)

    by_row : (t u : ℕ → Session) (o : Option Row) → find_exact a.remote.prog a.remote.vers netid (rows_in s.ledger) ≡ o
        → if_may_go context a.remote (cond (a.remote.prog == rpcb_prog) None (option_and_then address_of_row o)) ≡ Some a.address → Begins s t event (step s event).0 (step s event).1 u clock caller content
    by_row t u None is e = absurd (goes_is context a.remote None a.address e)
    by_row t u (Some row) is e = record {
      call = a.call;
      kind = a.kind;
      remote = a.remote;
      forwards = a.forwards;
      asked = λ are. says_so content are (says.Asked a.call) a.says_it;
      arguments = arguments_of content;
      behind = behind_it;
      netid = netid;
      goes_by = goes_by (who_of caller).source;
      row = row;
      is_found = subst (IsFoundExactly a.remote.prog a.remote.vers netid (rows_in s.ledger)) is (row_is_found_exactly a.remote.prog a.remote.vers netid (rows_in s.ledger));
      can_go = goes_is context a.remote (Some row) a.address e;
      address = a.address;
      is_at = at_row context a.remote row a.address (a.remote.prog == rpcb_prog) e;
      begins = a.begins;
    }

    begins_it : (t u : ℕ → Session) → Begins s t event (step s event).0 (step s event).1 u clock caller content
    begins_it t u = by_row t u (find_exact a.remote.prog a.remote.vers netid (rows_in s.ledger)) refl (sym (where_asked a.remote) ∙ a.asked)

-- what a message makes of the entries
module _ (s : State) (at : ℕ) (caller : Caller) (content : List ℕ) where
  abbrev pub said : Outcome
  said = (serve (at_moment at s) caller content).0

  asks_it : is_forwarded said ≡ true → Asks (context_at s.setting.limits s.setting.listener (max s.clock at) caller) (message_of content) (arguments_of content) s.ledger (serve (at_moment at s) caller content).1.ledger.forwards
  unfolding serve
  asks_it e = outcome_asks (context_in (at_moment at s) caller) (message_of content) (arguments_of content) s.ledger e

  none_enters : is_forwarded said ≡ false → (serve (at_moment at s) caller content).1.ledger.forwards ≡ s.ledger.forwards
  none_enters e = by_entering (serve-enters (at_moment at s) caller content)
    where
      by_entering : Entering (context_in (at_moment at s) caller) s.ledger.forwards (serve (at_moment at s) caller content).1.ledger.forwards (is_forwarded said) → (serve (at_moment at s) caller content).1.ledger.forwards ≡ s.ledger.forwards
      by_entering (Same f same) = same
      by_entering (Enters f forward args by can more) = absurd (not_both _ e f)

is_it : (said : Outcome) → is_forwarded said ≡ true → said ≡ outcomes.Forwarded
is_it outcomes.NoCall e = absurd cc
is_it (outcomes.Reply reply stamp) e = absurd cc
is_it outcomes.Forwarded e = refl
is_it outcomes.Silent e = absurd cc

sent_is : (r : Outcome × State) → (show_outcome (with_reply r)).0 ≡ sent_back r.0
sent_is (outcomes.NoCall, left) = refl
sent_is (outcomes.Reply reply stamp, left) = refl
sent_is (outcomes.Forwarded, left) = refl
sent_is (outcomes.Silent, left) = refl

outcome_ledger : (r : Outcome × State) → (show_outcome (with_reply r)).1.ledger ≡ r.1.ledger
outcome_ledger (outcomes.NoCall, left) = refl
outcome_ledger (outcomes.Reply reply stamp, left) = refl
outcome_ledger (outcomes.Forwarded, left) = refl
outcome_ledger (outcomes.Silent, left) = refl

not_sent : (said : Outcome) → is_forwarded said ≡ false → sent_back said ≡ outputs.Forwarded → ⊥
not_sent outcomes.NoCall e f = absurd cc
not_sent (outcomes.Reply reply stamp) e f = absurd cc
not_sent outcomes.Forwarded e f = absurd cc
not_sent outcomes.Silent e f = absurd cc

-- ---- calls of a connection

last_call : List Exchange → Option Exchange
last_call [] = None
last_call (x ∷ []) = Some x
last_call (x ∷ y ∷ xs) = last_call (y ∷ xs)

last_is : (xs : List Exchange) (x : Exchange) → last_call (xs ++ x ∷ []) ≡ Some x
unfolding last_call
last_is [] x = refl
last_is (y ∷ []) x = refl
last_is (y ∷ z ∷ xs) x = last_is (z ∷ xs) x

same_last : (xs : List Exchange) (x y : Exchange) → xs ++ x ∷ [] ≡ xs ++ y ∷ [] → x ≡ y
same_last xs x y e = same_Some x y (sym (last_is xs x) ∙ ap last_call e ∙ last_is xs y)

not_longer : (xs : List Exchange) (x : Exchange) → xs ≡ xs ++ x ∷ [] → ⊥
not_longer xs x e = omega (arith, ap (λ (ys : List Exchange). length ys) e, length-append xs (x ∷ []))

module _ (s : State) (t : ℕ → Session) (h : (k : ℕ) → Holds k s.connections (t k)) where
  abbrev passed : Event → ℕ → Session
  passed event k = session_after s k event (t k)

  -- ---- a datagram

  abbrev After : Event → Type 0
  After event = Does s t event (step s event).0 (step s event).1 (passed event) event

  pub for_datagram : (at : ℕ) (who : Who) (content : List ℕ) (b : Bool) → is_forwarded (said s at (sender s who content) content) ≡ b → After (Datagram at who content)
  unfolding step datagram
  for_datagram at who content true e =
      let ledger : (step s (Datagram at who content)).1.ledger ≡ (serve (at_moment at s) (sender s who content) content).1.ledger = outcome_ledger (serve (at_moment at s) (sender s who content) content) in
      for.OneBegins (sent_is (serve (at_moment at s) (sender s who content) content) ∙ ap sent_back (is_it _ e))
      (begins_it s (Datagram at who content) (max s.clock at) (sender s who content) content
      (subst (λ (l : Ledger). Asks (context_at s.setting.limits s.setting.listener (max s.clock at) (sender s who content)) (message_of content) (arguments_of content) s.ledger l.forwards) (sym ledger) (asks_it s at (sender s who content) content e)) t (passed (Datagram at who content)))
  for_datagram at who content false e =
      for.NoneBegins (λ is. not_sent _ e (sym (sent_is (serve (at_moment at s) (sender s who content) content)) ∙ is))
      (ap (λ (l : Ledger). l.forwards) (outcome_ledger (serve (at_moment at s) (sender s who content) content)) ∙ none_enters s at (sender s who content) content e)

  -- ---- bytes

  module _ (at k : ℕ) (piece : List ℕ) where
    abbrev arrival : Event
    arrival = Bytes at k piece

    out_is : (r : Result Taken CoreFault × State) → bytes s at k piece ≡ r → (step s arrival).0 ≡ (output_or show_taken r).0
    unfolding step
    out_is r e = ap (λ (x : Result Taken CoreFault × State). (output_or show_taken x).0) e

    ledger_is : (r : Result Taken CoreFault × State) → bytes s at k piece ≡ r → (step s arrival).1.ledger ≡ (output_or show_taken r).1.ledger
    unfolding step
    ledger_is r e = ap (λ (x : Result Taken CoreFault × State). (output_or show_taken x).1.ledger) e

    -- no call came
    none_came : (passed arrival k).calls ≡ (t k).calls → (step s arrival).1.ledger ≡ s.ledger → After arrival
    none_came same ledger = on.NoneBegins (λ content is. not_longer (t k).calls _ (sym same ∙ is)) (ap (λ (l : Ledger). l.forwards) ledger)

    plain : (output : Output) → (step s arrival).0 ≡ output → count_in output ≡ 0 → given_by s k arrival output ≡ [] → (step s arrival).1.ledger ≡ s.ledger → After arrival
    plain output out zero none ledger = none_came (ap (λ (x : Session). x.calls) (plain_passes s arrival k (t k) (h k).none output out zero none refl)) ledger

    a_record : (c : Connection) (fed : List ℕ) (n : ℕ) → live_connection k s.connections.all ≡ Some c → fed_in c.phase ≡ Some fed → first_record (fed ++ piece) ≡ Some n
        → count_in (step s arrival).0 ≡ n - length fed → (step s arrival).1.ledger ≡ (answered_in s at k c (take n (fed ++ piece))).ledger
        → (b : Bool) → is_forwarded (said_in s at k c (take n (fed ++ piece))) ≡ b → After arrival
    a_record c fed n there feeds some counts ledger true e =
        let content : List ℕ = data_of (take n (fed ++ piece)) in
        let calls = record_calls s arrival k (t k) (h k) c there at piece fed refl feeds n some counts in
        on.OneBegins content c (calls ∙ ap (λ (o : Outcome). (t k).calls ++ record { content = content; said = o } ∷ []) (is_it _ e)) there
        (begins_it s arrival (max s.clock at) (Tcp k c.who) content
        (subst (λ (l : Ledger). Asks (context_at s.setting.limits s.setting.listener (max s.clock at) (Tcp k c.who)) (message_of content) (arguments_of content) s.ledger l.forwards) (sym ledger) (asks_it s at (Tcp k c.who) content e)) t (passed arrival))
    a_record c fed n there feeds some counts ledger false e =
        let content : List ℕ = data_of (take n (fed ++ piece)) in
        let calls = record_calls s arrival k (t k) (h k) c there at piece fed refl feeds n some counts in
        on.NoneBegins (λ other is. not_both _ e (ap (λ (x : Exchange). is_forwarded x.said) (same_last (t k).calls (record { content = content; said = said_in s at k c (take n (fed ++ piece)) }) (record { content = other; said = outcomes.Forwarded }) (sym calls ∙ is))))
        (ap (λ (l : Ledger). l.forwards) ledger ∙ none_enters s at (Tcp k c.who) content e)

    pub for_bytes : (r : Result Taken CoreFault × State) → bytes s at k piece ≡ r → Arriving s at k piece r → After arrival
    for_bytes r e (NotThere none is) =
        plain (Refused Gone) (out_is r e ∙ ap (λ (x : Result Taken CoreFault × State). (output_or show_taken x).0) is) refl refl
        (ledger_is r e ∙ ap (λ (x : Result Taken CoreFault × State). (output_or show_taken x).1.ledger) is)
    for_bytes r e (NotTaken c there why is) =
        plain (Took 0) (out_is r e ∙ ap (λ (x : Result Taken CoreFault × State). (output_or show_taken x).0) is) refl refl
        (ledger_is r e ∙ ap (λ (x : Result Taken CoreFault × State). (output_or show_taken x).1.ledger) is)
    for_bytes r e (ReadOn c fed there feeds none is) =
        none_came
        (reading_calls s arrival k (t k) (h k) c there at piece fed refl feeds none (ap count_in (out_is r e ∙ ap (λ (x : Result Taken CoreFault × State). (output_or show_taken x).0) is)))
        (ledger_is r e ∙ ap (λ (x : Result Taken CoreFault × State). (output_or show_taken x).1.ledger) is)
    for_bytes r e (Ended c fed n there feeds some is) =
        let lost : Bool = is_no_call (said_in s at k c (take n (fed ++ piece))) in
        a_record c fed n there feeds some
        (ap count_in (out_is r e ∙ ap (λ (x : Result Taken CoreFault × State). (output_or show_taken x).0) is) ∙ count-shown (record { count = n - length fed; lost = lost }))
        (ledger_is r e ∙ ap (λ (x : Result Taken CoreFault × State). (output_or show_taken x).1.ledger) is)
        (is_forwarded (said_in s at k c (take n (fed ++ piece)))) refl
