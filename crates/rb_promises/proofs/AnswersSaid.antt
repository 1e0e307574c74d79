-- A message is answered as the page of answers says, and in no other way.
use Rattle.std.proofs.Common.{◌≡◌, ℕ, ◌<◌, ◌≤◌, Bool, true, false, cond, ◌⊎◌, inl, inr, List, ◌++◌, length, Option, Some, None, refl, sym, ap, subst, ◌∙◌}
use Rattle.std.proofs.lemmas.Bool.{cases_lt, lt-ltb, le-ltb}
use Rattle.rb_xdr.specs.Xdr.{AreBytes}
use Rattle.rb_rpc.specs.declared.call.CallHead.{CallHead}
use Rattle.rb_address.specs.declared.caller.Caller.{Caller}
use Rattle.rb_address.specs.declared.caller.Caller.TheVariants as callers
use Rattle.rb_arguments.specs.declared.kind.Kind.{Kind}
use Rattle.rb_rpc.specs.declared.reply.ReplyStatus.{ReplyStatus}
use Rattle.rb_rpc.specs.declared.reply.ReplyStatus.TheVariants as replies
use Rattle.rb_rpc.specs.Replies.{reply_head}
use Rattle.rb_rpc.specs.Feeds.{arguments_of}
use Rattle.rb_registry.specs.declared.row.Row.{Row}
use Rattle.rb_arguments.specs.declared.remote.RemoteCall.{RemoteCall}
use Rattle.rb_arguments.specs.declared.procedure.MappingProcedure.TheVariants as mappings
use Rattle.rb_arguments.specs.declared.procedure.RpcbProcedure.TheVariants as rpcbs
use Rattle.rb_arguments.specs.declared.procedure.VoidProcedure.TheVariants as voids
use Rattle.rb_arguments.specs.declared.request.Request.{Request}
use Rattle.rb_arguments.specs.declared.request.Request.TheVariants as requests
use Rattle.rb_arguments.specs.Grammar.{Asks}
use Rattle.rb_answers.specs.declared.answers.Answer.{Answer}
use Rattle.rb_answers.specs.declared.answers.Answer.TheVariants as answers
use Rattle.rb_answers.specs.declared.answers.Results.{Results}
use Rattle.rb_answers.specs.declared.answers.Results.TheVariants as results
use Rattle.rb_answers.specs.declared.call.Call.{Call}
use Rattle.rb_answers.specs.declared.context.Context.{Context}
use Rattle.rb_answers.specs.Callers.{who_of}
use Rattle.rb_answers.specs.Ledger.{Ledger, rows_in, with_call_noted}
use Rattle.rb_answers.specs.Answers.{answer, answer_to}
use Rattle.rb_answers.specs.Results.{shown_of, result_bytes}
use Rattle.rb_model.specs.declared.message.Message.{Message}
use Rattle.rb_model.specs.declared.message.Message.TheVariants as says
use Rattle.rb_model.specs.Calls.{Outcome, Outcome as outcomes, outcome, message_of, longest_for, fitting_reply, success, results_outcome, answer_outcome, reply_with}
use Rattle.rb_model.specs.Step.{context_in, serve}
use Rattle.rb_laws.proofs.Grammar.{asked_messages, refused_messages, garbage_messages, no_calls}
use Rattle.rb_promises.specs.LookUps.{HasHosts, IsFoundExactly}
use Rattle.rb_promises.specs.Forwards as forwards
use Rattle.rb_promises.specs.Forwards.{GoesTo, HasRoom, AnswersForward}
use Rattle.rb_promises.specs.ReachedRows.{HaveKeysOfTheirOwn}
use Rattle.rb_promises.specs.Answers.{Gives, IsStreamed, Replies, IsSought, IsToldWhy, Forwards, AnswersCall, Answers, answer_given, MessagesAreAnsweredAsSaid, CallersAreServedAsSaid}
use Rattle.rb_promises.specs.Answers.Replies.{AList, Short, TooLong}
use Rattle.rb_promises.specs.Answers.IsToldWhy.{Told, Silent}
use Rattle.rb_promises.specs.Answers.Forwards.{Goes, GoesNowhere, HasNoRoom}
use Rattle.rb_promises.specs.Answers.AnswersCall.{WithResults, ByForwarding}
use Rattle.rb_promises.specs.Answers.Answers.{NoCall, Refused, Unreadable, Asked}
use Rattle.rb_promises.proofs.OneAnswer.{one_way, one_found_exactly}
use Rattle.rb_promises.proofs.GivenResults.{bytes_of, results_of, IsOwn, HasBytes, results_are}
use Rattle.rb_promises.proofs.ForwardedCalls.{goes_or_not, room_or_not, calls_are_forwarded_exactly}
use Rattle.rb_promises.proofs.KeptWell.{rows_are_well_kept}
use Rattle.rb_promises.proofs.Versions.{counted_so, one_count}

-- ---- what is sent of results

abbrev is_rows : Results → Bool
is_rows (results.Rows list) = true
is_rows (results.Value value) = false
is_rows results.Statistics = false

abbrev is_list : Request → Bool
is_list (requests.Void voids.Null) = false
is_list (requests.Void voids.PmapDump) = true
is_list (requests.Void voids.Dump) = true
is_list (requests.Void voids.Gettime) = false
is_list (requests.Void voids.Getstat) = false
is_list (requests.Mapping procedure m) = false
is_list (requests.Rpcb rpcbs.Set r) = false
is_list (requests.Rpcb rpcbs.Unset r) = false
is_list (requests.Rpcb rpcbs.Getaddr r) = false
is_list (requests.Rpcb rpcbs.Getversaddr r) = false
is_list (requests.Rpcb rpcbs.Getaddrlist r) = true
is_list (requests.Uaddr2taddr text) = false
is_list (requests.Taddr2uaddr netbuf) = false
is_list (requests.Forward kind remote) = false

-- a list over TCP, or a reply that fits
abbrev sent : Caller → ℕ → Bool → ℕ → List ℕ → Outcome
sent (callers.Tcp id who) xid true count bytes = outcomes.Reply (reply_head xid replies.Success ++ bytes) (Some count)
sent (callers.Tcp id who) xid false count bytes = outcomes.Reply (success (callers.Tcp id who) xid bytes) None
sent (callers.Udp who longest) xid true count bytes = outcomes.Reply (success (callers.Udp who longest) xid bytes) None
sent (callers.Udp who longest) xid false count bytes = outcomes.Reply (success (callers.Udp who longest) xid bytes) None

-- the number of changes counts only if it is a list
any_count : (caller : Caller) (xid count other : ℕ) (bytes : List ℕ) → sent caller xid false count bytes ≡ sent caller xid false other bytes
any_count (callers.Tcp id who) xid count other bytes = refl
any_count (callers.Udp who longest) xid count other bytes = refl

outcome_sent : (caller : Caller) (count xid : ℕ) (given : Results) (bytes : List ℕ)
    → results_outcome caller count xid bytes given ≡ sent caller xid (is_rows given) count bytes
outcome_sent (callers.Tcp id who) count xid (results.Rows list) bytes = refl
outcome_sent (callers.Tcp id who) count xid (results.Value value) bytes = refl
outcome_sent (callers.Tcp id who) count xid results.Statistics bytes = refl
outcome_sent (callers.Udp who longest) count xid (results.Rows list) bytes = refl
outcome_sent (callers.Udp who longest) count xid (results.Value value) bytes = refl
outcome_sent (callers.Udp who longest) count xid results.Statistics bytes = refl

-- an answer with these results, of which lists leave the changes
record HasResults (answered : Answer × Ledger) (list : Bool) (count : ℕ) : Type 0 where
  given : Results
  is : answered.0 ≡ answers.Results given
  rows : is_rows given ≡ list
  stays : list ≡ true → length answered.1.changes ≡ count

module _ (context : Context) (xid : ℕ) (answered : Answer × Ledger) (list : Bool) (count : ℕ) (h : HasResults answered list count) where
  abbrev after : ℕ
  after = length answered.1.changes

  abbrev shown_bytes : List ℕ
  shown_bytes = result_bytes (shown_of answered.1) h.given

  by_answer : (reply_with context xid answered).0 ≡ results_outcome context.caller after xid shown_bytes h.given
  by_answer = ap (λ (a : Answer). answer_outcome context.caller after xid (result_bytes (shown_of answered.1)) a) h.is

  same_bytes : results_of answered ≡ shown_bytes
  same_bytes = ap (λ (a : Answer). bytes_of a answered.1) h.is

  by_count : (b : Bool) → (b ≡ true → after ≡ count) → sent context.caller xid b after shown_bytes ≡ sent context.caller xid b count shown_bytes
  by_count true stays = ap (λ (n : ℕ). sent context.caller xid true n shown_bytes) (stays refl)
  by_count false stays = any_count context.caller xid after count shown_bytes

  answer_sent : (reply_with context xid answered).0 ≡ sent context.caller xid list count (results_of answered)
  answer_sent =
      by_answer
      ∙ outcome_sent context.caller after xid h.given shown_bytes
      ∙ ap (λ (b : Bool). sent context.caller xid b after shown_bytes) h.rows
      ∙ by_count list h.stays
      ∙ ap (λ (r : List ℕ). sent context.caller xid list count r) (sym same_bytes)

has_results : (context : Context) (head : CallHead) (arguments : List ℕ) (l : Ledger) (request : Request) → IsOwn request
    → HasResults (answer_to context head request arguments l) (is_list request) (length l.changes)
has_results context head arguments l (requests.Void voids.Null) own = record { given = _; is = refl; rows = refl; stays = λ _. refl }
has_results context head arguments l (requests.Void voids.PmapDump) own = record { given = _; is = refl; rows = refl; stays = λ _. refl }
has_results context head arguments l (requests.Void voids.Dump) own = record { given = _; is = refl; rows = refl; stays = λ _. refl }
has_results context head arguments l (requests.Void voids.Gettime) own = record { given = _; is = refl; rows = refl; stays = λ _. refl }
has_results context head arguments l (requests.Void voids.Getstat) own = record { given = _; is = refl; rows = refl; stays = λ _. refl }
has_results context head arguments l (requests.Mapping mappings.Set m) own = record { given = _; is = refl; rows = refl; stays = λ e. absurd cc }
has_results context head arguments l (requests.Mapping mappings.Unset m) own = record { given = _; is = refl; rows = refl; stays = λ e. absurd cc }
has_results context head arguments l (requests.Mapping mappings.Getport m) own = record { given = _; is = refl; rows = refl; stays = λ e. absurd cc }
has_results context head arguments l (requests.Rpcb rpcbs.Set r) own = record { given = _; is = refl; rows = refl; stays = λ e. absurd cc }
has_results context head arguments l (requests.Rpcb rpcbs.Unset r) own = record { given = _; is = refl; rows = refl; stays = λ e. absurd cc }
has_results context head arguments l (requests.Rpcb rpcbs.Getaddr r) own = record { given = _; is = refl; rows = refl; stays = λ e. absurd cc }
has_results context head arguments l (requests.Rpcb rpcbs.Getversaddr r) own = record { given = _; is = refl; rows = refl; stays = λ e. absurd cc }
has_results context head arguments l (requests.Rpcb rpcbs.Getaddrlist r) own = record { given = _; is = refl; rows = refl; stays = λ _. refl }
has_results context head arguments l (requests.Uaddr2taddr text) own = record { given = _; is = refl; rows = refl; stays = λ _. refl }
has_results context head arguments l (requests.Taddr2uaddr netbuf) own = record { given = _; is = refl; rows = refl; stays = λ _. refl }
has_results context head arguments l (requests.Forward kind remote) own = absurd own

-- ---- which reply has them

-- a list over TCP, or not
streamed_or_not : (caller : Caller) (request : Request) (xid count : ℕ) (bytes : List ℕ)
    → (IsStreamed caller request × (sent caller xid (is_list request) count bytes ≡ outcomes.Reply (reply_head xid replies.Success ++ bytes) (Some count)))
    ⊎ (¬ (IsStreamed caller request) × (sent caller xid (is_list request) count bytes ≡ outcomes.Reply (success caller xid bytes) None))
streamed_or_not (callers.Udp who longest) request xid count bytes = inr (λ is. is.0, by_list (is_list request))
  where
    by_list : (b : Bool) → sent (callers.Udp who longest) xid b count bytes ≡ outcomes.Reply (success (callers.Udp who longest) xid bytes) None
    by_list true = refl
    by_list false = refl
streamed_or_not (callers.Tcp id who) (requests.Void voids.Null) xid count bytes = inr (λ is. is.1, refl)
streamed_or_not (callers.Tcp id who) (requests.Void voids.PmapDump) xid count bytes = inl ((tt, tt), refl)
streamed_or_not (callers.Tcp id who) (requests.Void voids.Dump) xid count bytes = inl ((tt, tt), refl)
streamed_or_not (callers.Tcp id who) (requests.Void voids.Gettime) xid count bytes = inr (λ is. is.1, refl)
streamed_or_not (callers.Tcp id who) (requests.Void voids.Getstat) xid count bytes = inr (λ is. is.1, refl)
streamed_or_not (callers.Tcp id who) (requests.Mapping procedure m) xid count bytes = inr (λ is. is.1, refl)
streamed_or_not (callers.Tcp id who) (requests.Rpcb rpcbs.Set r) xid count bytes = inr (λ is. is.1, refl)
streamed_or_not (callers.Tcp id who) (requests.Rpcb rpcbs.Unset r) xid count bytes = inr (λ is. is.1, refl)
streamed_or_not (callers.Tcp id who) (requests.Rpcb rpcbs.Getaddr r) xid count bytes = inr (λ is. is.1, refl)
streamed_or_not (callers.Tcp id who) (requests.Rpcb rpcbs.Getversaddr r) xid count bytes = inr (λ is. is.1, refl)
streamed_or_not (callers.Tcp id who) (requests.Rpcb rpcbs.Getaddrlist r) xid count bytes = inl ((tt, tt), refl)
streamed_or_not (callers.Tcp id who) (requests.Uaddr2taddr text) xid count bytes = inr (λ is. is.1, refl)
streamed_or_not (callers.Tcp id who) (requests.Taddr2uaddr netbuf) xid count bytes = inr (λ is. is.1, refl)
streamed_or_not (callers.Tcp id who) (requests.Forward kind remote) xid count bytes = inr (λ is. is.1, refl)

module _ (caller : Caller) (xid : ℕ) (bytes : List ℕ) where
  abbrev whole : List ℕ
  whole = reply_head xid replies.Success ++ bytes

  short_is : length whole ≤ longest_for caller → success caller xid bytes ≡ whole
  unfolding fitting_reply
  short_is few = ap (λ (b : Bool). cond b (reply_head xid replies.SystemErr) whole) (le-ltb (longest_for caller) (length whole) few)

  long_is : longest_for caller < length whole → success caller xid bytes ≡ reply_head xid replies.SystemErr
  unfolding fitting_reply
  long_is many = ap (λ (b : Bool). cond b (reply_head xid replies.SystemErr) whole) (lt-ltb (longest_for caller) (length whole) many)

reply_is : (caller : Caller) (xid : ℕ) (request : Request) (count : ℕ) (bytes : List ℕ) (given : Outcome)
    → Replies caller xid request count bytes given → sent caller xid (is_list request) count bytes ≡ given
reply_is caller xid request count bytes given r = by_way r (streamed_or_not caller request xid count bytes)
  where
    by_way : Replies caller xid request count bytes given
        → (IsStreamed caller request × (sent caller xid (is_list request) count bytes ≡ outcomes.Reply (reply_head xid replies.Success ++ bytes) (Some count)))
        ⊎ (¬ (IsStreamed caller request) × (sent caller xid (is_list request) count bytes ≡ outcomes.Reply (success caller xid bytes) None))
        → sent caller xid (is_list request) count bytes ≡ given
    by_way (AList is e) (inl (is2, f)) = f ∙ sym e
    by_way (AList is e) (inr (not, f)) = absurd (not is)
    by_way (Short not few e) (inl (is, f)) = absurd (not is)
    by_way (Short not few e) (inr (not2, f)) = f ∙ ap (λ (reply : List ℕ). outcomes.Reply reply None) (short_is caller xid bytes few) ∙ sym e
    by_way (TooLong not many e) (inl (is, f)) = absurd (not is)
    by_way (TooLong not many e) (inr (not2, f)) = f ∙ ap (λ (reply : List ℕ). outcomes.Reply reply None) (long_is caller xid bytes many) ∙ sym e

is_reply : (caller : Caller) (xid : ℕ) (request : Request) (count : ℕ) (bytes : List ℕ) (given : Outcome)
    → sent caller xid (is_list request) count bytes ≡ given → Replies caller xid request count bytes given
is_reply caller xid request count bytes given e = elim (streamed_or_not caller request xid count bytes) [
  | inl streamed ↦ AList streamed.0 (sym e ∙ streamed.1)
  | inr other ↦ elim (cases_lt (longest_for caller) (length (reply_head xid replies.Success ++ bytes))) [
    | inl many ↦ TooLong other.0 many (sym e ∙ other.1 ∙ ap (λ (reply : List ℕ). outcomes.Reply reply None) (long_is caller xid bytes many))
    | inr few ↦ Short other.0 few (sym e ∙ other.1 ∙ ap (λ (reply : List ℕ). outcomes.Reply reply None) (short_is caller xid bytes few))
  ]
]

-- ---- calls that are forwarded

module _ (context : Context) (head : CallHead) (kind : Kind) (remote : RemoteCall) (arguments : List ℕ) (l : Ledger) (keys : HaveKeysOfTheirOwn (rows_in l)) where
  abbrev answered : Answer × Ledger
  answered = answer_to context head (requests.Forward kind remote) arguments l

  law : AnswersForward context head kind remote arguments l
  law = calls_are_forwarded_exactly context head kind remote arguments l

  abbrev shown : Answer → Outcome
  shown a = answer_outcome context.caller (length answered.1.changes) head.xid (result_bytes (shown_of answered.1)) a

  one_sought : (found : Option Row) → IsSought context remote (rows_in l) found → found ≡ law.found
  one_sought found s =
      let way = one_way (who_of context.caller).source s.netid law.netid s.goes_by law.goes_by in
      one_found_exactly remote.prog remote.vers law.netid (rows_in l) keys found law.found
      (subst (λ n. IsFoundExactly remote.prog remote.vers n (rows_in l) found) way s.is_found) law.is_found

  sought : IsSought context remote (rows_in l) law.found
  sought = record { netid = law.netid; goes_by = law.goes_by; is_found = law.is_found }

  why : (status : ReplyStatus) (given : Outcome) → forwards.IsRefused kind status answered.0 → IsToldWhy kind head.xid status given → shown answered.0 ≡ given
  why status given (inl (indirect, e)) (Told is f) = ap shown e ∙ sym f
  why status given (inl (indirect, e)) (Silent not f) = absurd (not indirect)
  why status given (inr (other, e)) (Told is f) = absurd (other is)
  why status given (inr (other, e)) (Silent not f) = ap shown e ∙ sym f

  told_why : (status : ReplyStatus) (given : Outcome) → forwards.IsRefused kind status answered.0 → shown answered.0 ≡ given → IsToldWhy kind head.xid status given
  told_why status given (inl (indirect, e)) f = Told indirect (sym f ∙ ap shown e)
  told_why status given (inr (other, e)) f = Silent other (sym f ∙ ap shown e)

  forward_is : (given : Outcome) → Forwards context head.xid kind remote l given → shown answered.0 ≡ given
  forward_is given (Goes found s goes room e) =
      let there = subst (GoesTo context remote) (one_sought found s) goes in
      ap shown (law.exactly.1 (there, room)) ∙ sym e
  forward_is given (GoesNowhere found s nowhere told) =
      let none : GoesTo context remote law.found → ⊥ = λ goes. nowhere (subst (GoesTo context remote) (sym (one_sought found s)) goes) in
      why replies.ProgUnavail given (law.unavailable none) told
  forward_is given (HasNoRoom found s goes full told) =
      let there = subst (GoesTo context remote) (one_sought found s) goes in
      why replies.SystemErr given (law.no_room there full) told

  is_forward : (given : Outcome) → shown answered.0 ≡ given → Forwards context head.xid kind remote l given
  is_forward given e = elim (goes_or_not context remote law.found) [
    | inr nowhere ↦ GoesNowhere law.found sought nowhere (told_why replies.ProgUnavail given (law.unavailable nowhere) e)
    | inl goes ↦ elim (room_or_not context l) [
      | inl room ↦ Goes law.found sought goes room (sym e ∙ ap shown (law.exactly.1 (goes, room)))
      | inr full ↦ HasNoRoom law.found sought goes full (told_why replies.SystemErr given (law.no_room goes full) e)
    ]
  ]

-- ---- calls

own_of : (context : Context) (head : CallHead) (l : Ledger) (request : Request) (bytes : List ℕ) → Gives context head l request bytes → IsOwn request
own_of context head l (requests.Void procedure) bytes g = tt
own_of context head l (requests.Mapping procedure m) bytes g = tt
own_of context head l (requests.Rpcb procedure r) bytes g = tt
own_of context head l (requests.Uaddr2taddr text) bytes g = tt
own_of context head l (requests.Taddr2uaddr netbuf) bytes g = tt
own_of context head l (requests.Forward kind remote) bytes g = absurd g

own_or_forward : (request : Request) → IsOwn request ⊎ ((kind : Kind) × (remote : RemoteCall) × (request ≡ requests.Forward kind remote))
own_or_forward (requests.Void procedure) = inl tt
own_or_forward (requests.Mapping procedure m) = inl tt
own_or_forward (requests.Rpcb procedure r) = inl tt
own_or_forward (requests.Uaddr2taddr text) = inl tt
own_or_forward (requests.Taddr2uaddr netbuf) = inl tt
own_or_forward (requests.Forward kind remote) = inr (kind, remote, refl)

has_bytes : (vers proc : ℕ) (request : Request) (bytes : List ℕ) → Asks vers proc request bytes → HasBytes request
has_bytes vers proc (requests.Void procedure) bytes a = tt
has_bytes vers proc (requests.Mapping procedure m) bytes a = tt
has_bytes vers proc (requests.Rpcb procedure r) bytes a = tt
has_bytes vers proc (requests.Uaddr2taddr text) bytes a = tt
has_bytes vers proc (requests.Taddr2uaddr netbuf) bytes a = a.1.fits.buf.2
has_bytes vers proc (requests.Forward kind remote) bytes a = tt

module _ (context : Context) (call : Call) (arguments : List ℕ) (l : Ledger) (hosts : HasHosts context) (keys : HaveKeysOfTheirOwn (rows_in l))
    (bytes : HasBytes call.request) (given : Outcome) where
  abbrev answered_by : Request → Answer × Ledger
  answered_by request = answer_to context call.head request arguments l

  abbrev outcome_of : Request → Outcome
  outcome_of request = (reply_with context call.head.xid (answered_by request)).0

  own_sent : IsOwn call.request
      → outcome_of call.request ≡ sent context.caller call.head.xid (is_list call.request) (length l.changes) (results_of (answered_by call.request))
  own_sent own = answer_sent context call.head.xid (answered_by call.request) (is_list call.request) (length l.changes)
      (has_results context call.head arguments l call.request own)

  call_is : AnswersCall context call l given → outcome_of call.request ≡ given
  call_is (WithResults results gives replied) =
      let own = own_of context call.head l call.request results gives in
      let same = (results_are context call.head arguments l hosts keys results call.request own bytes).0 gives in
      own_sent own
      ∙ ap (λ (r : List ℕ). sent context.caller call.head.xid (is_list call.request) (length l.changes) r) (sym same)
      ∙ reply_is context.caller call.head.xid call.request (length l.changes) results given replied
  call_is (ByForwarding kind remote is goes) =
      ap outcome_of is ∙ forward_is context call.head kind remote arguments l keys given goes

  is_call : outcome_of call.request ≡ given → AnswersCall context call l given
  is_call e = elim (own_or_forward call.request) [
    | inl own ↦
        WithResults (results_of (answered_by call.request))
        ((results_are context call.head arguments l hosts keys (results_of (answered_by call.request)) call.request own bytes).1 refl)
        (is_reply context.caller call.head.xid call.request (length l.changes) (results_of (answered_by call.request)) given (sym (own_sent own) ∙ e))
    | inr forwarded ↦
        let (kind, remote, is) = forwarded in
        ByForwarding kind remote is (is_forward context call.head kind remote arguments l keys given (sym (ap outcome_of is) ∙ e))
  ]

-- ---- messages

module _ (context : Context) (l : Ledger) (hosts : HasHosts context) (keys : HaveKeysOfTheirOwn (rows_in l)) (bytes : List ℕ) (are : AreBytes bytes) (given : Outcome) where
  abbrev said : Message → Outcome
  said message = (outcome context message (arguments_of bytes) l).0

  answer_is : Answers context l bytes given → answer_given context l bytes ≡ given
  unfolding outcome answer with_call_noted
  answer_is (NoCall none e) = ap said ((no_calls bytes are).1 none) ∙ sym e
  answer_is (Refused xid status refused e) = ap said ((refused_messages bytes are xid status).1 refused) ∙ sym e
  answer_is (Unreadable head unreadable e) = ap said ((garbage_messages bytes are head).1 unreadable) ∙ sym e
  answer_is (Asked call counted begins counts answered) =
      ap said ((asked_messages bytes are call).1 begins)
      ∙ call_is context call (arguments_of bytes) (with_call_noted call.head l) hosts keys (has_bytes call.head.vers call.head.proc call.request _ begins.asks) given
      (subst (λ (k : Ledger). AnswersCall context call k given) (one_count call.head l counted counts) answered)

  by_message : (message : Message) → message_of bytes ≡ message → said message ≡ given → Answers context l bytes given
  unfolding outcome answer with_call_noted
  by_message says.NoCall is e = NoCall ((no_calls bytes are).0 is) (sym e)
  by_message (says.Refused head) is e = Refused head.xid head.status ((refused_messages bytes are head.xid head.status).0 is) (sym e)
  by_message (says.Garbage head) is e = Unreadable head ((garbage_messages bytes are head).0 is) (sym e)
  by_message (says.Asked call) is e =
      let begins = (asked_messages bytes are call).0 is in
      Asked call (with_call_noted call.head l) begins (counted_so call.head l)
      (is_call context call (arguments_of bytes) (with_call_noted call.head l) hosts keys (has_bytes call.head.vers call.head.proc call.request _ begins.asks) given e)

  is_answer : answer_given context l bytes ≡ given → Answers context l bytes given
  is_answer e = by_message (message_of bytes) refl e

pub messages_are_answered_as_said : MessagesAreAnsweredAsSaid
messages_are_answered_as_said context l hosts keys bytes are given =
    (is_answer context l hosts keys bytes are given, answer_is context l hosts keys bytes are given)

pub callers_are_served_as_said : CallersAreServedAsSaid
unfolding serve
callers_are_served_as_said s reached caller hosts =
    messages_are_answered_as_said (context_in s caller) s.ledger hosts (rows_are_well_kept s reached).keys
