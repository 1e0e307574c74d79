-- What a message says, and what its bytes are spelled from, agree.
use Rattle.std.specs.Prelude.{find, is_some}
use Rattle.std.specs.List.{list_all}
use Rattle.std.proofs.Common.{◌≡◌, ◌<◌, ◌≤◌, ◌⊎◌, ℕ, Bool, true, false, cond, ◌&&◌, List, [], ◌∷◌, drop, Option, Some, None, Err, refl, sym, ap, subst, ◌∙◌, arith}
use Rattle.std.proofs.lemmas.Bool.{eqb-true, eqb-false, eq-eqb, not-false, not-true}
use Rattle.std.proofs.lemmas.Option.{none-some}
use Rattle.std.proofs.lemmas.Grind.{common_steps}
use Rattle.rb_xdr.specs.Xdr.{AreBytes}
use Rattle.rb_xdr.proofs.Words.{AreBytes-drop}
use Rattle.rb_rpc.specs.declared.call.CallHead.{CallHead}
use Rattle.rb_rpc.specs.declared.call.Verdict.{Verdict}
use Rattle.rb_rpc.specs.declared.call.Verdict.TheVariants as verdicts
use Rattle.rb_rpc.specs.declared.reply.ReplyStatus.{ReplyStatus}
use Rattle.rb_rpc.specs.declared.reply.ReplyStatus.TheVariants as replies
use Rattle.rb_rpc.specs.Verdict.{verdict}
use Rattle.rb_rpc.specs.Grammar.{BeginsWithCall, IsNoCall}
use Rattle.rb_rpc.proofs.Calls.{verdict_agrees}
use Rattle.rb_rpc.proofs.Refusals.{mismatches_agree, auth_errors_agree, the_rest}
use Rattle.rb_rpc.specs.Feeds.{behind_head, arguments_of}
use Rattle.rb_registry.specs.Rows.{rpcb_prog}
use Rattle.rb_answers.specs.declared.call.Call.{Call}
use Rattle.rb_arguments.specs.declared.procedure.Procedure.{Procedure}
use Rattle.rb_arguments.specs.declared.request.ArgumentFault.TheVariants as faults
use Rattle.rb_arguments.specs.declared.request.Request.{Request}
use Rattle.rb_arguments.specs.Arguments.{procedures, procedure_at, is_known, request, or_garbage, read_request}
use Rattle.rb_arguments.specs.Grammar.{Asks}
use Rattle.rb_arguments.proofs.Requests.{requests_are_of_the_grammar}
use Rattle.rb_model.specs.declared.message.Message.{Message}
use Rattle.rb_model.specs.declared.message.Message.TheVariants.{NoCall, Refused, Garbage, Asked}
use Rattle.rb_model.specs.Calls.{is_served, refusal, request_of, call_of, message_with, message_of}
use Rattle.rb_model.specs.Grammar.{IsOfServedVersion, IsOfOtherProgram, IsOfOtherVersion, IsOfNoProcedure, BeginsWithRequest, HasUnreadableArguments, BeginsWithCallBy, IsRefused, AskedMessagesAreOfTheGrammar, RefusedMessagesAreOfTheGrammar, GarbageMessagesAreOfTheGrammar, NoCallsAreOfTheGrammar}

-- ---- only served versions have procedures

-- what is found passes the test, and every test that all pass
found : {A : Type 0} (p q : A → Bool) (xs : List A) (x : A) → list_all q xs ≡ true → find p xs ≡ Some x → (p x ≡ true) × (q x ≡ true)
found p q [] x all e = grind arith
found p q (y ∷ ys) x all e = grind (arith, found p q ys x)

first_of_both : (a b : Bool) → (a && b) ≡ true → a ≡ true
first_of_both a b e = grind arith

versions_are_served : list_all (λ row. is_served row.0) procedures ≡ true
unfolding is_served
versions_are_served = refl

known_is_served : (vers proc : ℕ) (p : Procedure) → procedure_at vers proc ≡ Some p → is_served vers ≡ true
unfolding procedure_at
known_is_served vers proc p e = grind (arith, common_steps, none-some, found, versions_are_served, eqb-true, first_of_both)

-- ---- versions

served_within : (vers : ℕ) → is_served vers ≡ true → (2 ≤ vers) × (vers ≤ 4)
unfolding is_served
served_within vers e = grind arith

serves : (vers : ℕ) → 2 ≤ vers → vers ≤ 4 → is_served vers ≡ true
unfolding is_served
serves vers least most = grind arith

outside : (vers : ℕ) → is_served vers ≡ false → (vers < 2) ⊎ (4 < vers)
unfolding is_served
outside vers e = grind arith

not_served : (vers : ℕ) → (vers < 2) ⊎ (4 < vers) → is_served vers ≡ false
unfolding is_served
not_served vers p = grind arith

-- ---- from the message to the grammar

-- what a message says of the bytes
abbrev Says : List ℕ → Message → Type 0
Says bytes NoCall = IsNoCall bytes
Says bytes (Refused reply) = IsRefused reply.xid reply.status bytes
Says bytes (Garbage head) = HasUnreadableArguments head bytes
Says bytes (Asked call) = BeginsWithRequest call bytes

by_line : (bytes : List ℕ) (b : Bool) (m n : Message) → (b ≡ true → Says bytes m) → (b ≡ false → Says bytes n) → Says bytes (cond b m n)
by_line bytes b m n there more = grind arith

-- a head that ends at the place, of a version that is served
record HasHead (h : CallHead) (place : ℕ) (bytes : List ℕ) : Type 0 where
  are : AreBytes bytes
  call : BeginsWithCall h place bytes
  served : IsOfServedVersion h

by_request : (h : CallHead) (place : ℕ) (bytes : List ℕ) → HasHead h place bytes → (p : Procedure) → procedure_at h.vers h.proc ≡ Some p
    → (r : Option Request) → request h.vers h.proc (drop place bytes) ≡ r → Says bytes (request_of h (or_garbage r))
unfolding request_of
by_request h place bytes has p known (Some r) e = record {
  place = place;
  head = has.call;
  program = has.served.program;
  asks = (requests_are_of_the_grammar h.vers h.proc (drop place bytes) (AreBytes-drop place bytes has.are) r).0 e;
}
by_request h place bytes has p known None e = record {
  place = place;
  procedure = p;
  call = has.call;
  served = has.served;
  known = known;
  unreadable = λ r asks. absurd (none-some r (sym e ∙ (requests_are_of_the_grammar h.vers h.proc (drop place bytes) (AreBytes-drop place bytes has.are) r).1 asks));
}

by_procedure : (h : CallHead) (place : ℕ) (bytes : List ℕ) → HasHead h place bytes → (found : Option Procedure) → procedure_at h.vers h.proc ≡ found
    → Says bytes (request_of h (cond (is_some found) (or_garbage (request h.vers h.proc (drop place bytes))) (Err faults.ProcUnavail)))
unfolding request_of
by_procedure h place bytes has None e = record { head = h; place = place; call = has.call; xid_is = refl; such = record { served = has.served; none = e } }
by_procedure h place bytes has (Some p) e = by_request h place bytes has p e (request h.vers h.proc (drop place bytes)) refl

from_call : (h : CallHead) (place : ℕ) (bytes : List ℕ) → AreBytes bytes → BeginsWithCall h place bytes → Says bytes (call_of h (drop place bytes))
unfolding call_of is_known
from_call h place bytes are call = grind (arith, common_steps, by_line, eqb-false, not-true, eqb-true, not-false, outside, served_within, by_procedure)

sound : (bytes : List ℕ) → AreBytes bytes → Says bytes (message_of bytes)
unfolding message_of arguments_of
sound bytes are = by_verdict (verdict bytes) refl
  where
    by_verdict : (v : Verdict) → verdict bytes ≡ v → Says bytes (message_with v (behind_head v bytes))
    by_verdict verdicts.NoCall is = (the_rest bytes are).0 is
    by_verdict (verdicts.RpcMismatch xid) is = (refl, refl, (mismatches_agree bytes are xid).0 is)
    by_verdict (verdicts.AuthError xid stat) is = (auth_errors_agree bytes are xid stat).0 is
    by_verdict (verdicts.Call h place) is = from_call h place bytes are ((verdict_agrees bytes are h place).0 is)

spelled : (bytes : List ℕ) → AreBytes bytes → (m : Message) → message_of bytes ≡ m → Says bytes m
spelled bytes are m e = subst (λ (n : Message). Says bytes n) e (sound bytes are)

-- ---- and back

pub by_verdict_again : (bytes : List ℕ) (v : Verdict) → verdict bytes ≡ v → message_of bytes ≡ message_with v (behind_head v bytes)
unfolding message_of arguments_of
by_verdict_again bytes v is = ap (λ (w : Verdict). message_with w (behind_head w bytes)) is

call_again : (bytes : List ℕ) → AreBytes bytes → (h : CallHead) (place : ℕ) → BeginsWithCall h place bytes → message_of bytes ≡ call_of h (drop place bytes)
call_again bytes are h place call = by_verdict_again bytes (verdicts.Call h place) ((verdict_agrees bytes are h place).1 call)

other_program_again : (h : CallHead) (arguments : List ℕ) → IsOfOtherProgram h → call_of h arguments ≡ refusal h.xid replies.ProgUnavail
unfolding call_of
other_program_again h arguments other = grind arith

other_version_again : (h : CallHead) (arguments : List ℕ) → IsOfOtherVersion h → call_of h arguments ≡ refusal h.xid (replies.ProgMismatch 2 4)
unfolding call_of
other_version_again h arguments is = grind (arith, common_steps, eq-eqb, not_served)

served_again : (h : CallHead) (arguments : List ℕ) → IsOfServedVersion h → call_of h arguments ≡ request_of h (read_request h.vers h.proc arguments)
unfolding call_of
served_again h arguments is = grind (arith, common_steps, eq-eqb, serves)

no_procedure_again : (h : CallHead) (arguments : List ℕ) → IsOfNoProcedure h → call_of h arguments ≡ refusal h.xid replies.ProcUnavail
unfolding request_of is_known
no_procedure_again h arguments is = grind (arith, common_steps, served_again)

known_of : (vers proc : ℕ) (p : Procedure) → procedure_at vers proc ≡ Some p → is_known vers proc ≡ true
unfolding is_known
known_of vers proc p e = ap is_some e

unreadable_again : (bytes : List ℕ) → AreBytes bytes → (h : CallHead) → HasUnreadableArguments h bytes → message_of bytes ≡ Garbage h
unfolding request_of
unreadable_again bytes are h b =
    let known = known_of h.vers h.proc b.procedure b.known in
    let none : request h.vers h.proc (drop b.place bytes) ≡ None = by_value (request h.vers h.proc (drop b.place bytes)) refl in
    call_again bytes are h b.place b.call ∙ served_again h (drop b.place bytes) b.served ∙ rw (known, none) refl
  where
    by_value : (r : Option Request) → request h.vers h.proc (drop b.place bytes) ≡ r → r ≡ None
    by_value None e = refl
    by_value (Some r) e = absurd (b.unreadable r ((requests_are_of_the_grammar h.vers h.proc (drop b.place bytes) (AreBytes-drop b.place bytes are) r).0 e))

to_call : (call : Call) (arguments : List ℕ) → AreBytes arguments → call.head.prog ≡ rpcb_prog → Asks call.head.vers call.head.proc call.request arguments → call_of call.head arguments ≡ Asked call
unfolding call_of request_of
to_call call arguments are program is = grind (arith, common_steps, known_of, serves, known_is_served, eq-eqb, requests_are_of_the_grammar)

read_back : (bytes : List ℕ) → AreBytes bytes → (call : Call) → BeginsWithRequest call bytes → message_of bytes ≡ Asked call
read_back bytes are call b = call_again bytes are call.head b.place b.head ∙ to_call call (drop b.place bytes) (AreBytes-drop b.place bytes are) b.program b.asks

-- a call that is refused by its head
by_head : (bytes : List ℕ) → AreBytes bytes → (xid : ℕ) (status : ReplyStatus) (is_such : CallHead → Type 0)
    → ((h : CallHead) (arguments : List ℕ) → is_such h → call_of h arguments ≡ refusal h.xid status)
    → BeginsWithCallBy xid is_such bytes → message_of bytes ≡ refusal xid status
by_head bytes are xid status is_such again b =
    call_again bytes are b.head b.place b.call ∙ again b.head (drop b.place bytes) b.such ∙ ap (λ (k : ℕ). refusal k status) b.xid_is

refused_again : (bytes : List ℕ) → AreBytes bytes → (xid : ℕ) (status : ReplyStatus) → IsRefused xid status bytes → message_of bytes ≡ refusal xid status
refused_again bytes are xid (replies.RpcMismatch low high) (low_is, high_is, b) =
    by_verdict_again bytes (verdicts.RpcMismatch xid) ((mismatches_agree bytes are xid).1 b) ∙ rw (low_is, high_is) refl
refused_again bytes are xid (replies.AuthError stat) b = by_verdict_again bytes (verdicts.AuthError xid stat) ((auth_errors_agree bytes are xid stat).1 b)
refused_again bytes are xid replies.ProgUnavail b = by_head bytes are xid replies.ProgUnavail IsOfOtherProgram other_program_again b
refused_again bytes are xid (replies.ProgMismatch low high) (low_is, high_is, b) =
    by_head bytes are xid (replies.ProgMismatch 2 4) IsOfOtherVersion other_version_again b ∙ rw (low_is, high_is) refl
refused_again bytes are xid replies.ProcUnavail b = by_head bytes are xid replies.ProcUnavail IsOfNoProcedure no_procedure_again b
refused_again bytes are xid status b = absurd b

-- ---- the laws

pub asked_messages : AskedMessagesAreOfTheGrammar
asked_messages bytes are call = (spelled bytes are (Asked call), read_back bytes are call)

pub refused_messages : RefusedMessagesAreOfTheGrammar
refused_messages bytes are xid status = (spelled bytes are (refusal xid status), refused_again bytes are xid status)

pub garbage_messages : GarbageMessagesAreOfTheGrammar
garbage_messages bytes are head = (spelled bytes are (Garbage head), unreadable_again bytes are head)

pub no_calls : NoCallsAreOfTheGrammar
no_calls bytes are = (spelled bytes are NoCall, λ is. by_verdict_again bytes verdicts.NoCall ((the_rest bytes are).1 is))
