-- The verdict and the grammar of calls agree.
use Rattle.std.proofs.Common.{◌≡◌, zero, suc, append-nil, ◌≤◌, ◌+◌, ℕ, Bool, true, false, not, cond, eqb, ltb, ◌&&◌, List, [], ◌∷◌, ◌++◌, length, drop, Option, Some, None, refl, sym, ap, subst, ◌∙◌, append_assoc, arith, length-append}
use Rattle.std.specs.Option.{is_some}
use Rattle.std.proofs.lemmas.Bool.{eqb-true, eq-eqb, ltb-false, le-ltb, not-false, cond-false}
use Rattle.std.proofs.lemmas.Nat.{from_be_bytes-to_be_bytes_4}
use Rattle.rb_xdr.specs.Xdr.{AreBytes, IsNumber, number, opaque, array, number_at, word}
use Rattle.rb_rpc.specs.Messages.{CallHead, Credential, AuthStat, auth, auth_none, body_of_sys, uid_of}
use Rattle.rb_rpc.specs.CallBytes.{credential, call_words, call_bytes, sys_body}
use Rattle.rb_rpc.specs.Verdict.{Verdict, auth_end, is_over_long, is_broken, credential_end, verifier_end, sys_uid, caller_of, head_of, verdict}
use Rattle.rb_rpc.specs.declared.call.Verdict.TheVariants.{NoCall, RpcMismatch, AuthError, Call}
use Rattle.rb_rpc.specs.declared.call.Credential.TheVariants as credentials
use Rattle.rb_rpc.specs.declared.auth.AuthStat.TheVariants as stats
use Rattle.rb_rpc.specs.Grammar.{IsAuth, SaysUid, SaysCaller, IsHead, BeginsWithCall, BeginsWithWords, HasAuths, VerdictIsOfTheGrammar, IsCaller, WrittenCallsAreRead}
use Rattle.rb_xdr.proofs.Words.{AreBytes-drop, AreBytes-take, number_at_small, split_number}
use Rattle.rb_rpc.proofs.Auths.{sys_there, sys_again, body_of, auth_there, AuthAgain, auth_again, or_parts, or_no}

-- ---- from the verdict to the grammar

past_no : (b : Bool) (v : Verdict) (head : CallHead) (place : ℕ) → cond b NoCall v ≡ Call head place → (b ≡ false) × (v ≡ Call head place)
past_no true v head place e = absurd cc
past_no false v head place e = (refl, e)

past_rpc : (b : Bool) (x : ℕ) (v : Verdict) (head : CallHead) (place : ℕ) → cond b (RpcMismatch x) v ≡ Call head place → (b ≡ false) × (v ≡ Call head place)
past_rpc true x v head place e = absurd cc
past_rpc false x v head place e = (refl, e)

past_auth : (b : Bool) (x : ℕ) (s : AuthStat) (v : Verdict) (head : CallHead) (place : ℕ) → cond b (AuthError x s) v ≡ Call head place → (b ≡ false) × (v ≡ Call head place)
past_auth true x s v head place e = absurd cc
past_auth false x s v head place e = (refl, e)

call_parts : (h k : CallHead) (p q : ℕ) → Call h p ≡ Call k q → (h ≡ k) × (p ≡ q)
call_parts h k p q e = (cc, cc)

pub equal : (a b : ℕ) → not (eqb a b) ≡ false → a ≡ b
equal a b e = eqb-true a b (not-false (eqb a b) e)

-- what the lines say that do not hold
record Passed (bytes : List ℕ) (head : CallHead) (place : ℕ) : Type 0 where
  is_call : word 1 bytes ≡ 0
  version : word 2 bytes ≡ 2
  long : 24 ≤ length bytes
  credential_few : is_over_long 24 bytes ≡ false
  credential_whole : is_broken 24 bytes ≡ false
  verifier_few : is_over_long (credential_end bytes) bytes ≡ false
  verifier_whole : is_broken (credential_end bytes) bytes ≡ false
  flavor_known : word 6 bytes ≤ 1
  readable : (eqb (word 6 bytes) 1 && not (is_some (sys_uid bytes))) ≡ false
  head_is : head_of bytes ≡ head
  place_is : verifier_end bytes ≡ place

passed : (bytes : List ℕ) (head : CallHead) (place : ℕ) → verdict bytes ≡ Call head place → Passed bytes head place
unfolding verdict
passed bytes head place e =
    let a = past_no _ _ head place e in
    let b = past_rpc _ _ _ head place a.1 in
    let c = past_no _ _ head place b.1 in
    let d = past_auth _ _ _ _ head place c.1 in
    let f = past_no _ _ head place d.1 in
    let g = past_auth _ _ _ _ head place f.1 in
    let h = past_no _ _ head place g.1 in
    let i = past_auth _ _ _ _ head place h.1 in
    let j = past_auth _ _ _ _ head place i.1 in
    let parts = call_parts (head_of bytes) head (verifier_end bytes) place j.1 in
    record {
      is_call = equal _ _ (or_parts _ _ a.0).1;
      version = equal _ _ b.0;
      long = ltb-false _ _ c.0;
      credential_few = d.0;
      credential_whole = f.0;
      verifier_few = g.0;
      verifier_whole = h.0;
      flavor_known = ltb-false _ _ i.0;
      readable = j.0;
      head_is = parts.0;
      place_is = parts.1;
    }

-- AUTH_NONE, or AUTH_SYS that was read
caller_there : (flavor : ℕ) (body : List ℕ) (said : Option ℕ) → AreBytes body → uid_of (body_of_sys body) ≡ said → flavor ≤ 1 → (eqb flavor 1 && not (is_some said)) ≡ false
    → SaysCaller (cond (eqb flavor 0) credentials.None (caller_of said)) flavor body
caller_there flavor body said are e known readable = by_test (eqb flavor 0) refl
  where
    by_said : (s : Option ℕ) → uid_of (body_of_sys body) ≡ s → flavor ≡ 1 → (eqb flavor 1 && not (is_some s)) ≡ false → SaysCaller (caller_of s) flavor body
    by_said (Some uid) e one h = (one, sys_there body uid are e)
    by_said None e one h = absurd (true_false (sym (eq-eqb flavor 1 one) ∙ first_of_two (eqb flavor 1) h))
      where
        true_false : true ≡ false → ⊥
        true_false e = cc

        first_of_two : (b : Bool) → (b && true) ≡ false → b ≡ false
        first_of_two true h = h
        first_of_two false h = refl

    by_test : (b : Bool) → eqb flavor 0 ≡ b → SaysCaller (cond b credentials.None (caller_of said)) flavor body
    by_test true z = eqb-true flavor 0 z
    by_test false z = by_said said e (one_left flavor known z) readable
      where
        one_left : (k : ℕ) → k ≤ 1 → eqb k 0 ≡ false → k ≡ 1
        one_left k le h = grind (arith, le, h)

pub six_words : (bytes : List ℕ) → AreBytes bytes → 24 ≤ length bytes
    → bytes ≡ number (word 0 bytes) ++ (number (word 1 bytes) ++ (number (word 2 bytes) ++ (number (word 3 bytes) ++ (number (word 4 bytes) ++ (number (word 5 bytes) ++ drop 24 bytes)))))
six_words bytes are long =
    let s0 : bytes ≡ number (word 0 bytes) ++ drop 4 bytes = split_number 0 bytes are (omega (arith, long)) in
    let s1 : drop 4 bytes ≡ number (word 1 bytes) ++ drop 8 bytes = split_number 4 bytes are (omega (arith, long)) in
    let s2 : drop 8 bytes ≡ number (word 2 bytes) ++ drop 12 bytes = split_number 8 bytes are (omega (arith, long)) in
    let s3 : drop 12 bytes ≡ number (word 3 bytes) ++ drop 16 bytes = split_number 12 bytes are (omega (arith, long)) in
    let s4 : drop 16 bytes ≡ number (word 4 bytes) ++ drop 20 bytes = split_number 16 bytes are (omega (arith, long)) in
    let s5 : drop 20 bytes ≡ number (word 5 bytes) ++ drop 24 bytes = split_number 20 bytes are (omega (arith, long)) in
    s0 ∙ ap (λ (r : List ℕ). number (word 0 bytes) ++ r) (s1 ∙ ap (λ (r : List ℕ). number (word 1 bytes) ++ r) (s2 ∙ ap (λ (r : List ℕ). number (word 2 bytes) ++ r) (s3 ∙ ap (λ (r : List ℕ). number (word 3 bytes) ++ r) (s4 ∙ ap (λ (r : List ℕ). number (word 4 bytes) ++ r) s5))))

pub length-call_words : (head : CallHead) → length (call_words head) ≡ 24
unfolding number
length-call_words head = refl

-- the words, the credential and the verifier joined
joined_parts : (bytes a v rest : List ℕ) (head : CallHead) (x y : List ℕ)
    → bytes ≡ number head.xid ++ (number 0 ++ (number 2 ++ (number head.prog ++ (number head.vers ++ (number head.proc ++ x)))))
    → x ≡ a ++ y → y ≡ v ++ rest → bytes ≡ (call_words head ++ a ++ v) ++ rest
joined_parts bytes a v rest head x y e f g = e ∙ rw (f, g) (simp append_assoc refl)

begins : (bytes : List ℕ) (head : CallHead) (place : ℕ) → AreBytes bytes → Passed bytes head place → BeginsWithCall (head_of bytes) (verifier_end bytes) bytes
unfolding credential_end verifier_end sys_uid
begins bytes head place are p =
    let ce : ℕ = auth_end 24 bytes in
    let a = auth_there 24 bytes are p.credential_few p.credential_whole in
    let v = auth_there ce bytes are p.verifier_few p.verifier_whole in
    let cred : List ℕ = auth (number_at 24 bytes) (body_of 24 bytes) in
    let verf : List ℕ = auth (number_at ce bytes) (body_of ce bytes) in
    let words_are = six_words bytes are p.long in
    let whole6 : bytes ≡ number (word 0 bytes) ++ (number 0 ++ (number 2 ++ (number (word 3 bytes) ++ (number (word 4 bytes) ++ (number (word 5 bytes) ++ drop 24 bytes))))) =
    words_are ∙ ap (λ (k : ℕ). number (word 0 bytes) ++ (number k ++ (number (word 2 bytes) ++ (number (word 3 bytes) ++ (number (word 4 bytes) ++ (number (word 5 bytes) ++ drop 24 bytes)))))) p.is_call
    ∙ ap (λ (k : ℕ). number (word 0 bytes) ++ (number 0 ++ (number k ++ (number (word 3 bytes) ++ (number (word 4 bytes) ++ (number (word 5 bytes) ++ drop 24 bytes)))))) p.version in
    record {
      flavor = number_at 24 bytes;
      body = body_of 24 bytes;
      verifier_flavor = number_at ce bytes;
      verifier_body = body_of ce bytes;
      rest = drop (auth_end ce bytes) bytes;
      head_fits = record { xid = number_at_small 0 bytes are; prog = number_at_small 12 bytes are; vers = number_at_small 16 bytes are; proc = number_at_small 20 bytes are };
      credential_fits = a.fits;
      caller = caller_there (number_at 24 bytes) (body_of 24 bytes) _ (AreBytes-take _ _ (AreBytes-drop 32 bytes are)) refl p.flavor_known p.readable;
      verifier_fits = v.fits;
      whole = joined_parts bytes cred verf (drop (auth_end ce bytes) bytes) (head_of bytes) (drop 24 bytes) (drop ce bytes) whole6 a.text v.text;
      place_is = v.end_is ∙ omega (arith, a.end_is, length-append (call_words (head_of bytes) ++ cred) verf, length-append (call_words (head_of bytes)) cred, length-call_words (head_of bytes));
    }

-- ---- from the grammar to the verdict

pub record WordsAgain (head : CallHead) (bytes : List ℕ) : Type 0 where
  pub w0 : word 0 bytes ≡ head.xid
  pub w1 : word 1 bytes ≡ 0
  pub w2 : word 2 bytes ≡ 2
  pub w3 : word 3 bytes ≡ head.prog
  pub w4 : word 4 bytes ≡ head.vers
  pub w5 : word 5 bytes ≡ head.proc

pub words_again : (head : CallHead) (tail : List ℕ) → IsHead head → WordsAgain head (call_words head ++ tail)
unfolding number number_at
words_again head tail is = record {
  w0 = from_be_bytes-to_be_bytes_4 head.xid is.xid;
  w1 = refl;
  w2 = refl;
  w3 = from_be_bytes-to_be_bytes_4 head.prog is.prog;
  w4 = from_be_bytes-to_be_bytes_4 head.vers is.vers;
  w5 = from_be_bytes-to_be_bytes_4 head.proc is.proc;
}

-- the verdict from the flavor on, from the verifier on, and from the credential on
abbrev pub from_flavor : ℕ → List ℕ → Verdict
from_flavor xid bytes =
    cond (ltb 1 (word 6 bytes)) (AuthError xid stats.RejectedCredential)
    (cond (eqb (word 6 bytes) 1 && not (is_some (sys_uid bytes))) (AuthError xid stats.BadCredential) (Call (head_of bytes) (verifier_end bytes)))

abbrev pub from_verifier : ℕ → List ℕ → Verdict
from_verifier xid bytes = cond (is_over_long (credential_end bytes) bytes) (AuthError xid stats.BadVerifier) (cond (is_broken (credential_end bytes) bytes) NoCall (from_flavor xid bytes))

abbrev pub from_credential : ℕ → List ℕ → Verdict
from_credential xid bytes = cond (is_over_long 24 bytes) (AuthError xid stats.BadCredential) (cond (is_broken 24 bytes) NoCall (from_verifier xid bytes))

pub at_credential : (xid : ℕ) (rest bytes : List ℕ) → BeginsWithWords xid rest bytes → verdict bytes ≡ from_credential xid bytes
unfolding verdict
at_credential xid rest bytes w =
    let words_are : WordsAgain w.head bytes = subst (λ (xs : List ℕ). WordsAgain w.head xs) (sym w.whole) (words_again w.head rest w.head_fits) in
    let long : 24 ≤ length bytes = omega (arith, ap length w.whole, length-call_words w.head, length-append (call_words w.head) rest) in
    cond-false _ _ _ (or_no _ _ (le-ltb (length bytes) 12 (omega (arith, long))) (ap (λ (k : ℕ). not (eqb k 0)) words_are.w1))
    ∙ cond-false _ _ _ (ap (λ (k : ℕ). not (eqb k 2)) words_are.w2)
    ∙ cond-false _ _ _ (le-ltb (length bytes) 24 long)
    ∙ ap (λ (k : ℕ). from_credential k bytes) (words_are.w0 ∙ w.xid_is)

pub credential_again : (xid flavor : ℕ) (body rest bytes : List ℕ) → IsAuth flavor body → BeginsWithWords xid (auth flavor body ++ rest) bytes → AuthAgain 24 flavor body bytes
credential_again xid flavor body rest bytes fits w =
    subst (λ (xs : List ℕ). AuthAgain 24 flavor body xs) (sym w.whole) (auth_again (call_words w.head) rest 24 flavor body (length-call_words w.head) fits)

-- the words and the credential in front
pub behind_credential : (xid flavor : ℕ) (body rest bytes : List ℕ) (w : BeginsWithWords xid (auth flavor body ++ rest) bytes)
    → (bytes ≡ (call_words w.head ++ auth flavor body) ++ rest) × (length (call_words w.head ++ auth flavor body) ≡ 24 + length (auth flavor body))
behind_credential xid flavor body rest bytes w = (
  w.whole ∙ sym (append_assoc (call_words w.head) (auth flavor body) rest),
  length-append (call_words w.head) (auth flavor body) ∙ ap (λ (k : ℕ). k + length (auth flavor body)) (length-call_words w.head),
)

pub at_verifier : (xid flavor : ℕ) (body rest bytes : List ℕ) → IsAuth flavor body → BeginsWithWords xid (auth flavor body ++ rest) bytes → verdict bytes ≡ from_verifier xid bytes
at_verifier xid flavor body rest bytes fits w =
    let cred = credential_again xid flavor body rest bytes fits w in
    at_credential xid (auth flavor body ++ rest) bytes w ∙ cond-false _ _ _ cred.not_long ∙ cond-false _ _ _ cred.not_broken

pub verifier_again : (xid flavor : ℕ) (body bytes : List ℕ) (h : HasAuths xid flavor body bytes) → AuthAgain (24 + length (auth flavor body)) h.verifier_flavor h.verifier_body bytes
verifier_again xid flavor body bytes h =
    let v : List ℕ = auth h.verifier_flavor h.verifier_body in
    let front = behind_credential xid flavor body (v ++ h.rest) bytes h.words in
    subst (λ (xs : List ℕ). AuthAgain (24 + length (auth flavor body)) h.verifier_flavor h.verifier_body xs) (sym front.0)
    (auth_again (call_words h.words.head ++ auth flavor body) h.rest (24 + length (auth flavor body)) h.verifier_flavor h.verifier_body front.1 h.verifier_fits)

pub at_flavor : (xid flavor : ℕ) (body bytes : List ℕ) → HasAuths xid flavor body bytes → verdict bytes ≡ from_flavor xid bytes
unfolding credential_end
at_flavor xid flavor body bytes h =
    let v : List ℕ = auth h.verifier_flavor h.verifier_body in
    let cred = credential_again xid flavor body (v ++ h.rest) bytes h.credential_fits h.words in
    let verf = verifier_again xid flavor body bytes h in
    at_verifier xid flavor body (v ++ h.rest) bytes h.credential_fits h.words
    ∙ cond-false _ _ _ (ap (λ (k : ℕ). is_over_long k bytes) cred.end_is ∙ verf.not_long)
    ∙ cond-false _ _ _ (ap (λ (k : ℕ). is_broken k bytes) cred.end_is ∙ verf.not_broken)

record CallerAgain (cred : Credential) (said : Option ℕ) (flavor : ℕ) : Type 0 where
  known : flavor ≤ 1
  readable : (eqb flavor 1 && not (is_some said)) ≡ false
  cred_is : cond (eqb flavor 0) credentials.None (caller_of said) ≡ cred

caller_again : (cred : Credential) (flavor : ℕ) (body : List ℕ) (said : Option ℕ) → uid_of (body_of_sys body) ≡ said → SaysCaller cred flavor body → CallerAgain cred said flavor
caller_again credentials.None flavor body said e zero_is = rw zero_is (record { known = omega arith; readable = refl; cred_is = refl })
caller_again (credentials.Sys uid) flavor body said e one = rw (one.0, sym e ∙ sys_again body uid one.1) (record { known = omega arith; readable = refl; cred_is = refl })

made : (head : CallHead) (x p v c : ℕ) (o : Credential) (place q : ℕ) → x ≡ head.xid → p ≡ head.prog → v ≡ head.vers → c ≡ head.proc → o ≡ head.cred → q ≡ place
    → Call (record { xid = x; prog = p; vers = v; proc = c; cred = o }) q ≡ Call head place
made head x p v c o place q e0 e1 e2 e3 e4 e5 = rw (e0, e1, e2, e3, e4, e5) refl

pub again : (bytes : List ℕ) (head : CallHead) (place : ℕ) → BeginsWithCall head place bytes → verdict bytes ≡ Call head place
unfolding credential_end verifier_end sys_uid
again bytes head place b =
    let text : List ℕ = call_words head in
    let a : List ℕ = auth b.flavor b.body in
    let v : List ℕ = auth b.verifier_flavor b.verifier_body in
    let whole : bytes ≡ text ++ (a ++ (v ++ b.rest)) = b.whole ∙ append_assoc (text ++ a) v b.rest ∙ append_assoc text a (v ++ b.rest) in
    let words : BeginsWithWords head.xid (a ++ (v ++ b.rest)) bytes = record { head = head; head_fits = b.head_fits; xid_is = refl; whole = whole } in
    let auths : HasAuths head.xid b.flavor b.body bytes = record {
      verifier_flavor = b.verifier_flavor;
      verifier_body = b.verifier_body;
      rest = b.rest;
      credential_fits = b.credential_fits;
      verifier_fits = b.verifier_fits;
      words = words;
    } in
    let words_are : WordsAgain head bytes = subst (λ (xs : List ℕ). WordsAgain head xs) (sym whole) (words_again head (a ++ (v ++ b.rest)) b.head_fits) in
    let cred = credential_again head.xid b.flavor b.body (v ++ b.rest) bytes b.credential_fits words in
    let verf = verifier_again head.xid b.flavor b.body bytes auths in
    let said : Option ℕ = uid_of (body_of_sys (body_of 24 bytes)) in
    let caller : CallerAgain head.cred said b.flavor = caller_again head.cred b.flavor b.body said (ap (λ (xs : List ℕ). uid_of (body_of_sys xs)) (sym cred.body_is)) b.caller in
    let known : word 6 bytes ≤ 1 = omega (arith, cred.flavor_is, caller.known) in
    let end_is : auth_end (auth_end 24 bytes) bytes ≡ place =
    ap (λ (k : ℕ). auth_end k bytes) cred.end_is ∙ verf.end_is ∙ omega (arith, b.place_is, length-call_words head, length-append (text ++ a) v, length-append text a) in
    at_flavor head.xid b.flavor b.body bytes auths
    ∙ cond-false _ _ _ (le-ltb 1 (word 6 bytes) known)
    ∙ cond-false _ _ _ (ap (λ (k : ℕ). eqb k 1 && not (is_some said)) cred.flavor_is ∙ caller.readable)
    ∙ made head _ _ _ _ _ place _ words_are.w0 words_are.w3 words_are.w4 words_are.w5 (ap (λ (k : ℕ). cond (eqb k 0) credentials.None (caller_of said)) cred.flavor_is ∙ caller.cred_is) end_is

pub verdict_agrees : VerdictIsOfTheGrammar
verdict_agrees bytes are head place = (
  λ e.
      let p = passed bytes head place e in
      subst (λ (q : CallHead × ℕ). BeginsWithCall q.0 q.1 bytes) (pair_is (head_of bytes) head (verifier_end bytes) place p.head_is p.place_is) (begins bytes head place are p),
  λ b. again bytes head place b,
)
  where
    pair_is : (h k : CallHead) (p q : ℕ) → h ≡ k → p ≡ q → ◌≡◌ {A = CallHead × ℕ} (h, p) (k, q)
    pair_is h k p q e f = rw (e, f) refl

-- ---- what is written

pub AreBytes-append : (xs ys : List ℕ) → AreBytes xs → AreBytes ys → AreBytes (xs ++ ys)
AreBytes-append [] ys is_x is_y i = is_y i
AreBytes-append (x ∷ xs) ys is_x is_y zero = is_x zero
AreBytes-append (x ∷ xs) ys is_x is_y (suc i) = AreBytes-append xs ys (λ j. is_x (suc j)) is_y i

AreBytes-nil : AreBytes []
AreBytes-nil i = omega arith

pub AreBytes-number : (n : ℕ) → AreBytes (number n)
unfolding number
AreBytes-number n zero = omega arith
AreBytes-number n (suc zero) = omega arith
AreBytes-number n (suc (suc zero)) = omega arith
AreBytes-number n (suc (suc (suc zero))) = omega arith
AreBytes-number n (suc (suc (suc (suc i)))) = omega arith

opaque_nil : opaque [] ≡ number 0
unfolding opaque number
opaque_nil = refl

array_nil : array [] ≡ number 0
unfolding array number
array_nil = refl

pub AreBytes-sys : (uid : ℕ) → AreBytes (sys_body uid)
AreBytes-sys uid =
    AreBytes-append (number 0 ++ opaque [] ++ number uid ++ number 0) (number 0)
    (AreBytes-append (number 0 ++ opaque [] ++ number uid) (number 0)
    (AreBytes-append (number 0 ++ opaque []) (number uid)
    (AreBytes-append (number 0) (opaque []) (AreBytes-number 0) (subst AreBytes (sym opaque_nil) (AreBytes-number 0)))
    (AreBytes-number uid))
    (AreBytes-number 0))
    (AreBytes-number 0)

length-sys : (uid : ℕ) → length (sys_body uid) ≡ 20
unfolding number opaque
length-sys uid = refl

said_by : (uid : ℕ) → IsNumber uid → SaysUid uid (sys_body uid)
said_by uid small = record {
  fields = record { stamp = 0; machine = []; uid = uid; gid = 0; gids = [] };
  rest = [];
  fit = record { stamp = omega arith; machine = (omega arith, omega arith, AreBytes-nil); uid = small; gid = omega arith; gids = tt; few_gids = omega arith };
  uid_is = refl;
  whole = ap (λ (xs : List ℕ). number 0 ++ opaque [] ++ number uid ++ number 0 ++ xs) (sym array_nil) ∙ sym (append-nil (number 0 ++ opaque [] ++ number uid ++ number 0 ++ array []));
}

none_fits : IsAuth 0 []
none_fits = record { flavor_fits = omega arith; body_fits = (omega arith, omega arith, AreBytes-nil) }

record Written (cred : Credential) : Type 0 where
  flavor : ℕ
  body : List ℕ
  fits : IsAuth flavor body
  caller : SaysCaller cred flavor body
  spelled : credential cred ≡ auth flavor body

written : (cred : Credential) → IsCaller cred → Written cred
written credentials.None is = record { flavor = 0; body = []; fits = none_fits; caller = refl; spelled = refl }
written (credentials.Sys uid) is = record {
  flavor = 1;
  body = sys_body uid;
  fits = record { flavor_fits = omega arith; body_fits = (omega (arith, length-sys uid), omega (arith, length-sys uid), AreBytes-sys uid) };
  caller = (refl, said_by uid is);
  spelled = refl;
}

pub written_again : WrittenCallsAreRead
unfolding call_bytes
written_again head arguments is caller =
    let w = written head.cred caller in
    let text : call_words head ++ credential head.cred ++ auth_none ≡ call_words head ++ auth w.flavor w.body ++ auth_none = ap (λ (xs : List ℕ). call_words head ++ xs ++ auth_none) w.spelled in
    again (call_words head ++ credential head.cred ++ auth_none ++ arguments) head (length (call_words head ++ credential head.cred ++ auth_none)) (record {
      flavor = w.flavor;
      body = w.body;
      verifier_flavor = 0;
      verifier_body = [];
      rest = arguments;
      head_fits = is;
      credential_fits = w.fits;
      caller = w.caller;
      verifier_fits = none_fits;
      whole = ap (λ (xs : List ℕ). xs ++ arguments) text;
      place_is = ap length text;
    })
