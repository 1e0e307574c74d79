-- The refusals of calls and the grammar agree.
use Rattle.std.proofs.Common.{◌≡◌, ◌<◌, ◌≤◌, ◌+◌, ◌^◌, ℕ, Bool, true, false, not, cond, eqb, ltb, ◌&&◌, ◌||◌, List, ◌++◌, length, drop, Option, Some, None, refl, sym, ap, subst, ◌∙◌, append_assoc, arith, inl, inr, length-append}
use Rattle.std.specs.Option.{is_some}
use Rattle.std.proofs.lemmas.Bool.{eqb-true, eq-eqb, ltb-true, ltb-false, lt-ltb, le-ltb, cond-true, cond-false}
use Rattle.std.proofs.lemmas.Nat.{from_be_bytes-to_be_bytes_4}
use Rattle.rb_xdr.specs.Xdr.{AreBytes, number, number_at, word}
use Rattle.rb_xdr.proofs.Words.{number_at_small, split_number, number_at-append, number_at-number, length-number}
use Rattle.rb_rpc.specs.Messages.{AuthStat, auth, max_auth_body, body_of_sys, uid_of}
use Rattle.rb_rpc.specs.CallBytes.{call_words}
use Rattle.rb_rpc.specs.Verdict.{Verdict, body_length, auth_end, is_over_long, is_broken, credential_end, sys_uid, head_of, verdict}
use Rattle.rb_rpc.specs.declared.call.Verdict.TheVariants.{NoCall, RpcMismatch, AuthError, Call}
use Rattle.rb_rpc.specs.declared.auth.AuthStat.TheVariants as stats
use Rattle.rb_rpc.specs.Grammar.{BeginsWithOtherVersion, BeginsWithWords, BeginsOverLong, HasLongCredential, HasLongVerifier, HasAuths, HasOtherFlavor, HasUnreadableBody, HasBadAuth, IsNoCall, MismatchesAreOfTheGrammar, AuthErrorsAreOfTheGrammar, TheRestIsNoCall}
use Rattle.rb_rpc.proofs.Auths.{sys_there, sys_again, body_of, auth_there, or_parts, or_no}
use Rattle.rb_rpc.proofs.Calls.{equal, six_words, length-call_words, from_flavor, from_verifier, at_credential, at_verifier, at_flavor, credential_again, behind_credential, verdict_agrees}

-- ---- from the verdict to the grammar

-- what a refusal says of the bytes
abbrev Says : List ℕ → Verdict → Type 0
Says bytes NoCall = Unit {0}
Says bytes (RpcMismatch xid) = BeginsWithOtherVersion xid bytes
Says bytes (AuthError xid stat) = HasBadAuth xid stat bytes
Says bytes (Call head place) = Unit {0}

by_line : (bytes : List ℕ) (b : Bool) (v w : Verdict) → (b ≡ true → Says bytes v) → (b ≡ false → Says bytes w) → Says bytes (cond b v w)
by_line bytes true v w there more = there refl
by_line bytes false v w there more = more refl

both : (a b : Bool) → (a && b) ≡ true → (a ≡ true) × (b ≡ true)
both true true e = (refl, refl)
both true false e = absurd cc
both false b e = absurd cc

-- xid, CALL and a version
record HasVersion (bytes : List ℕ) : Type 0 where
  long : 12 ≤ length bytes
  is_call : word 1 bytes ≡ 0

version_there : (bytes : List ℕ) → (ltb (length bytes) 12 || not (eqb (word 1 bytes) 0)) ≡ false → HasVersion bytes
version_there bytes e = let parts = or_parts _ _ e in record { long = ltb-false _ _ parts.0; is_call = equal _ _ parts.1 }

other_version : (bytes : List ℕ) → AreBytes bytes → HasVersion bytes → not (eqb (word 2 bytes) 2) ≡ true → BeginsWithOtherVersion (word 0 bytes) bytes
other_version bytes are h e = record {
  version = word 2 bytes;
  rest = drop 12 bytes;
  xid_fits = number_at_small 0 bytes are;
  version_fits = number_at_small 8 bytes are;
  other = λ two. absurd (no_test (eqb (word 2 bytes) 2) e (eq-eqb (word 2 bytes) 2 two));
  whole =
      s0 ∙ ap (λ (xs : List ℕ). number (word 0 bytes) ++ xs) (s1 ∙ ap (λ (k : ℕ). number k ++ drop 8 bytes) h.is_call ∙ ap (λ (xs : List ℕ). number 0 ++ xs) s2)
      ∙ simp append_assoc refl;
}
  where
    no_test : (b : Bool) → not b ≡ true → b ≡ true → ⊥
    no_test true e f = cc
    no_test false e f = cc

    s0 : bytes ≡ number (word 0 bytes) ++ drop 4 bytes
    s0 = split_number 0 bytes are (omega (arith, h.long))

    s1 : drop 4 bytes ≡ number (word 1 bytes) ++ drop 8 bytes
    s1 = split_number 4 bytes are (omega (arith, h.long))

    s2 : drop 8 bytes ≡ number (word 2 bytes) ++ drop 12 bytes
    s2 = split_number 8 bytes are (omega (arith, h.long))

words_there : (bytes : List ℕ) → AreBytes bytes → word 1 bytes ≡ 0 → word 2 bytes ≡ 2 → 24 ≤ length bytes → BeginsWithWords (word 0 bytes) (drop 24 bytes) bytes
words_there bytes are call version long = record {
  head = head_of bytes;
  head_fits = record { xid = number_at_small 0 bytes are; prog = number_at_small 12 bytes are; vers = number_at_small 16 bytes are; proc = number_at_small 20 bytes are };
  xid_is = refl;
  whole = six_words bytes are long ∙ rw (call, version) (simp append_assoc refl);
}

over_long_there : (place : ℕ) (bytes : List ℕ) → AreBytes bytes → is_over_long place bytes ≡ true → BeginsOverLong (drop place bytes)
unfolding is_over_long body_length
over_long_there place bytes are e =
    let parts = both _ _ e in
    let long : place + 8 ≤ length bytes = ltb-false _ _ (not_true (ltb (length bytes) (place + 8)) parts.0) in
    let s0 : drop place bytes ≡ number (number_at place bytes) ++ drop (place + 4) bytes = split_number place bytes are (omega (arith, long)) in
    let s1 : drop (place + 4) bytes ≡ number (number_at (place + 4) bytes) ++ drop (place + 8) bytes = split_number (place + 4) bytes are (omega (arith, long)) ∙ ap (λ (k : ℕ). number (number_at (place + 4) bytes) ++ drop k bytes) (omega arith) in
    record {
      flavor = number_at place bytes;
      len = number_at (place + 4) bytes;
      rest = drop (place + 8) bytes;
      flavor_fits = number_at_small place bytes are;
      len_fits = number_at_small (place + 4) bytes are;
      over = ltb-true _ _ parts.1;
      whole = s0 ∙ ap (λ (xs : List ℕ). number (number_at place bytes) ++ xs) s1 ∙ sym (append_assoc (number (number_at place bytes)) (number (number_at (place + 4) bytes)) (drop (place + 8) bytes));
    }
  where
    not_true : (b : Bool) → not b ≡ true → b ≡ false
    not_true true e = absurd cc
    not_true false e = refl

no_uid : (body : List ℕ) → uid_of (body_of_sys body) ≡ None → (uid : ℕ) → (uid_of (body_of_sys body) ≡ Some uid) → ⊥
no_uid body e uid f = none_some uid (sym e ∙ f)
  where
    none_some : (uid : ℕ) → None ≡ Some uid → ⊥
    none_some uid e = cc

bad_flavor : (bytes : List ℕ) → HasAuths (word 0 bytes) (word 6 bytes) (body_of 24 bytes) bytes → Says bytes (from_flavor (word 0 bytes) bytes)
unfolding sys_uid
bad_flavor bytes auths =
    by_line bytes (ltb 1 (word 6 bytes)) (AuthError (word 0 bytes) stats.RejectedCredential) _
    (λ e. record { flavor = word 6 bytes; body = body_of 24 bytes; auths = auths; other = ltb-true _ _ e })
    (λ known. by_line bytes (eqb (word 6 bytes) 1 && not (is_some (uid_of (body_of_sys (body_of 24 bytes))))) (AuthError (word 0 bytes) stats.BadCredential) _
    (λ e.
    let parts = both _ _ e in
    inr (record {
      body = body_of 24 bytes;
      auths = subst (λ (flavor : ℕ). HasAuths (word 0 bytes) flavor (body_of 24 bytes) bytes) (eqb-true _ _ parts.0) auths;
      unreadable = λ uid says. no_uid (body_of 24 bytes) (none_there (uid_of (body_of_sys (body_of 24 bytes))) parts.1) uid (sys_again (body_of 24 bytes) uid says);
    }))
    (λ e. tt))
  where
    none_there : (said : Option ℕ) → not (is_some said) ≡ true → said ≡ None
    none_there None e = refl
    none_there (Some uid) e = absurd cc

bad_verifier : (bytes : List ℕ) → AreBytes bytes → BeginsWithWords (word 0 bytes) (drop 24 bytes) bytes → is_over_long 24 bytes ≡ false → is_broken 24 bytes ≡ false
    → Says bytes (from_verifier (word 0 bytes) bytes)
unfolding credential_end
bad_verifier bytes are words few sound =
    let a = auth_there 24 bytes are few sound in
    let credential : List ℕ = auth (word 6 bytes) (body_of 24 bytes) in
    let ce : ℕ = auth_end 24 bytes in
    by_line bytes (is_over_long ce bytes) (AuthError (word 0 bytes) stats.BadVerifier) _
    (λ e. record {
      flavor = word 6 bytes;
      body = body_of 24 bytes;
      rest = drop ce bytes;
      credential_fits = a.fits;
      words = subst (λ (xs : List ℕ). BeginsWithWords (word 0 bytes) xs bytes) a.text words;
      verifier = over_long_there ce bytes are e;
    })
    (λ few_too. by_line bytes (is_broken ce bytes) NoCall _ (λ e. tt) (λ sound_too.
    let v = auth_there ce bytes are few_too sound_too in
    bad_flavor bytes (record {
      verifier_flavor = number_at ce bytes;
      verifier_body = body_of ce bytes;
      rest = drop (auth_end ce bytes) bytes;
      credential_fits = a.fits;
      verifier_fits = v.fits;
      words = subst (λ (xs : List ℕ). BeginsWithWords (word 0 bytes) xs bytes) (a.text ∙ ap (λ (xs : List ℕ). credential ++ xs) v.text) words;
    })))

sound : (bytes : List ℕ) → AreBytes bytes → Says bytes (verdict bytes)
unfolding verdict
sound bytes are =
    by_line bytes _ NoCall _ (λ e. tt) (λ e0.
    let h = version_there bytes e0 in
    by_line bytes _ (RpcMismatch (word 0 bytes)) _ (λ e. other_version bytes are h e) (λ e1.
    by_line bytes _ NoCall _ (λ e. tt) (λ e2.
    let words = words_there bytes are h.is_call (equal _ _ e1) (ltb-false _ _ e2) in
    by_line bytes _ (AuthError (word 0 bytes) stats.BadCredential) _ (λ e. inl (record { rest = drop 24 bytes; words = words; credential = over_long_there 24 bytes are e })) (λ few.
    by_line bytes _ NoCall _ (λ e. tt) (λ whole. bad_verifier bytes are words few whole)))))

-- ---- from the grammar to the verdict

record VersionAgain (xid version : ℕ) (bytes : List ℕ) : Type 0 where
  w0 : word 0 bytes ≡ xid
  w1 : word 1 bytes ≡ 0
  w2 : word 2 bytes ≡ version
  long : 12 ≤ length bytes

version_again : (xid version : ℕ) (rest : List ℕ) → xid < 2 ^ 32 → version < 2 ^ 32 → VersionAgain xid version ((number xid ++ number 0 ++ number version) ++ rest)
unfolding number number_at
version_again xid version rest xid_fits version_fits = record {
  w0 = from_be_bytes-to_be_bytes_4 xid xid_fits;
  w1 = refl;
  w2 = from_be_bytes-to_be_bytes_4 version version_fits;
  long = omega arith;
}

mismatch_again : (xid : ℕ) (bytes : List ℕ) → BeginsWithOtherVersion xid bytes → verdict bytes ≡ RpcMismatch xid
unfolding verdict
mismatch_again xid bytes b =
    let a : VersionAgain xid b.version bytes = subst (λ (xs : List ℕ). VersionAgain xid b.version xs) (sym b.whole) (version_again xid b.version b.rest b.xid_fits b.version_fits) in
    cond-false _ _ _ (or_no _ _ (le-ltb (length bytes) 12 a.long) (ap (λ (k : ℕ). not (eqb k 0)) a.w1))
    ∙ cond-true _ _ _ (differs (word 2 bytes) (λ e. b.other (sym a.w2 ∙ e)))
    ∙ ap (λ (k : ℕ). RpcMismatch k) a.w0
  where
    differs : (n : ℕ) → (n ≡ 2 → ⊥) → not (eqb n 2) ≡ true
    differs n other = by_test (eqb n 2) refl
      where
        by_test : (t : Bool) → eqb n 2 ≡ t → not t ≡ true
        by_test true e = absurd (other (eqb-true n 2 e))
        by_test false e = refl

over_long_again : (front rest bytes : List ℕ) (place : ℕ) → bytes ≡ front ++ rest → length front ≡ place → BeginsOverLong rest → is_over_long place bytes ≡ true
unfolding is_over_long body_length
over_long_again front rest bytes place whole len b =
    let count_is : number_at (place + 4) bytes ≡ b.len =
    ap (number_at (place + 4)) whole ∙ number_at-append front rest place 4 len ∙ ap (number_at 4) (b.whole ∙ append_assoc (number b.flavor) (number b.len) b.rest)
    ∙ number_at-append (number b.flavor) (number b.len ++ b.rest) 4 0 (length-number b.flavor) ∙ number_at-number b.len b.rest b.len_fits in
    let long : place + 8 ≤ length bytes = omega (arith, ap length whole, len, ap length b.whole, length-append front rest, length-append (number b.flavor ++ number b.len) b.rest, length-append (number b.flavor) (number b.len), length-number b.flavor, length-number b.len) in
    both_again _ _ (ap not (le-ltb (length bytes) (place + 8) long)) (lt-ltb max_auth_body (number_at (place + 4) bytes) (omega (arith, count_is, b.over)))
  where
    both_again : (a b : Bool) → a ≡ true → b ≡ true → (a && b) ≡ true
    both_again a b e f = rw (e, f) refl

long_credential_again : (xid : ℕ) (bytes : List ℕ) → HasLongCredential xid bytes → verdict bytes ≡ AuthError xid stats.BadCredential
long_credential_again xid bytes h =
    at_credential xid h.rest bytes h.words
    ∙ cond-true _ _ _ (over_long_again (call_words h.words.head) h.rest bytes 24 h.words.whole (length-call_words h.words.head) h.credential)

long_verifier_again : (xid : ℕ) (bytes : List ℕ) → HasLongVerifier xid bytes → verdict bytes ≡ AuthError xid stats.BadVerifier
unfolding credential_end
long_verifier_again xid bytes h =
    let a : List ℕ = auth h.flavor h.body in
    let cred = credential_again xid h.flavor h.body h.rest bytes h.credential_fits h.words in
    let front = behind_credential xid h.flavor h.body h.rest bytes h.words in
    at_verifier xid h.flavor h.body h.rest bytes h.credential_fits h.words
    ∙ cond-true _ _ _ (ap (λ (k : ℕ). is_over_long k bytes) cred.end_is ∙ over_long_again (call_words h.words.head ++ a) h.rest bytes (24 + length a) front.0 front.1 h.verifier)

other_flavor_again : (xid : ℕ) (bytes : List ℕ) → HasOtherFlavor xid bytes → verdict bytes ≡ AuthError xid stats.RejectedCredential
other_flavor_again xid bytes h =
    let cred = credential_again xid h.flavor h.body _ bytes h.auths.credential_fits h.auths.words in
    at_flavor xid h.flavor h.body bytes h.auths ∙ cond-true _ _ _ (lt-ltb 1 (word 6 bytes) (omega (arith, cred.flavor_is, h.other)))

unreadable_again : (xid : ℕ) (bytes : List ℕ) → HasUnreadableBody xid bytes → verdict bytes ≡ AuthError xid stats.BadCredential
unfolding sys_uid
unreadable_again xid bytes h =
    let cred = credential_again xid 1 h.body _ bytes h.auths.credential_fits h.auths.words in
    let one : word 6 bytes ≡ 1 = cred.flavor_is in
    let none : uid_of (body_of_sys (body_of 24 bytes)) ≡ None = ap (λ (xs : List ℕ). uid_of (body_of_sys xs)) cred.body_is ∙ by_value (uid_of (body_of_sys h.body)) refl in
    at_flavor xid 1 h.body bytes h.auths
    ∙ cond-false _ _ _ (le-ltb 1 (word 6 bytes) (omega (arith, one)))
    ∙ cond-true _ _ _ (ap (λ (k : ℕ). eqb k 1 && not (is_some (uid_of (body_of_sys (body_of 24 bytes))))) one ∙ ap (λ (o : Option ℕ). not (is_some o)) none)
  where
    by_value : (said : Option ℕ) → uid_of (body_of_sys h.body) ≡ said → uid_of (body_of_sys h.body) ≡ None
    by_value None e = e
    by_value (Some uid) e = absurd (h.unreadable uid (sys_there h.body uid h.auths.credential_fits.body_fits.2 e))

auth_error_again : (xid : ℕ) (stat : AuthStat) (bytes : List ℕ) → HasBadAuth xid stat bytes → verdict bytes ≡ AuthError xid stat
auth_error_again xid stats.BadCredential bytes (inl h) = long_credential_again xid bytes h
auth_error_again xid stats.BadCredential bytes (inr h) = unreadable_again xid bytes h
auth_error_again xid stats.BadVerifier bytes h = long_verifier_again xid bytes h
auth_error_again xid stats.RejectedCredential bytes h = other_flavor_again xid bytes h
auth_error_again xid stat bytes h = absurd h

-- ---- the laws

pub mismatches_agree : MismatchesAreOfTheGrammar
mismatches_agree bytes are xid = (λ e. subst (λ (v : Verdict). Says bytes v) e (sound bytes are), λ h. mismatch_again xid bytes h)

pub auth_errors_agree : AuthErrorsAreOfTheGrammar
auth_errors_agree bytes are xid stat = (λ e. subst (λ (v : Verdict). Says bytes v) e (sound bytes are), λ h. auth_error_again xid stat bytes h)

pub the_rest : TheRestIsNoCall
the_rest bytes are = (
  λ e. record {
    no_mismatch = λ xid h. let other : NoCall ≡ RpcMismatch xid = sym e ∙ mismatch_again xid bytes h in cc;
    no_bad_auth = λ xid stat h. let other : NoCall ≡ AuthError xid stat = sym e ∙ auth_error_again xid stat bytes h in cc;
    no_call = λ head place h. let other : NoCall ≡ Call head place = sym e ∙ (verdict_agrees bytes are head place).1 h in cc;
  },
  λ n. by_value n (verdict bytes) refl,
)
  where
    by_value : IsNoCall bytes → (v : Verdict) → verdict bytes ≡ v → verdict bytes ≡ NoCall
    by_value n NoCall e = e
    by_value n (RpcMismatch xid) e = absurd (n.no_mismatch xid ((mismatches_agree bytes are xid).0 e))
    by_value n (AuthError xid stat) e = absurd (n.no_bad_auth xid stat ((auth_errors_agree bytes are xid stat).0 e))
    by_value n (Call head place) e = absurd (n.no_call head place ((verdict_agrees bytes are head place).0 e))
