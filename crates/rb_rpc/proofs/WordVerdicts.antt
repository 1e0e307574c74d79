-- What the stages make of whole words and a part of one.
use Rattle.std.proofs.Common.{◌≡◌, ◌<◌, ◌≤◌, ◌+◌, ◌*◌, ◌^◌, ℕ, Bool, true, false, not, cond, eqb, ltb, ◌&&◌, ◌||◌, List, [], ◌∷◌, ◌++◌, length, take, drop, refl, sym, ap, subst, ◌∙◌, arith, inl, inr, ◌⊎◌, length-append}
use Rattle.std.specs.Prelude.{fold}
use Rattle.std.specs.Option.{is_some}
use Rattle.std.proofs.lemmas.Bool.{ltb-false, lt-ltb, le-ltb, eqb-true, eqb-false, eq-eqb, cond-true, cond-false}
use Rattle.rb_xdr.specs.Xdr.{AreNumbers, number, number_at, word, words}
use Rattle.rb_xdr.proofs.Words.{length-number, number_at-number, number_at-append}
use Rattle.rb_rpc.specs.Messages.{body_of_sys, uid_of}
use Rattle.rb_rpc.specs.Verdict.{verdict, sys_uid, head_of, body_length, credential_end, verifier_end, auth_end, is_over_long, is_broken, caller_of}
use Rattle.rb_rpc.specs.declared.call.Verdict.{Verdict}
use Rattle.rb_rpc.specs.declared.call.Verdict.TheVariants.{NoCall, RpcMismatch, AuthError, Call}
use Rattle.rb_rpc.specs.declared.call.Credential.TheVariants as credentials
use Rattle.rb_rpc.specs.declared.auth.AuthStat.TheVariants as stats
use Rattle.rb_rpc.proofs.Numbers.{length-words}
use Rattle.rb_rpc.specs.declared.sys_fields.SysField.TheVariants as fields
use Rattle.rb_rpc.specs.declared.stage.Claim.TheVariants as claims
use Rattle.rb_rpc.specs.declared.stage.Stage.TheVariants as stages
use Rattle.rb_rpc.specs.SysFields.{SysField, field_after}
use Rattle.rb_rpc.specs.Stages.{CallWords, Claim, Stage, claim_of, sys_claim, credential_before, credential_after, stage_behind, arguments_at, verifier_before, verifier_after, stage_after, verdict_at}
use Rattle.rb_rpc.proofs.ContentWalks.{one_in_front, drop_word, stays_bad}
use Rattle.rb_rpc.proofs.SysWalks.{uid_there, sys_read}
use Rattle.rb_rpc.proofs.AuthWalks.{WalksAuth, OverLong, Broken, Sound, auth_walked}

-- ---- the credential and the verifier

abbrev pub body_of : CallWords → ℕ → ℕ → ℕ → SysField → Stage
body_of call f l left s = stages.CredentialBody call f l left s

abbrev pub behind_body : CallWords → ℕ → ℕ → SysField → Stage
behind_body call f l s = stages.VerifierFlavor call (claim_of f s) l

credential_walks : (call : CallWords) → WalksAuth stage_after verdict_at (stages.CredentialFlavor call) (λ f. stages.CredentialLength call f) (stages.BadCredential call.xid) (body_of call) field_after fields.Stamp (behind_body call) stages.NoCall
unfolding stage_after credential_before credential_after verdict_at
credential_walks call = record {
  takes_flavor = λ w. refl;
  takes_length = λ f w. refl;
  walks = λ f l. record { goes = λ left s w. refl; stays = λ w. refl };
  over_stays = λ w. refl;
  ends_flavor = refl;
  ends_length = λ f. refl;
  ends_at = λ f l left s. refl;
  ends_bad = refl;
}

abbrev pub verifier_of : CallWords → Claim → ℕ → ℕ → ℕ → ℕ → ℕ → Stage
verifier_of call claim len f l left s = stages.VerifierBody call claim (arguments_at len l) left

abbrev pub behind_verifier : CallWords → Claim → ℕ → ℕ → ℕ → ℕ → Stage
behind_verifier call claim len f l s = stage_behind call claim (arguments_at len l)

abbrev pub unmoved : ℕ → ℕ → ℕ
unmoved s w = s

verifier_walks : (call : CallWords) (claim : Claim) (len : ℕ)
    → WalksAuth stage_after verdict_at (stages.VerifierFlavor call claim len) (λ f. stages.VerifierLength call claim len) (stages.BadVerifier call.xid) (verifier_of call claim len) unmoved 0 (behind_verifier call claim len) stages.NoCall
unfolding stage_after verifier_before verifier_after verdict_at
verifier_walks call claim len = record {
  takes_flavor = λ w. refl;
  takes_length = λ f w. refl;
  walks = λ f l. record { goes = λ left s w. refl; stays = λ w. refl };
  over_stays = λ w. refl;
  ends_flavor = refl;
  ends_length = λ f. refl;
  ends_at = λ f l left s. refl;
  ends_bad = refl;
}

-- ---- the verdict on whole words and a part of one

short_of_words : (bytes : List ℕ) → length bytes < 12 → verdict bytes ≡ NoCall
unfolding verdict
short_of_words bytes short = cond-true _ _ _ (ap (λ (t : Bool). t || not (eqb (word 1 bytes) 0)) (lt-ltb (length bytes) 12 short))

no_call : (bytes : List ℕ) → 12 ≤ length bytes → eqb (word 1 bytes) 0 ≡ false → verdict bytes ≡ NoCall
unfolding verdict
no_call bytes long e =
    let test : (ltb (length bytes) 12 || not (eqb (word 1 bytes) 0)) ≡ true = rw (le-ltb (length bytes) 12 long, e) refl in
    cond-true _ _ _ test

pub record IsCall (bytes : List ℕ) (x : ℕ) : Type 0 where
  pub long : 12 ≤ length bytes
  pub xid : word 0 bytes ≡ x
  pub call : eqb (word 1 bytes) 0 ≡ true

neither : (bytes : List ℕ) (x : ℕ) → IsCall bytes x → (ltb (length bytes) 12 || not (eqb (word 1 bytes) 0)) ≡ false
neither bytes x is = rw (le-ltb (length bytes) 12 is.long, is.call) refl

mismatch : (bytes : List ℕ) (x : ℕ) → IsCall bytes x → eqb (word 2 bytes) 2 ≡ false → verdict bytes ≡ RpcMismatch x
unfolding verdict
mismatch bytes x is e = cond-false _ _ _ (neither bytes x is) ∙ cond-true _ _ _ (ap not e) ∙ ap (λ (n : ℕ). RpcMismatch n) is.xid

short_of_head : (bytes : List ℕ) (x : ℕ) → IsCall bytes x → eqb (word 2 bytes) 2 ≡ true → length bytes < 24 → verdict bytes ≡ NoCall
unfolding verdict
short_of_head bytes x is e short = cond-false _ _ _ (neither bytes x is) ∙ cond-false _ _ _ (ap not e) ∙ cond-true _ _ _ (lt-ltb (length bytes) 24 short)

-- from the credential on
abbrev pub verdict_from_credential : List ℕ → Verdict
verdict_from_credential bytes =
    cond (is_over_long 24 bytes) (AuthError (word 0 bytes) stats.BadCredential)
    (cond (is_broken 24 bytes) NoCall
    (cond (is_over_long (auth_end 24 bytes) bytes) (AuthError (word 0 bytes) stats.BadVerifier)
    (cond (is_broken (auth_end 24 bytes) bytes) NoCall
    (cond (ltb 1 (word 6 bytes)) (AuthError (word 0 bytes) stats.RejectedCredential)
    (cond (eqb (word 6 bytes) 1 && not (is_some (sys_uid bytes))) (AuthError (word 0 bytes) stats.BadCredential)
    (Call (head_of bytes) (auth_end (auth_end 24 bytes) bytes)))))))

of_head : (bytes : List ℕ) (x : ℕ) → IsCall bytes x → eqb (word 2 bytes) 2 ≡ true → 24 ≤ length bytes → verdict bytes ≡ verdict_from_credential bytes
unfolding verdict credential_end verifier_end
of_head bytes x is e long = cond-false _ _ _ (neither bytes x is) ∙ cond-false _ _ _ (ap not e) ∙ cond-false _ _ _ (le-ltb (length bytes) 24 long)

-- ---- a credential and a verifier that are whole

abbrev Judged : CallWords → SysField → ℕ → ℕ → Type 0
Judged call s place f =
    verdict_at (stage_behind call (claim_of f s) place)
    ≡ cond (ltb 1 f) (AuthError call.xid stats.RejectedCredential)
    (cond (eqb f 1 && not (is_some (uid_there s))) (AuthError call.xid stats.BadCredential)
    (Call (record { xid = call.xid; prog = call.prog; vers = call.vers; proc = call.proc; cred = cond (eqb f 0) credentials.None (caller_of (uid_there s)) }) place))

judge : (call : CallWords) (f : ℕ) (s : SysField) (place : ℕ) → Judged call s place f
unfolding claim_of stage_behind verdict_at
judge call f s place = by_zero (eqb f 0) refl
  where
    by_sys : (s : SysField) → verdict_at (stage_behind call (sys_claim s) place)
        ≡ cond (not (is_some (uid_there s))) (AuthError call.xid stats.BadCredential)
        (Call (record { xid = call.xid; prog = call.prog; vers = call.vers; proc = call.proc; cred = caller_of (uid_there s) }) place)
    by_sys fields.Stamp = refl
    by_sys fields.NameLength = refl
    by_sys (fields.Name left) = refl
    by_sys fields.Uid = refl
    by_sys (fields.Gid uid) = refl
    by_sys (fields.GidCount uid) = refl
    by_sys (fields.Gids uid left) = refl
    by_sys (fields.Whole uid) = refl
    by_sys fields.Unreadable = refl

    one : (b : ℕ) → (b ≡ 0 → ⊥) → b ≤ 1 → 1 ≡ b
    one b differs few = omega (arith, differs, few)

    by_high : (t : Bool) → eqb f 0 ≡ false → ltb 1 f ≡ t → Judged call s place f
    by_high true e h = rw (e, h) refl
    by_high false e h = subst (Judged call s place) (one f (eqb-false _ _ e) (ltb-false _ _ h)) (by_sys s)

    by_zero : (t : Bool) → eqb f 0 ≡ t → Judged call s place f
    by_zero true e = subst (Judged call s place) (sym (eqb-true f 0 e)) refl
    by_zero false e = by_high (ltb 1 f) e refl

pub record Says (call : CallWords) (bytes : List ℕ) : Type 0 where
  pub xid : word 0 bytes ≡ call.xid
  pub prog : word 3 bytes ≡ call.prog
  pub vers : word 4 bytes ≡ call.vers
  pub proc : word 5 bytes ≡ call.proc

judged : (call : CallWords) (bytes : List ℕ) (f : ℕ) (s : SysField) (place : ℕ) → Says call bytes → word 6 bytes ≡ f → sys_uid bytes ≡ uid_there s → auth_end (auth_end 24 bytes) bytes ≡ place
    → verdict_at (stage_behind call (claim_of f s) place)
    ≡ cond (ltb 1 (word 6 bytes)) (AuthError (word 0 bytes) stats.RejectedCredential)
    (cond (eqb (word 6 bytes) 1 && not (is_some (sys_uid bytes))) (AuthError (word 0 bytes) stats.BadCredential)
    (Call (head_of bytes) (auth_end (auth_end 24 bytes) bytes)))
judged call bytes f s place says flavor uid end = rw (flavor, uid, end, says.xid, says.prog, says.vers, says.proc) (judge call f s place)

sys_uid_is : (bytes body : List ℕ) (len : ℕ) (s : SysField) → body_length 24 bytes ≡ len → take len (drop 32 bytes) ≡ body → uid_of (body_of_sys body) ≡ uid_there s → sys_uid bytes ≡ uid_there s
unfolding sys_uid
sys_uid_is bytes body len s length_is body_is uid =
    ap (λ (n : ℕ). uid_of (body_of_sys (take n (drop 32 bytes)))) length_is ∙ ap (λ (xs : List ℕ). uid_of (body_of_sys xs)) body_is ∙ uid

-- nothing changes after the verifier
ended : (call : CallWords) (claim : Claim) (place : ℕ) (ws : List ℕ) → verdict_at (fold stage_after (stage_behind call claim place) ws) ≡ verdict_at (stage_behind call claim place)
unfolding stage_after stage_behind
ended call (claims.Taken cred) place ws = ap verdict_at (stays_bad stage_after (stage_behind call (claims.Taken cred) place) (λ w. refl) ws)
ended call claims.Unreadable place ws = ap verdict_at (stays_bad stage_after (stage_behind call claims.Unreadable place) (λ w. refl) ws)
ended call claims.Rejected place ws = ap verdict_at (stays_bad stage_after (stage_behind call claims.Rejected place) (λ w. refl) ws)

ends_over : (xid : ℕ) → (verdict_at (stages.BadCredential xid) ≡ AuthError xid stats.BadCredential) × (verdict_at (stages.BadVerifier xid) ≡ AuthError xid stats.BadVerifier)
unfolding verdict_at
ends_over xid = (refl, refl)

from_credential : (call : CallWords) (bytes ws p : List ℕ) → Says call bytes → 24 ≤ length bytes → drop 24 bytes ≡ words ws ++ p → length p < 4 → AreNumbers ws
    → verdict_at (fold stage_after (stages.CredentialFlavor call) ws) ≡ verdict_from_credential bytes
from_credential call bytes ws p says long behind few fit =
    by_credential (auth_walked stage_after verdict_at (stages.CredentialFlavor call) (λ f. stages.CredentialLength call f) (stages.BadCredential call.xid) (body_of call) field_after fields.Stamp (behind_body call) stages.NoCall
    (credential_walks call) 24 bytes ws p long behind few fit)
  where
    by_verifier : (s : Sound stage_after (stages.CredentialFlavor call) field_after fields.Stamp (behind_body call) 24 bytes ws p)
        → (OverLong stage_after (behind_body call s.flavor s.len (fold field_after fields.Stamp s.front)) (stages.BadVerifier call.xid) (auth_end 24 bytes) bytes s.rest
        ⊎ (Broken stage_after verdict_at (behind_body call s.flavor s.len (fold field_after fields.Stamp s.front)) (auth_end 24 bytes) bytes s.rest
        ⊎ Sound stage_after (behind_body call s.flavor s.len (fold field_after fields.Stamp s.front)) unmoved 0 (behind_verifier call (claim_of s.flavor (fold field_after fields.Stamp s.front)) s.len) (auth_end 24 bytes) bytes s.rest p))
        → verdict_at (fold stage_after (stages.CredentialFlavor call) ws) ≡ verdict_from_credential bytes
    by_verifier s (inl over) =
        ap verdict_at (s.runs ∙ over.runs) ∙ (ends_over call.xid).1 ∙ ap (λ (n : ℕ). AuthError n stats.BadVerifier) (sym says.xid)
        ∙ sym (cond-false _ _ _ s.not_over ∙ cond-false _ _ _ s.not_broken ∙ cond-true _ _ _ over.over_long)
    by_verifier s (inr (inl broken)) =
        ap verdict_at s.runs ∙ broken.ends
        ∙ sym (cond-false _ _ _ s.not_over ∙ cond-false _ _ _ s.not_broken ∙ cond-false _ _ _ broken.not_over ∙ cond-true _ _ _ broken.broken)
    by_verifier s (inr (inr v)) =
        let sys_place : SysField = fold field_after fields.Stamp s.front in
        let place : ℕ = arguments_at s.len v.len in
        let uid : sys_uid bytes ≡ uid_there sys_place = sys_uid_is bytes (words s.front ++ s.part) s.len sys_place s.len_is s.content (sys_read s.front s.part s.front_fits s.few) in
        ap verdict_at (s.runs ∙ v.runs) ∙ ended call (claim_of s.flavor sys_place) place v.rest
        ∙ judged call bytes s.flavor sys_place place says s.flavor_is uid (omega (arith, s.end_is, v.end_is))
        ∙ sym (cond-false _ _ _ s.not_over ∙ cond-false _ _ _ s.not_broken ∙ cond-false _ _ _ v.not_over ∙ cond-false _ _ _ v.not_broken)

    by_credential : (OverLong stage_after (stages.CredentialFlavor call) (stages.BadCredential call.xid) 24 bytes ws
        ⊎ (Broken stage_after verdict_at (stages.CredentialFlavor call) 24 bytes ws
        ⊎ Sound stage_after (stages.CredentialFlavor call) field_after fields.Stamp (behind_body call) 24 bytes ws p))
        → verdict_at (fold stage_after (stages.CredentialFlavor call) ws) ≡ verdict_from_credential bytes
    by_credential (inl over) =
        ap verdict_at over.runs ∙ (ends_over call.xid).0 ∙ ap (λ (n : ℕ). AuthError n stats.BadCredential) (sym says.xid) ∙ sym (cond-true _ _ _ over.over_long)
    by_credential (inr (inl broken)) = broken.ends ∙ sym (cond-false _ _ _ broken.not_over ∙ cond-true _ _ _ broken.broken)
    by_credential (inr (inr s)) =
        let claim : Claim = claim_of s.flavor (fold field_after fields.Stamp s.front) in
        by_verifier s (auth_walked stage_after verdict_at (stages.VerifierFlavor call claim s.len) (λ f. stages.VerifierLength call claim s.len) (stages.BadVerifier call.xid) (verifier_of call claim s.len) unmoved 0 (behind_verifier call claim s.len) stages.NoCall
        (verifier_walks call claim s.len) (auth_end 24 bytes) bytes s.rest p s.within s.rest_is few s.rest_fits)

-- ---- all the words

size_is : (ws p : List ℕ) → length (words ws ++ p) ≡ 4 * length ws + length p
size_is ws p = omega (arith, length-append (words ws) p, length-words ws)

-- the first word, and one word further on
first_word : (w : ℕ) (ws p : List ℕ) → w < 2 ^ 32 → number_at 0 (words (w ∷ ws) ++ p) ≡ w
first_word w ws p fits = ap (λ (xs : List ℕ). number_at 0 xs) (one_in_front w ws p) ∙ number_at-number w (words ws ++ p) fits

next_word : (k w : ℕ) (ws p : List ℕ) → number_at (4 + k) (words (w ∷ ws) ++ p) ≡ number_at k (words ws ++ p)
next_word k w ws p = ap (λ (xs : List ℕ). number_at (4 + k) xs) (one_in_front w ws p) ∙ number_at-append (number w) (words ws ++ p) 4 k (length-number w)

next_drop : (k w : ℕ) (ws p : List ℕ) → drop (4 + k) (words (w ∷ ws) ++ p) ≡ drop k (words ws ++ p)
next_drop k w ws p = ap (λ (xs : List ℕ). drop (4 + k) xs) (one_in_front w ws p) ∙ drop_word k w (words ws ++ p)

from_prog : (x m v : ℕ) (ws p : List ℕ) → AreNumbers (x ∷ m ∷ v ∷ ws) → length p < 4 → m ≡ 0 → v ≡ 2 → verdict_at (fold stage_after (stages.Prog x) ws) ≡ verdict (words (x ∷ m ∷ v ∷ ws) ++ p)
unfolding stage_after verdict_at
from_prog x m v ws p fit few is_call is_version = by_words ws fit
  where
    is : (ws : List ℕ) → AreNumbers (x ∷ m ∷ v ∷ ws) → IsCall (words (x ∷ m ∷ v ∷ ws) ++ p) x
    is ws fit = record {
      long = omega (arith, size_is (x ∷ m ∷ v ∷ ws) p);
      xid = first_word x (m ∷ v ∷ ws) p fit.0;
      call = eq-eqb _ _ (next_word 0 x (m ∷ v ∷ ws) p ∙ first_word m (v ∷ ws) p fit.1.0 ∙ is_call);
    }

    version : (ws : List ℕ) → AreNumbers (x ∷ m ∷ v ∷ ws) → eqb (number_at 8 (words (x ∷ m ∷ v ∷ ws) ++ p)) 2 ≡ true
    version ws fit = eq-eqb _ _ (next_word 4 x (m ∷ v ∷ ws) p ∙ next_word 0 m (v ∷ ws) p ∙ first_word v ws p fit.1.1.0 ∙ is_version)

    by_words : (ws : List ℕ) → AreNumbers (x ∷ m ∷ v ∷ ws) → verdict_at (fold stage_after (stages.Prog x) ws) ≡ verdict (words (x ∷ m ∷ v ∷ ws) ++ p)
    by_words [] fit = sym (short_of_head _ x (is [] fit) (version [] fit) (omega (arith, few, size_is (x ∷ m ∷ v ∷ []) p)))
    by_words (a ∷ []) fit = sym (short_of_head _ x (is (a ∷ []) fit) (version (a ∷ []) fit) (omega (arith, few, size_is (x ∷ m ∷ v ∷ a ∷ []) p)))
    by_words (a ∷ b ∷ []) fit = sym (short_of_head _ x (is (a ∷ b ∷ []) fit) (version (a ∷ b ∷ []) fit) (omega (arith, few, size_is (x ∷ m ∷ v ∷ a ∷ b ∷ []) p)))
    by_words (a ∷ b ∷ c ∷ ws) fit =
        let call : CallWords = record { xid = x; prog = a; vers = b; proc = c } in
        let all : List ℕ = a ∷ b ∷ c ∷ ws in
        let long : 24 ≤ length (words (x ∷ m ∷ v ∷ all) ++ p) = omega (arith, size_is (x ∷ m ∷ v ∷ all) p) in
        let says : Says call (words (x ∷ m ∷ v ∷ all) ++ p) = record {
          xid = first_word x (m ∷ v ∷ all) p fit.0;
          prog = next_word 8 x (m ∷ v ∷ all) p ∙ next_word 4 m (v ∷ all) p ∙ next_word 0 v all p ∙ first_word a (b ∷ c ∷ ws) p fit.1.1.1.0;
          vers = next_word 12 x (m ∷ v ∷ all) p ∙ next_word 8 m (v ∷ all) p ∙ next_word 4 v all p ∙ next_word 0 a (b ∷ c ∷ ws) p ∙ first_word b (c ∷ ws) p fit.1.1.1.1.0;
          proc = next_word 16 x (m ∷ v ∷ all) p ∙ next_word 12 m (v ∷ all) p ∙ next_word 8 v all p ∙ next_word 4 a (b ∷ c ∷ ws) p ∙ next_word 0 b (c ∷ ws) p ∙ first_word c ws p fit.1.1.1.1.1.0;
        } in
        let behind : drop 24 (words (x ∷ m ∷ v ∷ all) ++ p) ≡ words ws ++ p =
        next_drop 20 x (m ∷ v ∷ all) p ∙ next_drop 16 m (v ∷ all) p ∙ next_drop 12 v all p ∙ next_drop 8 a (b ∷ c ∷ ws) p ∙ next_drop 4 b (c ∷ ws) p ∙ next_drop 0 c ws p in
        from_credential call (words (x ∷ m ∷ v ∷ all) ++ p) ws p says long behind few fit.1.1.1.1.1.1
        ∙ sym (of_head _ x (is all fit) (version all fit) long)

-- What the stages come to is the verdict, whatever the part of a word is.
pub whole : (ws p : List ℕ) → AreNumbers ws → length p < 4 → verdict_at (fold stage_after stages.Xid ws) ≡ verdict (words ws ++ p)
unfolding stage_after verdict_at
whole [] p fit few = sym (short_of_words p (omega (arith, few)))
whole (x ∷ []) p fit few = sym (short_of_words _ (omega (arith, few, size_is (x ∷ []) p)))
whole (x ∷ m ∷ []) p fit few = by_type (eqb m 0)
  where
    by_type : (t : Bool) → verdict_at (cond t (stages.RpcVersion x) stages.NoCall) ≡ verdict (words (x ∷ m ∷ []) ++ p)
    by_type true = sym (short_of_words _ (omega (arith, few, size_is (x ∷ m ∷ []) p)))
    by_type false = sym (short_of_words _ (omega (arith, few, size_is (x ∷ m ∷ []) p)))
whole (x ∷ m ∷ v ∷ ws) p fit few = by_type (eqb m 0) refl
  where
    type_is : number_at 4 (words (x ∷ m ∷ v ∷ ws) ++ p) ≡ m
    type_is = next_word 0 x (m ∷ v ∷ ws) p ∙ first_word m (v ∷ ws) p fit.1.0

    version_is : number_at 8 (words (x ∷ m ∷ v ∷ ws) ++ p) ≡ v
    version_is = next_word 4 x (m ∷ v ∷ ws) p ∙ next_word 0 m (v ∷ ws) p ∙ first_word v ws p fit.1.1.0

    long : 12 ≤ length (words (x ∷ m ∷ v ∷ ws) ++ p)
    long = omega (arith, size_is (x ∷ m ∷ v ∷ ws) p)

    by_version : (t : Bool) → eqb m 0 ≡ true → eqb v 2 ≡ t → verdict_at (fold stage_after (cond t (stages.Prog x) (stages.RpcMismatch x)) ws) ≡ verdict (words (x ∷ m ∷ v ∷ ws) ++ p)
    by_version true e f = from_prog x m v ws p fit few (eqb-true _ _ e) (eqb-true _ _ f)
    by_version false e f =
        ap verdict_at (stays_bad stage_after (stages.RpcMismatch x) (λ w. refl) ws)
        ∙ sym (mismatch _ x (record { long = long; xid = first_word x (m ∷ v ∷ ws) p fit.0; call = ap (λ (n : ℕ). eqb n 0) type_is ∙ e }) (ap (λ (n : ℕ). eqb n 2) version_is ∙ f))

    by_type : (t : Bool) → eqb m 0 ≡ t → verdict_at (fold stage_after (stage_after (cond t (stages.RpcVersion x) stages.NoCall) v) ws) ≡ verdict (words (x ∷ m ∷ v ∷ ws) ++ p)
    by_type true e = by_version (eqb v 2) e refl
    by_type false e = ap verdict_at (stays_bad stage_after stages.NoCall (λ w. refl) ws) ∙ sym (no_call _ long (ap (λ (n : ℕ). eqb n 0) type_is ∙ e))
