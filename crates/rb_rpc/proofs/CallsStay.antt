-- A call stays the same call, and its head ends at the place.
use Rattle.std.proofs.Common.{◌≡◌, ◌<◌, ◌≤◌, ◌+◌, ◌-◌, ℕ, zero, suc, Bool, true, false, not, ltb, List, [], ◌∷◌, ◌++◌, length, take, drop, refl, sym, ap, ◌∙◌, append_assoc, arith, length-append}
use Rattle.std.proofs.lemmas.List.{take-append-drop, length-take, take_at, drop_all, drop-append-le}
use Rattle.std.proofs.lemmas.Bool.{ltb-false, ltb-true, not-false}
use Rattle.std.proofs.Math.Seq.{take-add}
use Rattle.rb_xdr.specs.Xdr.{AreBytes}
use Rattle.rb_xdr.proofs.Words.{AreBytes-take}
use Rattle.rb_rpc.specs.Messages.{auth}
use Rattle.rb_rpc.specs.CallBytes.{call_words}
use Rattle.rb_rpc.specs.Verdict.{verdict}
use Rattle.rb_rpc.specs.declared.call.CallHead.{CallHead}
use Rattle.rb_rpc.specs.declared.call.Verdict.{Verdict}
use Rattle.rb_rpc.specs.declared.call.Verdict.TheVariants.{NoCall, RpcMismatch, AuthError, Call}
use Rattle.rb_rpc.specs.Grammar.{BeginsWithCall}
use Rattle.rb_rpc.proofs.Auths.{length-auth}
use Rattle.rb_rpc.proofs.Calls.{verdict_agrees, again, length-call_words, AreBytes-append}
use Rattle.rb_rpc.specs.Stages.{is_call}
use Rattle.rb_rpc.specs.Feeds.{behind_head, arguments_of}
use Rattle.rb_rpc.specs.FeedLaws.{max_head, CallsStay, HeadsEndAtThePlace}

-- what follows the head may change
followed : (head : CallHead) (place : ℕ) (bytes other rest : List ℕ) (b : BeginsWithCall head place bytes) → other ≡ (call_words head ++ auth b.flavor b.body ++ auth b.verifier_flavor b.verifier_body) ++ rest → BeginsWithCall head place other
followed head place bytes other rest b e = record {
  flavor = b.flavor;
  body = b.body;
  verifier_flavor = b.verifier_flavor;
  verifier_body = b.verifier_body;
  rest = rest;
  head_fits = b.head_fits;
  credential_fits = b.credential_fits;
  caller = b.caller;
  verifier_fits = b.verifier_fits;
  whole = e;
  place_is = b.place_is;
}

pub calls_stay : CallsStay
calls_stay bytes more are head place e =
    let b = (verdict_agrees bytes are head place).0 e in
    let text : List ℕ = call_words head ++ auth b.flavor b.body ++ auth b.verifier_flavor b.verifier_body in
    again (bytes ++ more) head place
    (followed head place bytes (bytes ++ more) (b.rest ++ more) b (ap (λ (xs : List ℕ). xs ++ more) b.whole ∙ append_assoc text b.rest more))

-- six words, and two bodies of at most 400 bytes
short_head : (head : CallHead) (place : ℕ) (bytes : List ℕ) → BeginsWithCall head place bytes → place ≤ max_head
short_head head place bytes b =
    let credential : List ℕ = auth b.flavor b.body in
    let verifier : List ℕ = auth b.verifier_flavor b.verifier_body in
    let few : length b.body ≤ 400 = b.credential_fits.body_fits.0 in
    let few_more : length b.verifier_body ≤ 400 = b.verifier_fits.body_fits.0 in
    omega (arith, b.place_is, length-append (call_words head ++ credential) verifier, length-append (call_words head) credential, length-call_words head, length-auth b.flavor b.body, length-auth b.verifier_flavor b.verifier_body)

pub end_at_the_place : HeadsEndAtThePlace
end_at_the_place bytes are head place e =
    let b = (verdict_agrees bytes are head place).0 e in
    let text : List ℕ = call_words head ++ auth b.flavor b.body ++ auth b.verifier_flavor b.verifier_body in
    let within : place ≤ length bytes = omega (arith, b.place_is, ap length b.whole, length-append text b.rest) in
    record { within = within; short = short_head head place bytes b; from_there = λ n le. by_place n le (ltb n place) refl (verdict (take n bytes)) refl b within }
  where
    behind : (n : ℕ) → n ≤ length bytes → place ≤ n → BeginsWithCall head place bytes → verdict (take n bytes) ≡ Call head place
    behind n le after b =
        let text : List ℕ = call_words head ++ auth b.flavor b.body ++ auth b.verifier_flavor b.verifier_body in
        let front : take place bytes ≡ text = ap (λ (xs : List ℕ). take place xs) b.whole ∙ take_at text b.rest place (sym b.place_is) in
        let more : place + (n - place) ≡ n = omega (arith, after) in
        let is : take n bytes ≡ text ++ take (n - place) (drop place bytes) =
        ap (λ (k : ℕ). take k bytes) (sym more) ∙ take-add place (n - place) bytes ∙ ap (λ (xs : List ℕ). xs ++ take (n - place) (drop place bytes)) front in
        (verdict_agrees (take n bytes) (AreBytes-take n bytes are) head place).1 (followed head place bytes (take n bytes) (take (n - place) (drop place bytes)) b is)

    call_is : (h k : CallHead) (p q : ℕ) → Call h p ≡ Call k q → p ≡ q
    call_is h k p q e = cc

    by_place : (n : ℕ) → n ≤ length bytes → (t : Bool) → ltb n place ≡ t → (v : Verdict) → verdict (take n bytes) ≡ v → BeginsWithCall head place bytes → place ≤ length bytes → is_call v ≡ not t
    by_place n le false f v was b within = ap is_call (sym was ∙ behind n le (ltb-false _ _ f) b)
    by_place n le true f NoCall was b within = refl
    by_place n le true f (RpcMismatch xid) was b within = refl
    by_place n le true f (AuthError xid stat) was b within = refl
    by_place n le true f (Call other at) was b within =
        let front = (verdict_agrees (take n bytes) (AreBytes-take n bytes are) other at).0 was in
        let text : List ℕ = call_words other ++ auth front.flavor front.body ++ auth front.verifier_flavor front.verifier_body in
        let whole_again : verdict bytes ≡ Call other at =
        ap verdict (sym (take-append-drop n bytes)) ∙ calls_stay (take n bytes) (drop n bytes) (AreBytes-take n bytes are) other at was in
        let same : at ≡ place = call_is other head at place (sym whole_again ∙ e) in
        absurd (omega (arith, same, ltb-true _ _ f, front.place_is, ap length front.whole, length-append text front.rest, length-take n bytes, le))

-- ---- the arguments

-- a call's arguments are followed by what follows the call
pub arguments_grow : (fed more : List ℕ) (head : CallHead) (place : ℕ) → verdict fed ≡ Call head place → verdict (fed ++ more) ≡ Call head place → place ≤ length fed
    → arguments_of (fed ++ more) ≡ arguments_of fed ++ more
unfolding arguments_of
arguments_grow fed more head place was is within =
    ap (λ (v : Verdict). behind_head v (fed ++ more)) is ∙ drop-append-le place fed more within ∙ ap (λ (v : Verdict). behind_head v fed ++ more) (sym was)

one_byte : (byte : ℕ) → byte < 256 → AreBytes (byte ∷ [])
one_byte byte small zero = small
one_byte byte small (suc i) = omega arith

-- if the bytes are no call yet, the first byte of the arguments is still to come
pub none_yet : (fed : List ℕ) (byte : ℕ) → AreBytes fed → byte < 256 → is_call (verdict fed) ≡ false → arguments_of (fed ++ byte ∷ []) ≡ []
unfolding arguments_of
none_yet fed byte are small not_yet = by_verdict (verdict (fed ++ byte ∷ [])) refl
  where
    by_verdict : (v : Verdict) → verdict (fed ++ byte ∷ []) ≡ v → behind_head v (fed ++ byte ∷ []) ≡ []
    by_verdict NoCall is = refl
    by_verdict (RpcMismatch xid) is = refl
    by_verdict (AuthError xid stat) is = refl
    by_verdict (Call head place) is =
        let ends = end_at_the_place (fed ++ byte ∷ []) (AreBytes-append fed (byte ∷ []) are (one_byte byte small)) head place is in
        let len : length (fed ++ byte ∷ []) ≡ length fed + 1 = length-append fed (byte ∷ []) in
        let there : is_call (verdict (take (length fed) (fed ++ byte ∷ []))) ≡ not (ltb (length fed) place) = ends.from_there (length fed) (omega (arith, len)) in
        let low : not (ltb (length fed) place) ≡ false = sym there ∙ ap (λ (xs : List ℕ). is_call (verdict xs)) (take_at fed (byte ∷ []) (length fed) refl) ∙ not_yet in
        let short : length fed < place = ltb-true _ _ (not-false _ low) in
        drop_all place (fed ++ byte ∷ []) (omega (arith, len, short))
