-- With more bytes of a record, as many more bytes of its call's arguments are kept at most. This holds of any numbers: they
-- need not be bytes.
use Rattle.std.specs.Prelude.{slice_range}
use Rattle.std.specs.Option.{is_some}
use Rattle.std.proofs.Common.{◌≡◌, ◌≤◌, ◌<◌, ◌+◌, ◌-◌, ◌%◌, ◌^◌, ◌&&◌, ℕ, zero, suc, Bool, true, false, cond, not, eqb, ltb, List, [], ◌++◌, length, take, drop, Option, refl, sym, ap, subst, ◌∙◌, append_assoc, append-nil, arith, inl, inr, length-append}
use Rattle.std.proofs.lemmas.Bool.{le-ltb, cases_lt}
use Rattle.std.proofs.lemmas.List.{length-take, length-drop, take_all, take-append-le, drop-append-le}
use Rattle.std.proofs.Math.Seq.{take-append-add}
use Rattle.std.proofs.lemmas.Grind.{common_steps}
use Rattle.rb_xdr.specs.Xdr.{number_at, word, residue}
use Rattle.rb_rpc.specs.declared.auth.AuthStat.{AuthStat}
use Rattle.rb_rpc.specs.declared.call.CallHead.{CallHead}
use Rattle.rb_rpc.specs.declared.call.Verdict.{Verdict}
use Rattle.rb_rpc.specs.Messages.{body_of_sys, uid_of}
use Rattle.rb_rpc.specs.Records.{is_last, data_in, data_of}
use Rattle.rb_rpc.specs.Verdict.{body_length, auth_end, is_over_long, is_broken, credential_end, verifier_end, credential_body, sys_uid, head_of, verdict}
use Rattle.rb_rpc.specs.declared.call.Verdict.TheVariants.{NoCall, RpcMismatch, AuthError, Call}
use Rattle.rb_rpc.proofs.Auths.{or_parts, or_no}
use Rattle.rb_rpc.specs.Feeds.{behind_head, arguments_of}
use Rattle.rb_model.specs.Calls.{longest_kept, kept_of}

-- ---- what is read at a place in front is the same if more follows

module _ (a b : List ℕ) where
  same_number : (place : ℕ) → place + 4 ≤ length a → number_at place (a ++ b) ≡ number_at place a
  unfolding number_at
  same_number place within = grind (arith, common_steps)

  same_slice : (from to : ℕ) → from ≤ to → to ≤ length a → slice_range (a ++ b) from to ≡ slice_range a from to
  same_slice from to order within = grind (arith, common_steps)

-- ---- the data of a record

-- each fragment has four bytes beside its data
data_few : (k : ℕ) (bytes : List ℕ) → length (data_in k bytes) ≤ length bytes - 4
data_few zero bytes = omega arith
data_few (suc k) bytes = by_last (is_last bytes) (number_at 0 bytes % 2 ^ 31) (λ (n : ℕ). data_few k (drop (4 + n) bytes))
  where
    by_last : (last : Bool) (n : ℕ) → ((m : ℕ) → length (data_in k (drop (4 + m) bytes)) ≤ length (drop (4 + m) bytes) - 4)
        → length (cond last (slice_range bytes 4 (4 + n)) (slice_range bytes 4 (4 + n) ++ data_in k (drop (4 + n) bytes))) ≤ length bytes - 4
    by_last bb n rest = grind (arith, common_steps, length-take, length-drop, length-append)

nothing : (xs : List ℕ) → length xs ≤ 0 → xs ≡ []
nothing xs none = grind (arith, common_steps)

-- At most this many are after the old ones.
record Grows (old new : List ℕ) (most : ℕ) : Type 0 where
  more : List ℕ
  is : new ≡ old ++ more
  few : length more ≤ most

-- of a fragment and what is after it
abbrev from_fragment : Bool → ℕ → ℕ → List ℕ → List ℕ
from_fragment last n k bytes = cond last (slice_range bytes 4 (4 + n)) (slice_range bytes 4 (4 + n) ++ data_in k (drop (4 + n) bytes))

slice_all : (bytes : List ℕ) (n : ℕ) → slice_range bytes 4 (4 + n) ≡ take n (drop 4 bytes)
slice_all bytes n = let size : 4 + n - 4 ≡ n = omega arith in rw size refl

-- a fragment that ends in the front, or after it
fragment_grows : (a b : List ℕ) (last : Bool) (n k j : ℕ) → 4 ≤ length a
    → (4 + n ≤ length a → Grows (data_in j (drop (4 + n) a)) (data_in k (drop (4 + n) a ++ b)) (length b))
    → Grows (from_fragment last n j a) (from_fragment last n k (a ++ b)) (length b)
fragment_grows a b last n k j long later =
    elim (cases_lt (length a) (4 + n)) [
      | inl cut ↦ by_cut last cut
      | inr whole ↦ by_whole last whole
    ]
  where
    front : drop 4 (a ++ b) ≡ drop 4 a ++ b
    front = drop-append-le 4 a b long

    -- it ends after it
    by_cut : (l : Bool) → length a < 4 + n → Grows (from_fragment l n j a) (from_fragment l n k (a ++ b)) (length b)
    by_cut l cut = by_flag l
      where
        left : ℕ
        left = n - length (drop 4 a)

        size : n ≡ length (drop 4 a) + left
        size = omega (arith, cut, long, length-drop 4 a)

        all : slice_range a 4 (4 + n) ≡ drop 4 a
        all = slice_all a n ∙ take_all n (drop 4 a) (omega (arith, cut, length-drop 4 a))

        here : slice_range (a ++ b) 4 (4 + n) ≡ drop 4 a ++ take left b
        here = slice_all (a ++ b) n ∙ ap (λ (xs : List ℕ). take n xs) front ∙ ap (λ (m : ℕ). take m (drop 4 a ++ b)) size ∙ take-append-add (drop 4 a) b left

        none : data_in j (drop (4 + n) a) ≡ []
        none = nothing _ (let few = data_few j (drop (4 + n) a) in omega (arith, few, length-drop (4 + n) a, cut))

        behind : List ℕ
        behind = data_in k (drop (4 + n) (a ++ b))

        by_flag : (f : Bool) → Grows (from_fragment f n j a) (from_fragment f n k (a ++ b)) (length b)
        by_flag true = record { more = take left b; is = here ∙ ap (λ (xs : List ℕ). xs ++ take left b) (sym all); few = omega (arith, length-take left b) }
        by_flag false =
            let few = data_few k (drop (4 + n) (a ++ b)) in
            record {
              more = take left b ++ behind;
              is =
                  ap (λ (xs : List ℕ). xs ++ behind) here ∙ append_assoc (drop 4 a) (take left b) behind
                  ∙ ap (λ (xs : List ℕ). xs ++ (take left b ++ behind)) (sym (ap (λ (xs : List ℕ). xs ++ data_in j (drop (4 + n) a)) all ∙ ap (λ (xs : List ℕ). drop 4 a ++ xs) none ∙ append-nil (drop 4 a)));
              few = omega (arith, few, length-append (take left b) behind, length-take left b, length-drop (4 + n) (a ++ b), length-append a b, length-drop 4 a, cut, long);
            }

    -- it ends in front
    by_whole : (l : Bool) → 4 + n ≤ length a → Grows (from_fragment l n j a) (from_fragment l n k (a ++ b)) (length b)
    by_whole l whole = by_flag l (later whole)
      where
        same : slice_range (a ++ b) 4 (4 + n) ≡ slice_range a 4 (4 + n)
        same = same_slice a b 4 (4 + n) (omega arith) whole

        by_flag : (f : Bool) → Grows (data_in j (drop (4 + n) a)) (data_in k (drop (4 + n) a ++ b)) (length b) → Grows (from_fragment f n j a) (from_fragment f n k (a ++ b)) (length b)
        by_flag true g = record { more = []; is = same ∙ sym (append-nil (slice_range a 4 (4 + n))); few = omega arith }
        by_flag false g = record {
          more = g.more;
          is =
              ap (λ (xs : List ℕ). xs ++ data_in k (drop (4 + n) (a ++ b))) same
              ∙ ap (λ (xs : List ℕ). slice_range a 4 (4 + n) ++ data_in k xs) (drop-append-le (4 + n) a b whole)
              ∙ ap (λ (xs : List ℕ). slice_range a 4 (4 + n) ++ xs) g.is ∙ sym (append_assoc (slice_range a 4 (4 + n)) (data_in j (drop (4 + n) a)) g.more);
          few = g.few;
        }

short_grows : (k j : ℕ) (a b : List ℕ) → length a ≤ 4 → Grows (data_in j a) (data_in k (a ++ b)) (length b)
short_grows k j a b short = grind (arith, common_steps, nothing (data_in j a), data_few j a, data_few k (a ++ b), length-append a b)

data_grows : (k j : ℕ) (a b : List ℕ) → length a + length b ≤ k → length a ≤ j → Grows (data_in j a) (data_in k (a ++ b)) (length b)
data_grows zero j a b enough deep = short_grows zero j a b (omega (arith, enough))
data_grows (suc k) zero a b enough deep = short_grows (suc k) zero a b (omega (arith, deep))
data_grows (suc k) (suc j) a b enough deep =
    elim (cases_lt (length a) 4) [
      | inl short ↦ short_grows (suc k) (suc j) a b (omega (arith, short))
      | inr long ↦ subst (λ (x : ℕ). Grows (data_in (suc j) a) (from_fragment (not (ltb x (2 ^ 31))) (x % 2 ^ 31) k (a ++ b)) (length b)) (sym (same_number a b 0 long))
          (fragment_grows a b (is_last a) (number_at 0 a % 2 ^ 31) k j long
          (λ whole. data_grows k j (drop (4 + number_at 0 a % 2 ^ 31) a) b
          (omega (arith, enough, whole, length-drop (4 + number_at 0 a % 2 ^ 31) a)) (omega (arith, deep, whole, length-drop (4 + number_at 0 a % 2 ^ 31) a))))
    ]

data_of_more : (a b : List ℕ) → Grows (data_of a) (data_of (a ++ b)) (length b)
unfolding data_of
data_of_more a b = data_grows (length (a ++ b)) (length a) a b (omega (arith, length-append a b)) (omega arith)

-- ---- a call whose head ends in front is one without what follows

past_no : (b : Bool) (v : Verdict) (head : CallHead) (place : ℕ) → cond b NoCall v ≡ Call head place → (b ≡ false) × (v ≡ Call head place)
past_no b v head place e = grind arith

past_rpc : (b : Bool) (x : ℕ) (v : Verdict) (head : CallHead) (place : ℕ) → cond b (RpcMismatch x) v ≡ Call head place → (b ≡ false) × (v ≡ Call head place)
past_rpc b x v head place e = grind arith

past_auth : (b : Bool) (x : ℕ) (s : AuthStat) (v : Verdict) (head : CallHead) (place : ℕ) → cond b (AuthError x s) v ≡ Call head place → (b ≡ false) × (v ≡ Call head place)
past_auth b x s v head place e = grind arith

same_place : (h k : CallHead) (p q : ℕ) → Call h p ≡ Call k q → p ≡ q
same_place h k p q e = cc

-- The lines that don't hold of a call, whose head ends at the place.
record Passed (bytes : List ℕ) (place : ℕ) : Type 0 where
  is_call : not (eqb (word 1 bytes) 0) ≡ false
  version : not (eqb (word 2 bytes) 2) ≡ false
  credential_few : is_over_long 24 bytes ≡ false
  credential_whole : is_broken 24 bytes ≡ false
  verifier_few : is_over_long (credential_end bytes) bytes ≡ false
  verifier_whole : is_broken (credential_end bytes) bytes ≡ false
  flavor_known : ltb 1 (word 6 bytes) ≡ false
  readable : (eqb (word 6 bytes) 1 && not (is_some (sys_uid bytes))) ≡ false
  place_is : verifier_end bytes ≡ place

passed : (bytes : List ℕ) (head : CallHead) (place : ℕ) → verdict bytes ≡ Call head place → Passed bytes place
unfolding verdict
passed bytes head place e = grind (arith, common_steps)

called : (bytes : List ℕ) (place : ℕ) → Passed bytes place → 24 ≤ length bytes → verdict bytes ≡ Call (head_of bytes) (verifier_end bytes)
unfolding verdict
called bytes place p long = grind arith

no_more : (b n : Bool) → b ≡ true → (b && n) ≡ false → n ≡ false
no_more b n e is = grind arith

never : (b n : Bool) → n ≡ false → (b && n) ≡ false
never b n e = grind arith

-- an opaque_auth that ends in front
module _ (a b : List ℕ) (place : ℕ) (within : auth_end place (a ++ b) ≤ length a) where
  pub same_length : body_length place (a ++ b) ≡ body_length place a
  unfolding body_length auth_end
  same_length = same_number a b (place + 4) (omega (arith, within))

  pub same_auth_end : auth_end place (a ++ b) ≡ auth_end place a
  unfolding auth_end
  same_auth_end = ap (λ (n : ℕ). place + 8 + n + residue n) same_length

  pub few_again : is_over_long place (a ++ b) ≡ false → is_over_long place a ≡ false
  unfolding is_over_long auth_end
  few_again e = grind (arith, common_steps, le-ltb, length-append, never, same_length, no_more)

  body_first : place + 8 + body_length place (a ++ b) ≤ auth_end place (a ++ b)
  unfolding auth_end
  body_first = omega arith

  pub whole_again : is_broken place (a ++ b) ≡ false → is_broken place a ≡ false
  unfolding is_broken
  whole_again e = grind (arith, common_steps, or_parts, same_slice, body_first, same_length, same_auth_end, or_no, le-ltb)

auth_last : (place : ℕ) (bytes : List ℕ) → place + 8 ≤ auth_end place bytes
unfolding auth_end
auth_last place bytes = omega arith

body_within : (a b : List ℕ) → auth_end 24 (a ++ b) ≤ length a → 32 + body_length 24 (a ++ b) ≤ length a
unfolding auth_end
body_within a b within = omega (arith, within)

-- a credential's body
same_body : (a b : List ℕ) → auth_end 24 (a ++ b) ≤ length a → credential_body (a ++ b) ≡ credential_body a
same_body a b within = grind (arith, common_steps, take-append-le, body_within a b within, length-drop 32 a, drop-append-le 32 a b, same_length a b 24 within)

abbrev said : List ℕ → Option ℕ
said body = uid_of (body_of_sys body)

pair : (x y : ℕ) (s t : List ℕ) → x ≡ y → s ≡ t → ◌≡◌ {A = ℕ × List ℕ} (x, s) (y, t)
pair x y s t e f = rw (e, f) refl

call_in_front : (a b : List ℕ) (place : ℕ) → Passed (a ++ b) place → place ≤ length a → Passed a place
unfolding credential_end verifier_end sys_uid
call_in_front a b place p front = grind (arith, common_steps, auth_last, same_auth_end, same_number, few_again, whole_again, pair, same_body)

-- ---- the arguments

ends_late : (a : List ℕ) (place : ℕ) → Passed a place → place ≤ length a → 24 ≤ length a
unfolding credential_end verifier_end
ends_late a place p front = let first = auth_last 24 a in let second = auth_last (auth_end 24 a) a in omega (arith, first, second, p.place_is, front)

behind_front : (a b : List ℕ) (head : CallHead) (place : ℕ) → verdict (a ++ b) ≡ Call head place → place ≤ length a → length (arguments_of a) ≡ length a - place
unfolding arguments_of
behind_front a b head place is front =
    let p = call_in_front a b place (passed (a ++ b) head place is) front in
    ap (λ (v : Verdict). length (behind_head v a)) (called a place p (ends_late a place p front) ∙ ap (λ (n : ℕ). Call (head_of a) n) p.place_is) ∙ length-drop place a

arguments_few : (a b : List ℕ) → length (arguments_of (a ++ b)) ≤ length (arguments_of a) + length b
unfolding arguments_of
arguments_few a b = grind (arith, common_steps, length-drop, length-append, cases_lt, behind_front)

-- ---- what is kept of them

pub kept_few : (fed more : List ℕ) → length (kept_of (data_of (fed ++ more))) ≤ length (kept_of (data_of fed)) + length more
kept_few fed more =
    let grows = data_of_more fed more in
    let few : length (arguments_of (data_of (fed ++ more))) ≤ length (arguments_of (data_of fed)) + length grows.more = grind (arith, common_steps, arguments_few) in
    omega (arith, few, grows.few, length-take longest_kept (arguments_of (data_of (fed ++ more))), length-take longest_kept (arguments_of (data_of fed)))
