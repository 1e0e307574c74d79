-- The part of a text up to its last line feed.
use Rattle.std.proofs.Common.{◌≡◌, ◌≢◌, ℕ, ◌==◌, ◌+◌, ◌-◌, ◌<◌, ◌≤◌, Bool, true, false, cond, List, [], ◌∷◌, ◌++◌, length, take, get_or, refl, sym, ap, subst, ◌∙◌, append_assoc, append-nil, arith}
use Rattle.std.proofs.lemmas.Bool.{eqb-true}
use Rattle.std.proofs.lemmas.List.{take_more}
use Rattle.std.proofs.lemmas.List.Elements.{All-nil, All-head, All-tail}
use Rattle.rb_keep.specs.Reading.{up_to_feed, whole_part}
use Rattle.rb_keep.specs.KeptLaws.{HasNoFeed}

-- there is a line feed behind this byte
before-feed : (byte : ℕ) (front : List ℕ) → up_to_feed byte (front ++ 10 ∷ []) ≡ byte ∷ (front ++ 10 ∷ [])
before-feed byte [] = refl
before-feed byte (first ∷ front) = refl

none-whole : (torn : List ℕ) → HasNoFeed torn → whole_part torn ≡ []
unfolding whole_part
none-whole [] none = refl
none-whole (byte ∷ torn) none =
    ap (up_to_feed byte) (none-whole torn (All-tail (λ b. (b == 10) ≡ false) byte torn none))
    ∙ ap (λ (b : Bool). cond b (byte ∷ []) []) (All-head (λ b. (b == 10) ≡ false) byte torn none)

to-feed : (front torn : List ℕ) → HasNoFeed torn → whole_part (front ++ 10 ∷ torn) ≡ front ++ 10 ∷ []
unfolding whole_part
to-feed [] torn none = ap (up_to_feed 10) (none-whole torn none)
to-feed (byte ∷ front) torn none = ap (up_to_feed byte) (to-feed front torn none) ∙ before-feed byte front

-- ---- texts of whole lines

-- the text is empty, or ends with a line feed
pub data Ended (text : List ℕ) : Type 0 where
  Empty : text ≡ [] → Ended text
  Behind : (front : List ℕ) → text ≡ front ++ 10 ∷ [] → Ended text

pub whole-ended : (text torn : List ℕ) → Ended text → HasNoFeed torn → whole_part (text ++ torn) ≡ text
whole-ended text torn (Empty e) none = ap (λ (t : List ℕ). whole_part (t ++ torn)) e ∙ none-whole torn none ∙ sym e
whole-ended text torn (Behind front e) none =
    ap (λ (t : List ℕ). whole_part (t ++ torn)) e ∙ ap whole_part (append_assoc front (10 ∷ []) torn) ∙ to-feed front torn none ∙ sym e

pub ended-append : (a b : List ℕ) → Ended a → Ended b → Ended (a ++ b)
ended-append a b ea (Behind front e) = Behind (a ++ front) (ap (λ (t : List ℕ). a ++ t) e ∙ sym (append_assoc a front (10 ∷ [])))
ended-append a b ea (Empty e) = subst Ended (sym (ap (λ (t : List ℕ). a ++ t) e ∙ append-nil a)) ea

-- ---- one byte less

last-counts-not : (front : List ℕ) (byte : ℕ) → (byte == 10) ≡ false → whole_part (front ++ byte ∷ []) ≡ whole_part front
unfolding whole_part
last-counts-not [] byte other = ap (λ (b : Bool). cond b (byte ∷ []) []) other
last-counts-not (first ∷ front) byte other = ap (up_to_feed first) (last-counts-not front byte other)

not-ten : (b : ℕ) → b ≢ 10 → (b == 10) ≡ false
not-ten b other = by_test (b == 10) refl
  where
    by_test : (t : Bool) → (b == 10) ≡ t → t ≡ false
    by_test true e = absurd (other (eqb-true b 10 e))
    by_test false e = refl

pub one-less : (text : List ℕ) (n : ℕ) → 0 < n → n ≤ length text → get_or text (n - 1) 0 ≢ 10 → whole_part (take (n - 1) text) ≡ whole_part (take n text)
one-less text n some within other =
    let m : n ≡ (n - 1) + 1 = omega (arith, some) in
    sym (
    ap (λ (k : ℕ). whole_part (take k text)) m
    ∙ ap whole_part (take_more text (n - 1) 0 (omega (arith, some, within)))
    ∙ last-counts-not (take (n - 1) text) (get_or text (n - 1) 0) (not-ten (get_or text (n - 1) 0) other)
    )

pub none-left : (text : List ℕ) (n : ℕ) → n ≤ 0 → whole_part (take n text) ≡ take n text
unfolding whole_part
none-left text n none = let z : n ≡ 0 = omega (arith, none) in rw z refl

pub ends-there : (text : List ℕ) (n : ℕ) → 0 < n → n ≤ length text → get_or text (n - 1) 0 ≡ 10 → whole_part (take n text) ≡ take n text
ends-there text n some within feed =
    let m : n ≡ (n - 1) + 1 = omega (arith, some) in
    let is_so : take n text ≡ take (n - 1) text ++ 10 ∷ [] =
    ap (λ (k : ℕ). take k text) m ∙ take_more text (n - 1) 0 (omega (arith, some, within)) ∙ ap (λ (b : ℕ). take (n - 1) text ++ b ∷ []) feed in
    ap whole_part is_so ∙ to-feed (take (n - 1) text) [] (All-nil (λ b. (b == 10) ≡ false)) ∙ sym is_so
