-- Numbers as four bytes.
use Rattle.std.proofs.Common.{◌≡◌, ◌<◌, ◌≤◌, ◌+◌, ◌^◌, ℕ, List, ◌++◌, length, take, drop, refl, sym, ap, ◌∙◌, arith, inl, inr}
use Rattle.std.proofs.lemmas.List.{take-append-drop, drop-drop, length-take, length-drop, get_or-take, get_or-drop, get_or_past, drop_at}
use Rattle.std.proofs.lemmas.Bool.{cases_lt}
use Rattle.std.specs.Int.{w32, from_be_bytes}
use Rattle.std.proofs.lemmas.Nat.{be_bytes_4, from_be_bytes-to_be_bytes_4}
use Rattle.rb_xdr.specs.Xdr.{AreBytes, number, number_at}

pub AreBytes-drop : (n : ℕ) (bytes : List ℕ) → AreBytes bytes → AreBytes (drop n bytes)
AreBytes-drop n bytes are i = rw get_or-drop (are (n + i))

pub AreBytes-take : (n : ℕ) (bytes : List ℕ) → AreBytes bytes → AreBytes (take n bytes)
AreBytes-take n bytes are i =
    elim (cases_lt i n) [
      | inl lt ↦ rw (get_or-take n bytes i 0 lt) (are i)
      | inr le ↦ rw (get_or_past (take n bytes) i 0 (omega (arith, length-take n bytes))) (omega arith)
    ]

pub length-number : (n : ℕ) → length (number n) ≡ 4
unfolding number
length-number n = refl

-- a number that is spelled is read again
pub number_at-number : (n : ℕ) (rest : List ℕ) → n < 2 ^ 32 → number_at 0 (number n ++ rest) ≡ n
unfolding number number_at
number_at-number n rest small = from_be_bytes-to_be_bytes_4 n small

-- the bytes that are read as a number spell it
pub number-number_at : (place : ℕ) (bytes : List ℕ) → AreBytes bytes → place + 4 ≤ length bytes → number (number_at place bytes) ≡ take 4 (drop place bytes)
unfolding number number_at
number-number_at place bytes are long =
    be_bytes_4 (take 4 (drop place bytes)) _ (omega (arith, length-take 4 (drop place bytes), length-drop place bytes)) (AreBytes-take 4 (drop place bytes) (AreBytes-drop place bytes are)) refl

pub number_at_small : (place : ℕ) (bytes : List ℕ) → AreBytes bytes → number_at place bytes < 2 ^ 32
unfolding number_at
number_at_small place bytes are =
    let small = AreBytes-take 4 (drop place bytes) (AreBytes-drop place bytes are) in
    omega (arith, small 0, small 1, small 2, small 3)

pub number_at-drop : (n place : ℕ) (bytes : List ℕ) → number_at place (drop n bytes) ≡ number_at (n + place) bytes
unfolding number_at
number_at-drop n place bytes = ap (λ (xs : List ℕ). from_be_bytes w32 (take 4 xs)) (drop-drop place n bytes)

-- after other bytes
pub number_at-append : (front rest : List ℕ) (n place : ℕ) → length front ≡ n → number_at (n + place) (front ++ rest) ≡ number_at place rest
number_at-append front rest n place len = sym (number_at-drop n place (front ++ rest)) ∙ ap (λ (xs : List ℕ). number_at place xs) (drop_at front rest n len)

-- the number at a place, and what follows it
pub split_number : (place : ℕ) (bytes : List ℕ) → AreBytes bytes → place + 4 ≤ length bytes → drop place bytes ≡ number (number_at place bytes) ++ drop (place + 4) bytes
split_number place bytes are long =
    sym (take-append-drop 4 (drop place bytes)) ∙ ap (λ (xs : List ℕ). xs ++ drop 4 (drop place bytes)) (sym (number-number_at place bytes are long))
    ∙ ap (λ (xs : List ℕ). number (number_at place bytes) ++ xs) (drop-drop 4 place bytes)
