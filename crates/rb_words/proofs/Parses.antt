-- Numbers that `parse` refuses.
use Rattle.std.proofs.Common.{◌≡◌, ◌<◌, ◌^◌, ℕ, zero, suc, List, [], ◌∷◌, length, true, None, Err, inl, inr, rules, arith, lit<}
use Rattle.std.specs.Prelude.{slice_index}
use Rattle.std.specs.Str.{IsUtf8}
use Rattle.std.specs.List.{list_all}
use Rattle.std.specs.Str.Parse.{IsNumeral, without_leading_plus, digits_value}
use Rattle.std.proofs.lemmas.Str.Parse.{IsNumeralModel, numerals_by_value, parse_digits}
use Rattle.std.proofs.lemmas.Bool.{cases_lt, cases_Bool, and_parts}
use Rattle.std.proofs.lemmas.Bool.Decides.{nat_tests}
use Rattle.std.proofs.lemmas.Str.{IsUtf8-from_ascii}
use Rattle.rb_words.specs.Numbers.{is_digit, number_in}

abbrev AreDigits : List ℕ → Type 0
AreDigits text = list_all is_digit text ≡ true

own : IsNumeralModel AreDigits (digits_value 10)
own = numerals_by_value AreDigits (search rules)

-- digits that `parse` refuses are no number of 32 bits
pub refused_digits : (text : List ℕ) (least most : ℕ) → most < 2 ^ 32 → list_all is_digit text ≡ true
    → ¬ (IsNumeral 10 (without_leading_plus text) × (digits_value 10 (without_leading_plus text) < 2 ^ 32)) → None ≡ number_in least most text
refused_digits text least most small digits h =
    let not : ¬ ((0 < length text) × (digits_value 10 text < 2 ^ 32)) = parse_digits own {E = Unit {0}} 32 text (Err tt) h digits in
    elim (cases_lt (digits_value 10 text) (2 ^ 32)) [
      | inl fits ↦ let empty : 0 < length text → ⊥ = λ some. not (some, fits) in let none : length text ≡ 0 = omega (arith, empty) in grind (arith, none)
      | inr over ↦ grind (arith, over)
    ]

ascii_at : (text : List ℕ) → list_all is_digit text ≡ true → (i : ℕ) → slice_index text i < 128
ascii_at [] all i = lit< tt
ascii_at (b ∷ text) all zero = let digit : is_digit b ≡ true = (and_parts (is_digit b) (list_all is_digit text) all).0 in grind (arith, nat_tests, digit)
ascii_at (b ∷ text) all (suc i) = ascii_at text (and_parts (is_digit b) (list_all is_digit text) all).1 i

-- what is no text is no number
pub no_text : (bytes : List ℕ) (least most : ℕ) → ¬ (IsUtf8 bytes) → None ≡ number_in least most bytes
no_text bytes least most not =
    elim (cases_Bool (list_all is_digit bytes)) [
      | inl all ↦ absurd (not (IsUtf8-from_ascii bytes (ascii_at bytes all)))
      | inr some ↦ grind (arith, some)
    ]
