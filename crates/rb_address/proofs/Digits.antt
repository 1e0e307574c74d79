-- A decimal number, digit by digit.
use Rattle.std.specs.List.{list_all}
use Rattle.std.specs.Char.{digit_value}
use Rattle.std.specs.Str.Parse.{digits_value}
use Rattle.std.proofs.Common.{◌≡◌, ◌<◌, ◌≤◌, ◌+◌, ◌*◌, ◌^◌, ℕ, Bool, true, false, ◌&&◌, List, length, get_or, take, refl, sym, ◌∙◌, arith, None, Some, ltb, eqb, not}
use Rattle.std.proofs.lemmas.List.Folds.{list_all_more}
use Rattle.std.proofs.lemmas.List.{take_all}
use Rattle.std.proofs.lemmas.Int.Digits.{digits_value_more}
use Rattle.std.proofs.lemmas.Str.Parse.{digits_value-take-le}
use Rattle.std.proofs.lemmas.Bool.{lt-ltb, le-ltb}
use Rattle.rb_address.specs.Reading.{is_digit, number_below}

and_false : (b : Bool) → (b && false) ≡ false
and_false true = refl
and_false false = refl

pub goes_on : (text : List ℕ) (i n more : ℕ) → i < length text → list_all is_digit (take i text) ≡ true → n ≡ digits_value 10 (take i text) → digit_value (get_or text i 0) < 10 → more ≡ n * 10 + digit_value (get_or text i 0) → (list_all is_digit (take (i + 1) text) ≡ true) × (more ≡ digits_value 10 (take (i + 1) text))
goes_on text i n more lt digits value digit is =
    (list_all_more is_digit text i 0 lt ∙ rw (digits, lt-ltb _ _ digit) refl, is ∙ rw value (sym (digits_value_more 10 text i lt)))

pub too_large : (text : List ℕ) (i n : ℕ) → i < length text → n ≡ digits_value 10 (take i text) → 2 ^ 64 ≤ n * 10 + digit_value (get_or text i 0) → None ≡ number_below (2 ^ 64) text
unfolding number_below
too_large text i n lt value over =
    let more : digits_value 10 (take (i + 1) text) ≡ digits_value 10 (take i text) * 10 + digit_value (get_or text i 0) = digits_value_more 10 text i lt in
    let long : 2 ^ 64 ≤ digits_value 10 text = omega (arith, digits_value-take-le 10 text (i + 1) (omega arith)) in
    let not_below : ltb (digits_value 10 text) (2 ^ 64) ≡ false = le-ltb _ _ long in
    rw (not_below, and_false (not (eqb (length text) 0) && list_all is_digit text)) refl

pub whole : (text : List ℕ) (i n : ℕ) → length text ≤ i → false ≡ eqb (length text) 0 → n < 2 ^ 64 → list_all is_digit (take i text) ≡ true → n ≡ digits_value 10 (take i text) → Some n ≡ number_below (2 ^ 64) text
unfolding number_below
whole text i n le some small digits value =
    let same = take_all i text le in
    let digits' : list_all is_digit text ≡ true = rw same at digits in
    let value' : n ≡ digits_value 10 text = rw same at value in
    let below : ltb (digits_value 10 text) (2 ^ 64) ≡ true = lt-ltb _ _ (omega (arith, value', small)) in
    rw (← some, digits', below, value') refl

pub not_below : (n d e : ℕ) → ¬ (n * 10 + d < 2 ^ 64) → d ≡ e → 2 ^ 64 ≤ n * 10 + e
not_below n d e h is = omega arith
