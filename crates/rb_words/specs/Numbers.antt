-- Numbers in decimal digits.
use Rattle.std.specs.Prelude.{ℕ, ◌==◌, nat_le, Bool, ◌&&◌, not, if◌then◌else◌, List, length, Option, Some, None}
use Rattle.std.specs.List.{list_all}
use Rattle.std.specs.Str.Parse.{digits_value}

abbrev pub is_digit : ℕ → Bool
is_digit c = nat_le 48 c && nat_le c 57

-- at least one digit, and nothing else
abbrev pub is_numeral : List ℕ → Bool
is_numeral text = not (length text == 0) && list_all is_digit text

abbrev pub is_between : ℕ → ℕ → ℕ → Bool
is_between least most n = nat_le least n && nat_le n most

-- the number that the digits are, if it is between the bounds
-- DIGITS-1: A number has decimal digits alone, no sign.
abbrev pub number_in : ℕ → ℕ → List ℕ → Option ℕ
number_in least most text =
    if is_numeral text && is_between least most (digits_value 10 text) then Some (digits_value 10 text) else None
