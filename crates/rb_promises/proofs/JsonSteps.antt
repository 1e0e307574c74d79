-- A reader of JSON: what it comes to, byte after byte. It reads each text of the grammar, in the one way that there is.
use Rattle.std.proofs.Common.{ℕ, zero, suc, Bool, true, false, List, [], ◌∷◌, ◌++◌}
use Rattle.std.specs.Prelude.{codes, nat_le, ◌==◌, ◌&&◌, ◌||◌, if◌then◌else◌}
use Rattle.rb_show.specs.JsonGrammar.{is_white, is_digit, is_escape, is_hex_digit}

-- What comes next. A value and a name may be the first in their brackets, where these may end too. A text is a name or
-- a value, and has come so far.
pub data Mode : Type 0 where
  Value : Bool → Mode
  Name : Bool → Mode
  Colon : Mode
  After : Mode
  Text : Bool → List ℕ → Mode
  Escape : Bool → List ℕ → Mode
  Hex : ℕ → Bool → List ℕ → Mode
  Word : List ℕ → Mode
  Minus : Mode
  Zero : Mode
  Digits : Mode
  Point : Mode
  Fraction : Mode
  Letter : Mode
  Sign : Mode
  Exponent : Mode

-- The brackets that are open, of an object if true, and the names of the outermost object.
pub data State : Type 0 where
  Refused : State
  At : Mode → List Bool → List (List ℕ) → State

-- names of the outermost object are noted
abbrev pub note : List Bool → List (List ℕ) → List (List ℕ) → List (List ℕ)
note [] new names = names
note (b ∷ []) new names = names ++ new
note (b ∷ c ∷ brackets) new names = names

-- ---- after a value

abbrev pub next : List Bool → List (List ℕ) → ℕ → State
next [] names b = Refused
next (true ∷ brackets) names b =
    if b == 44 then At (Name false) (true ∷ brackets) names
    else if b == 125 then At After brackets names
    else Refused
next (false ∷ brackets) names b =
    if b == 44 then At (Value false) (false ∷ brackets) names
    else if b == 93 then At After brackets names
    else Refused

abbrev pub after : List Bool → List (List ℕ) → ℕ → State
after brackets names b = if is_white b then At After brackets names else next brackets names b

-- ---- numbers

abbrev pub integer : ℕ → Mode
integer b = if b == 48 then Zero else Digits

abbrev pub is_letter : ℕ → Bool
is_letter b = b == 101 || b == 69

abbrev pub is_sign : ℕ → Bool
is_sign b = b == 43 || b == 45

abbrev pub behind_fraction : List Bool → List (List ℕ) → ℕ → State
behind_fraction brackets names b = if is_letter b then At Letter brackets names else after brackets names b

abbrev pub behind_integer : List Bool → List (List ℕ) → ℕ → State
behind_integer brackets names b = if b == 46 then At Point brackets names else behind_fraction brackets names b

-- ---- texts

abbrev pub end_text : Bool → List ℕ → List Bool → List (List ℕ) → State
end_text true text brackets names = At Colon brackets (note brackets (text ∷ []) names)
end_text false text brackets names = At After brackets names

abbrev pub in_hex : ℕ → Bool → List ℕ → Mode
in_hex zero name text = Text name text
in_hex (suc n) name text = Hex n name text

abbrev pub in_word : List ℕ → Mode
in_word [] = After
in_word (c ∷ word) = Word (c ∷ word)

-- ---- a byte

abbrev pub begin : ℕ → List Bool → List (List ℕ) → State
begin b brackets names =
    if b == 45 then At Minus brackets names
    else if b == 34 then At (Text false []) brackets names
    else if b == 91 then At (Value true) (false ∷ brackets) names
    else if b == 123 then At (Name true) (true ∷ brackets) names
    else if b == 116 then At (Word (codes "rue")) brackets names
    else if b == 102 then At (Word (codes "alse")) brackets names
    else if b == 110 then At (Word (codes "ull")) brackets names
    else Refused

abbrev pub move : Mode → List Bool → List (List ℕ) → ℕ → State
move (Value first) brackets names b =
    if is_digit b then At (integer b) brackets names
    else if is_white b then At (Value first) brackets names
    else if b == 93 && first then next brackets names b
    else begin b brackets names
move (Name first) brackets names b =
    if is_white b then At (Name first) brackets names
    else if b == 34 then At (Text true []) brackets names
    else if b == 125 && first then next brackets names b
    else Refused
move Colon brackets names b =
    if is_white b then At Colon brackets names
    else if b == 58 then At (Value false) brackets names
    else Refused
move After brackets names b = after brackets names b
move (Text name text) brackets names b =
    if b == 34 then end_text name text brackets names
    else if b == 92 then At (Escape name (text ++ b ∷ [])) brackets names
    else if nat_le 32 b then At (Text name (text ++ b ∷ [])) brackets names
    else Refused
move (Escape name text) brackets names b =
    if is_escape b then At (Text name (text ++ b ∷ [])) brackets names
    else if b == 117 then At (Hex 3 name (text ++ b ∷ [])) brackets names
    else Refused
move (Hex n name text) brackets names b = if is_hex_digit b then At (in_hex n name (text ++ b ∷ [])) brackets names else Refused
move (Word []) brackets names b = Refused
move (Word (c ∷ word)) brackets names b = if b == c then At (in_word word) brackets names else Refused
move Minus brackets names b = if is_digit b then At (integer b) brackets names else Refused
move Zero brackets names b = behind_integer brackets names b
move Digits brackets names b = if is_digit b then At Digits brackets names else behind_integer brackets names b
move Point brackets names b = if is_digit b then At Fraction brackets names else Refused
move Fraction brackets names b = if is_digit b then At Fraction brackets names else behind_fraction brackets names b
move Letter brackets names b =
    if is_digit b then At Exponent brackets names
    else if is_sign b then At Sign brackets names
    else Refused
move Sign brackets names b = if is_digit b then At Exponent brackets names else Refused
move Exponent brackets names b = if is_digit b then At Exponent brackets names else after brackets names b

abbrev pub step : State → ℕ → State
step Refused b = Refused
step (At mode brackets names) b = move mode brackets names b

abbrev pub run : State → List ℕ → State
run state [] = state
run state (b ∷ bytes) = run (step state b) bytes

-- before a text
abbrev pub start : State
start = At (Value false) [] []
