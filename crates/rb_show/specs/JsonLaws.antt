-- Texts of JSON are those of its grammar (RFC 8259 section 7).
use Rattle.std.specs.Prelude.{◌≡◌, ◌≤◌, ◌<◌, ◌⊎◌, ℕ, ◌+◌, ◌-◌, ◌*◌, nat_le, Bool, true, ◌&&◌, if◌then◌else◌, List, [], ◌∷◌, ◌++◌, codes}
use Rattle.std.specs.List.{AllByRecursion, list_all}
use Rattle.rb_show.specs.Json.{escaped_byte, json_text}

-- a lower-case hexadecimal digit
abbrev pub IsHexDigit : ℕ → Type 0
IsHexDigit d = ((48 ≤ d) × (d ≤ 57)) ⊎ ((97 ≤ d) × (d ≤ 102))

abbrev pub hex_value : ℕ → ℕ
hex_value d = if nat_le 97 d then d - 87 else d - 48

-- `\u` and four hexadecimal digits, of which the first two are 0
pub record IsCode (n : ℕ) (bytes : List ℕ) : Type 0 where
  pub high : ℕ
  pub low : ℕ
  pub is : bytes ≡ codes "\\u00" ++ (high ∷ low ∷ [])
  pub high_is : IsHexDigit high
  pub low_is : IsHexDigit low
  pub value : 16 * hex_value high + hex_value low ≡ n

-- it stands for itself
pub record IsUnescaped (n : ℕ) (bytes : List ℕ) : Type 0 where
  pub is : bytes ≡ n ∷ []
  pub printable : (32 ≤ n) × (n ≤ 126)
  pub no_quote : n ≡ 34 → ⊥
  pub no_backslash : n ≡ 92 → ⊥

-- a quotation mark or a backslash, after a backslash
pub record IsBehindBackslash (n : ℕ) (bytes : List ℕ) : Type 0 where
  pub is : bytes ≡ 92 ∷ n ∷ []
  pub which : (n ≡ 34) ⊎ (n ≡ 92)

-- one of these spells the character of this number
-- JSON-1
abbrev pub SpellsCharacter : ℕ → List ℕ → Type 0
SpellsCharacter n bytes = IsUnescaped n bytes ⊎ (IsBehindBackslash n bytes ⊎ IsCode n bytes)

-- Between its quotation marks a text has for each byte the spelling of the character of its number.
abbrev pub EachByteIsACharacter : Type 0
EachByteIsACharacter = (b : ℕ) → b < 256 → SpellsCharacter b (escaped_byte b)

abbrev pub is_printable : ℕ → Bool
is_printable b = nat_le 32 b && nat_le b 126

-- No byte of a text of JSON is a control character, and none is beyond ASCII.
abbrev pub AllBytesArePrintable : Type 0
AllBytesArePrintable = (text : List ℕ) → AllByRecursion (λ b. b < 256) text → list_all is_printable (json_text text) ≡ true
