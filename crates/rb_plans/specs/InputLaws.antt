-- Which texts are read as bytes, and as which.
use Rattle.std.specs.Prelude.{◌≡◌, ◌<◌, ◌≤◌, ◌*◌, ◌%◌, ◌⊎◌, ℕ, List, length, Ok, Err}
use Rattle.std.specs.List.{AllPass}
use Rattle.hex.specs.Hex.{encode_lower, encode_upper, is_hex_digit, IsBytes}
use Rattle.rb_show.specs.declared.fault.InfoFault.{InfoFault}
use Rattle.rb_show.specs.declared.fault.InfoFault.TheVariants.{TooLong, Unreadable}
use Rattle.rb_plans.specs.Input.{digits_of, longest_text, read_hex, bytes_of}

-- beside white space, an even number of hexadecimal digits of either case
-- HEX-1
pub record IsHexText (text : List ℕ) : Type 0 where
  pub even : length (digits_of text) % 2 ≡ 0
  pub digits : AllPass is_hex_digit (digits_of text)

-- such a text gives bytes, one for two digits
pub record GivesBytes (text : List ℕ) : Type 0 where
  pub bytes : List ℕ
  pub read : read_hex text ≡ Ok bytes
  pub half : length (digits_of text) ≡ 2 * length bytes

abbrev pub HexTextsGiveBytes : Type 0
HexTextsGiveBytes = (text : List ℕ) → IsHexText text → GivesBytes text

-- no other text does
abbrev pub OnlyHexTextsDo : Type 0
OnlyHexTextsDo = (text bytes : List ℕ) → read_hex text ≡ Ok bytes → IsHexText text

abbrev pub OthersAreUnreadable : Type 0
OthersAreUnreadable = (text : List ℕ) (fault : InfoFault) → read_hex text ≡ Err fault → fault ≡ Unreadable

-- the digits of bytes, with white space anywhere, give those bytes
abbrev pub DigitsGiveTheirBytes : Type 0
DigitsGiveTheirBytes =
    (text bytes : List ℕ) → IsBytes bytes → (digits_of text ≡ encode_lower bytes) ⊎ (digits_of text ≡ encode_upper bytes) → read_hex text ≡ Ok bytes

abbrev pub LongTextsAreNotRead : Type 0
LongTextsAreNotRead = (text : List ℕ) → longest_text < length text → bytes_of text ≡ Err TooLong

abbrev pub TheRestIsRead : Type 0
TheRestIsRead = (text : List ℕ) → length text ≤ longest_text → bytes_of text ≡ read_hex text
