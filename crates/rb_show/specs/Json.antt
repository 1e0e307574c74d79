-- Texts of JSON (RFC 8259 section 7), in ASCII.
use Rattle.std.specs.Prelude.{ℕ, ◌+◌, ◌==◌, ◌/◌, ◌%◌, nat_lt, nat_le, ◌&&◌, if◌then◌else◌, List, [], ◌∷◌, ◌++◌, codes}
use Rattle.std.specs.List.{flat_map}

abbrev pub hex_digit : ℕ → ℕ
hex_digit n = if nat_lt n 10 then 48 + n else 87 + n

-- the character of this number, below 256
abbrev pub code_escape : ℕ → List ℕ
code_escape b = codes "\\u00" ++ (hex_digit (b / 16) ∷ hex_digit (b % 16) ∷ [])

-- JSON-1: In a text of JSON a quotation mark and a backslash have a backslash before them, and a
-- byte that is no printable ASCII character is written by its number, as `\u00XX`.
abbrev pub escaped_byte : ℕ → List ℕ
escaped_byte b =
    if b == 34 then codes "\\\""
    else if b == 92 then codes "\\\\"
    else if nat_le 32 b && nat_le b 126 then b ∷ []
    else code_escape b

-- between quotation marks
abbrev pub json_text : List ℕ → List ℕ
json_text text = codes "\"" ++ (flat_map escaped_byte text ++ codes "\"")
