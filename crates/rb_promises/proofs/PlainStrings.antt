-- Strings of printable ASCII characters that stand for themselves.
use Rattle.std.proofs.Common.{◌≡◌, ◌<◌, ◌≤◌, ℕ, Bool, true, List, [], ◌∷◌, ◌++◌, refl, subst, arith}
use Rattle.std.specs.Prelude.{codes, nat_le, nat_eq, ◌&&◌, not}
use Rattle.std.specs.Char.{IsScalar}
use Rattle.std.specs.List.{list_all}
use Rattle.std.proofs.lemmas.Bool.{and_parts}
use Rattle.std.proofs.lemmas.Bool.Decides.{nat_tests}
use Rattle.std.proofs.lemmas.Str.{encode_ascii}
use Rattle.rb_show.specs.JsonGrammar.{IsCharacter, AreCharacters, IsString}
use Rattle.rb_show.specs.JsonGrammar.IsCharacter.{Itself}
use Rattle.rb_show.specs.JsonGrammar.AreCharacters.{NoCharacter, OneCharacter}

abbrev pub is_plain : ℕ → Bool
is_plain b = (nat_le 32 b && nat_le b 126) && (not (nat_eq b 34) && not (nat_eq b 92))

pub ascii : (b : ℕ) → b < 128 → IsScalar b
ascii b small = grind (arith, nat_tests, small)

plain_character : (b : ℕ) → is_plain b ≡ true → IsCharacter (b ∷ [])
plain_character b plain =
    let low : 32 ≤ b = grind (arith, nat_tests, plain) in
    let high : b < 128 = grind (arith, nat_tests, plain) in
    subst IsCharacter (encode_ascii b high)
    (Itself b (record { no_control = low; no_quote = λ e. grind (arith, nat_tests, plain, e); no_backslash = λ e. grind (arith, nat_tests, plain, e); unicode = ascii b high }))

pub plain_characters : (text : List ℕ) → list_all is_plain text ≡ true → AreCharacters text
plain_characters [] plain = NoCharacter
plain_characters (b ∷ text) plain =
    let parts : (is_plain b ≡ true) × (list_all is_plain text ≡ true) = and_parts _ _ plain in
    OneCharacter (plain_character b parts.0) (plain_characters text parts.1)

-- between quotation marks
abbrev pub quoted : List ℕ → List ℕ
quoted text = codes "\"" ++ (text ++ codes "\"")

abbrev pub plain_string : (text : List ℕ) → list_all is_plain text ≡ true → IsString (quoted text)
plain_string text plain = (text, refl, plain_characters text plain)
