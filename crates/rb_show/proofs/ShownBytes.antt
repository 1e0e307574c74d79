-- Texts of a reply, byte by byte.
use Rattle.std.proofs.Common.{◌≡◌, ◌<◌, ◌≤◌, ◌+◌, ◌++◌, ◌∷◌, [], ℕ, List, length, map, take, get_or, sym, ap, ◌∙◌, arith}
use Rattle.std.specs.Prelude.{encode_utf8}
use Rattle.std.proofs.lemmas.List.{map-append, take_more, take_all}
use Rattle.std.proofs.lemmas.Str.{encode_ascii}
use Rattle.std.proofs.lemmas.Bool.Decides.{nat_tests}
use Rattle.rb_show.specs.Texts.{shown_byte, shown_text}

shown_small : (b : ℕ) → shown_byte b < 128
shown_small b = grind (arith, nat_tests)

-- one more byte
pub more : (text : List ℕ) (i : ℕ) → i < length text → map shown_byte (take i text) ++ encode_utf8 (shown_byte (get_or text i 0)) ≡ map shown_byte (take (i + 1) text)
more text i within =
    ap (λ (xs : List ℕ). map shown_byte (take i text) ++ xs) (encode_ascii (shown_byte (get_or text i 0)) (shown_small (get_or text i 0)))
    ∙ sym (map-append shown_byte (take i text) (get_or text i 0 ∷ [])) ∙ ap (map shown_byte) (sym (take_more text i 0 within))

-- all of them
pub whole : (text shown : List ℕ) (i : ℕ) → length text ≤ i → 0 < length text → shown ≡ map shown_byte (take i text) → shown ≡ shown_text text
whole [] shown i all some e = absurd (omega (arith, some))
whole (b ∷ text) shown i all some e = e ∙ ap (map shown_byte) (take_all i (b ∷ text) all)
