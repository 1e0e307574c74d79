-- Printed digits, piece by piece.
use Rattle.std.specs.Io.KnownBytes.{Appends}
use Rattle.std.proofs.Common.{◌≡◌, ℕ, true, List, [], ◌∷◌, ◌++◌, ◌*◌, ◌<◌, length, take, drop, arith, ◌/◌, ◌%◌, slice_index, eqb, Option, refl, sym, ap, ◌∙◌, take-append-drop}
use Rattle.std.proofs.KnownBytes.{Appends-nil, Appends-trans}
use Rattle.std.proofs.lemmas.Bool.{eqb-true}
use Rattle.std.proofs.lemmas.List.{nil_from_length}
use Rattle.hex.proofs.HexLemmas.{length-encode_with}
use Rattle.hex.specs.Hex.{encode_with, encode_lower, lower_digits}
use Rattle.rb_lines.specs.Printing.{hex_text}

encode_with-append : (digits xs ys : List ℕ) → encode_with digits (xs ++ ys) ≡ encode_with digits xs ++ encode_with digits ys
unfolding encode_with
encode_with-append digits [] ys = refl
encode_with-append digits (x ∷ xs) ys = ap (λ (t : List ℕ). slice_index digits (x / 16) ∷ slice_index digits (x % 16) ∷ t) (encode_with-append digits xs ys)

-- the first bytes are written, and what the others are written as is what was left
pub piece_more : (old new after : Option (List ℕ)) (n : ℕ) (rest text : List ℕ) → text ≡ encode_lower (take n rest) → Appends old new text → Appends new after (encode_lower (drop n rest)) → Appends old after (encode_lower rest)
piece_more old new after n rest text is first second =
    let both : encode_lower rest ≡ text ++ encode_lower (drop n rest) =
    ap encode_lower (sym (take-append-drop n rest)) ∙ encode_with-append _ (take n rest) (drop n rest) ∙ ap (λ (t : List ℕ). t ++ encode_lower (drop n rest)) (sym is) in
    rw both (Appends-trans old new after text (encode_lower (drop n rest)) first second)

pub nothing_left : (old : Option (List ℕ)) (rest : List ℕ) → true ≡ eqb (length rest) 0 → Appends old old (encode_lower rest)
unfolding encode_with
nothing_left old rest none =
    let empty : rest ≡ [] = nil_from_length rest (eqb-true (length rest) 0 (sym none)) in
    rw empty (Appends-nil old)

-- two digits for each of some bytes
pub some_digits : (bytes : List ℕ) → 0 < length bytes → length (hex_text bytes) ≡ 2 * length bytes
some_digits [] some = absurd (omega (arith, some))
some_digits (byte ∷ bytes) some = length-encode_with lower_digits (byte ∷ bytes)
