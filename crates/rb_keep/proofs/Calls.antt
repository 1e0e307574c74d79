-- The bytes of a call, put one after the other.
use Rattle.std.specs.Prelude.{replicate}
use Rattle.std.proofs.Common.{◌≡◌, ◌<◌, ◌≤◌, ◌+◌, ◌*◌, ℕ, zero, suc, List, [], ◌∷◌, ◌++◌, length, take, get_or, refl, sym, ap, ◌∙◌, append_assoc, append-nil, length-append, arith}
use Rattle.std.proofs.lemmas.List.{take_more, length-take}
use Rattle.std.proofs.lemmas.List.Concat.{flat_map-append}
use Rattle.rb_xdr.specs.Xdr.{number, words, opaque, residue}
use Rattle.rb_xdr.proofs.Words.{length-number}
use Rattle.rb_rpc.proofs.Numbers.{length-words}

-- ---- numbers

-- one more
pub words_more : (old now new numbers : List ℕ) (i : ℕ) → i < length numbers → now ≡ old ++ words (take i numbers) → new ≡ now ++ number (get_or numbers i 0) → new ≡ old ++ words (take (i + 1) numbers)
words_more old now new numbers i lt was is =
    is ∙ ap (λ (xs : List ℕ). xs ++ number (get_or numbers i 0)) was ∙ append_assoc old (words (take i numbers)) (number (get_or numbers i 0))
    ∙ ap (λ (xs : List ℕ). old ++ xs)
    (sym (ap words (take_more numbers i 0 lt) ∙ flat_map-append number (take i numbers) (get_or numbers i 0 ∷ []) ∙ ap (λ (xs : List ℕ). words (take i numbers) ++ xs) (append-nil (number (get_or numbers i 0)))))

-- there is room for it
pub word_fits : (old now numbers bytes : List ℕ) (i n : ℕ) → i < length numbers → now ≡ old ++ words (take i numbers) → bytes ≡ number n → length old + 4 * length numbers ≤ 216 → length now + length bytes ≤ 216
word_fits old now numbers bytes i n lt was is room =
    omega (arith, lt, room, ap length was, ap length is, length-append old (words (take i numbers)), length-words (take i numbers), length-take i numbers, length-number n)

-- all of them are put
pub words_count : (old new numbers : List ℕ) (i : ℕ) → length numbers ≤ i → new ≡ old ++ words (take i numbers) → length new ≡ length old + 4 * length numbers
words_count old new numbers i le is = omega (arith, le, ap length is, length-append old (words (take i numbers)), length-words (take i numbers), length-take i numbers)

-- ---- opaque data

abbrev pub three_zeros : List ℕ
three_zeros = 0 ∷ 0 ∷ 0 ∷ []

zeros : (n : ℕ) → n ≤ 3 → take n three_zeros ≡ replicate n 0
zeros zero few = refl
zeros (suc zero) few = refl
zeros (suc (suc zero)) few = refl
zeros (suc (suc (suc zero))) few = refl
zeros (suc (suc (suc (suc n)))) few = absurd (omega (arith, few))

pub opaque_put : (old counted filled padded content : List ℕ) → counted ≡ old ++ words (length content ∷ []) → filled ≡ counted ++ content → padded ≡ filled ++ take (residue (length content)) three_zeros → padded ≡ old ++ opaque content
unfolding opaque number
opaque_put old counted filled padded content first second third =
    let count : List ℕ = number (length content) in
    let rest : List ℕ = replicate (residue (length content)) 0 in
    let zeros_are : take (residue (length content)) three_zeros ≡ rest = zeros (residue (length content)) (omega arith) in
    third ∙ ap (λ (xs : List ℕ). filled ++ xs) zeros_are
    ∙ ap (λ (xs : List ℕ). xs ++ rest) (second ∙ ap (λ (xs : List ℕ). xs ++ content) (first ∙ ap (λ (xs : List ℕ). old ++ xs) (append-nil count)))
    ∙ append_assoc (old ++ count) content rest
    ∙ append_assoc old count (content ++ rest)
