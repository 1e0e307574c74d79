-- Lines and fields, one by one.
use Rattle.std.proofs.Common.{zero, suc, add-one, ◌≡◌, ◌<◌, ◌≤◌, ◌+◌, ℕ, true, false, eqb, List, [], ◌∷◌, length, filter, Some, None, refl, sym, ap, ◌∙◌, arith}
use Rattle.std.specs.Prelude.{slice_get, not, ◌==◌}
use Rattle.std.specs.List.{slice_split}
use Rattle.std.proofs.lemmas.Bool.{ne_eqb, eq-eqb, eqb-true, eqb-false}
use Rattle.std.proofs.lemmas.List.{length-append}
use Rattle.std.proofs.lemmas.List.Splits.{slice_split_none, slice_split_at}
use Rattle.rb_evidence.specs.Table.{pieces_of, is_something, fields_of, IsWithout, IsCutAt}

pub cut_pieces : (at : ℕ) (front back text : List ℕ) → IsCutAt at front back text → pieces_of at text ≡ front ∷ pieces_of at back
unfolding pieces_of
cut_pieces at front back text cut =
    ap (slice_split (λ b. b == at)) cut.text_is ∙ slice_split_at (λ b. b == at) front at back cut.without (eq-eqb at at refl)

pub one_piece : (at : ℕ) (text : List ℕ) → IsWithout at text → pieces_of at text ≡ text ∷ []
unfolding pieces_of
one_piece at text without = slice_split_none (λ b. b == at) text without

-- ---- fields

something : (text : List ℕ) → 0 < length text → is_something text ≡ true
something text some = ap not (ne_eqb (length text) 0 (λ e. omega (arith, some, e)))

pub field_here : (front back text : List ℕ) → IsCutAt 32 front back text → 0 < length front → fields_of text ≡ front ∷ fields_of back
unfolding fields_of
field_here front back text cut some =
    ap (filter is_something) (cut_pieces 32 front back text cut)
    ∙ rw (something front some) refl

pub no_field_here : (front back text : List ℕ) → IsCutAt 32 front back text → length front ≡ 0 → fields_of text ≡ fields_of back
unfolding fields_of
no_field_here [] back text cut none = ap (filter is_something) (cut_pieces 32 [] back text cut)
no_field_here (b ∷ front) back text cut none = absurd (omega (arith, none))

pub last_field : (text : List ℕ) → IsWithout 32 text → 0 < length text → fields_of text ≡ text ∷ []
unfolding fields_of
last_field text without some =
    ap (filter is_something) (one_piece 32 text without)
    ∙ rw (something text some) refl

pub no_fields : (text : List ℕ) → length text ≡ 0 → fields_of text ≡ []
unfolding fields_of pieces_of
no_fields [] none = refl
no_fields (b ∷ text) none = absurd (omega (arith, none))

pub some_long : (n : ℕ) → false ≡ eqb n 0 → 0 < n
some_long n some = let ne = eqb-false _ _ (sym some) in omega (arith, ne)

pub none_long : (n : ℕ) → true ≡ eqb n 0 → n ≡ 0
none_long n none = eqb-true _ _ (sym none)

pub shorter : (at : ℕ) (front back text : List ℕ) → IsCutAt at front back text → length back < length text
shorter at front back text cut = omega (arith, ap (λ (t : List ℕ). length t) cut.text_is, length-append front (at ∷ back))

-- ---- the field at a place

pub field_behind : (fields more : List (List ℕ)) (field : List ℕ) (n m : ℕ) → fields ≡ field ∷ more → n ≡ m + 1 → slice_get fields n ≡ slice_get more m
field_behind fields more field n m is next = ap (λ (fs : List (List ℕ)). slice_get fs n) is ∙ ap (slice_get (field ∷ more)) (next ∙ add-one m)

pub field_first : (fields more : List (List ℕ)) (field : List ℕ) (n : ℕ) → fields ≡ field ∷ more → n ≤ 0 → slice_get fields n ≡ Some field
field_first fields more field zero is none = ap (λ (fs : List (List ℕ)). slice_get fs 0) is
field_first fields more field (suc n) is none = absurd (omega (arith, none))

pub no_field : (fields : List (List ℕ)) (n : ℕ) → fields ≡ [] → slice_get fields n ≡ None
no_field fields n is = ap (λ (fs : List (List ℕ)). slice_get fs n) is
