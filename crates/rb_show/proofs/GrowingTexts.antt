-- A text grows by what the next of a list brings.
use Rattle.std.proofs.Common.{◌≡◌, ◌<◌, ◌+◌, ◌++◌, ◌∷◌, [], ℕ, List, length, take, get_or, append_assoc, append-nil, sym, ap, ◌∙◌}
use Rattle.std.specs.List.{flat_map}
use Rattle.std.proofs.lemmas.Grind.{flat_map-append}
use Rattle.std.proofs.lemmas.List.{take_more}

-- one more
pub one_more : {X : Type 0} (brings : X → List ℕ) (front : List ℕ) (xs : List X) (i : ℕ) (d : X) → i < length xs
    → (front ++ flat_map brings (take i xs)) ++ brings (get_or xs i d) ≡ front ++ flat_map brings (take (i + 1) xs)
one_more brings front xs i d within =
    append_assoc front (flat_map brings (take i xs)) (brings (get_or xs i d)) ∙ ap (λ (ys : List ℕ). front ++ ys) (sym (
    ap (flat_map brings) (take_more xs i d within) ∙ flat_map-append brings (take i xs) (get_or xs i d ∷ [])
    ∙ ap (λ (ys : List ℕ). flat_map brings (take i xs) ++ ys) (append-nil (brings (get_or xs i d)))
    ))
