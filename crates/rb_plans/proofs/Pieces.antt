-- The networks of lines, one after the other.
use Rattle.std.proofs.Common.{◌≡◌, ℕ, List, [], ◌∷◌, ◌++◌, map, refl, ap}
use Rattle.std.specs.List.{flat_map}
use Rattle.std.specs.Borrow.{Bor}

-- of the lines after their borrows
pub flat_map_now : (f : List ℕ → List (List ℕ)) (lines : List (Bor (List ℕ))) → flat_map (λ (line : Bor (List ℕ)). f line.now) lines ≡ flat_map f (map (λ (line : Bor (List ℕ)). line.now) lines)
flat_map_now f [] = refl
flat_map_now f (line ∷ lines) = ap (λ (xs : List (List ℕ)). f line.now ++ xs) (flat_map_now f lines)
