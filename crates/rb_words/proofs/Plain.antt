-- Names of lines, one after the other.
use Rattle.std.proofs.Common.{◌≡◌, ℕ, List, [], ◌∷◌, ◌++◌, map, refl, ap}
use Rattle.std.specs.List.{flat_map}
use Rattle.std.specs.Borrow.{Bor}
use Rattle.rb_words.specs.Services.{NamedNumber}

-- of the lines after their borrows
pub flat_map_now : (f : List ℕ → List NamedNumber) (lines : List (Bor (List ℕ))) → flat_map (λ (line : Bor (List ℕ)). f line.now) lines ≡ flat_map f (map (λ (line : Bor (List ℕ)). line.now) lines)
flat_map_now f [] = refl
flat_map_now f (line ∷ lines) = ap (λ (xs : List NamedNumber). f line.now ++ xs) (flat_map_now f lines)
