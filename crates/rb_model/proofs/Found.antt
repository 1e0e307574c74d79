-- What a search through a list says of it.
use Rattle.std.specs.Prelude.{find, filter}
use Rattle.std.specs.List.{list_any}
use Rattle.std.proofs.Common.{◌≡◌, Bool, true, false, not, List, [], ◌∷◌, Some, None, arith}

pub none_some : {X : Type 0} (x : X) → None ≡ Some x → ⊥
none_some x h = absurd cc

module _ {X : Type 0} (test : X → Bool) where
  pub none_any : (xs : List X) → find test xs ≡ None → list_any test xs ≡ false
  none_any [] h = grind arith
  none_any (x ∷ xs) h = grind (arith, none_any xs)

  pub some_any : (xs : List X) (y : X) → find test xs ≡ Some y → list_any test xs ≡ true
  some_any [] y h = grind arith
  some_any (x ∷ xs) y h = grind (arith, some_any xs y)

  pub all_kept : (xs : List X) → list_any test xs ≡ false → filter (λ x. not (test x)) xs ≡ xs
  all_kept [] h = grind arith
  all_kept (x ∷ xs) h = grind (arith, all_kept xs)
