-- A search of a table, entry by entry.
use Rattle.std.proofs.Common.{◌≡◌, ℕ, Bool, true, false, List, ◌∷◌, Option, Some, refl, sym, ◌∙◌}
use Rattle.std.specs.Prelude.{find}
use Rattle.rb_xdr.specs.Search.{key_of}

module _ {T : Type 0} (p : T → Bool) where
  abbrev pub first_of : List (ℕ × T) → Option (ℕ × T)
  first_of entries = find (λ (e : ℕ × T). p e.1) entries

  module _ (all rest tail : List (ℕ × T)) (key : ℕ) (value : T) (same : first_of rest ≡ first_of all) (is : rest ≡ (key, value) ∷ tail) where
    -- the next entry is the first that passes
    pub found_here : p value ≡ true → Some key ≡ key_of p all
    found_here passes =
        let here : first_of rest ≡ Some (key, value) = rw (is, passes) refl in
        let found : first_of all ≡ Some (key, value) = sym same ∙ here in
        rw found refl

    -- or the search goes on after it
    pub found_behind : p value ≡ false → first_of tail ≡ first_of all
    found_behind fails =
        let here : first_of rest ≡ first_of tail = rw (is, fails) refl in
        sym here ∙ same
