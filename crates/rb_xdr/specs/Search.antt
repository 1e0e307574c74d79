-- What a search of a table finds.
use Rattle.std.specs.Prelude.{◌≡◌, ℕ, ◌+◌, ◌-◌, ◌*◌, Bool, List, length, find, Option, Some, None, option_map}
use Rattle.std.specs.Borrow.{Bor}
use Rattle.std.specs.Fn.{Shared, FnReturnsAt}
use Rattle.rb_xdr.specs.Places.{behind}

-- the test answers, of each value, whether p holds of it
abbrev pub IsTestOf : {F T : Type 0} → Shared F (Bor T × Unit {0}) Bool → F → (T → Bool) → Type 0
IsTestOf {F} {T} calls test p = (value : T) (answer : Bool) → FnReturnsAt calls test value answer → answer ≡ p value

-- the key of the first entry whose value passes
abbrev pub key_of : {T : Type 0} → (T → Bool) → List (ℕ × T) → Option ℕ
key_of p entries = option_map (λ e. e.0) (find (λ e. p e.1) entries)

-- what a search costs that ends at this key, or finds none: 2 steps for each entry up to there, and 1 if there is no
-- more
abbrev pub search_cost : {T : Type 0} → List (ℕ × T) → Option ℕ → ℕ
search_cost entries None = 2 * length entries + 1
search_cost entries (Some key) = 2 * (length entries - length (behind entries key))
