-- Places in a table whose entries stand in order.
use Rattle.std.specs.Borrow.{Bor}
use Rattle.std.specs.Prelude.{◌≡◌, ℕ, ◌+◌, ◌==◌, if◌then◌else◌, List, [], ◌∷◌, Option, Some, None, option_map}

module _ {T : Type 0} where
  -- the entries after that of a key
  abbrev pub behind : List (ℕ × T) → ℕ → List (ℕ × T)
  behind [] key = []
  behind (e ∷ rest) key = if e.0 == key then rest else behind rest key

  -- the number of entries up to that of a key, if it is there
  abbrev pub count_to : List (ℕ × T) → ℕ → Option ℕ
  count_to [] key = None
  count_to (e ∷ rest) key = if e.0 == key then Some 1 else option_map (λ n. n + 1) (count_to rest key)

  -- A place is before all entries, or after that of a key. The entries after it:
  abbrev pub to_come : List (ℕ × T) → Option ℕ → List (ℕ × T)
  to_come entries None = entries
  to_come entries (Some key) = behind entries key

  -- and how many are before it, if that key is there
  abbrev pub count_passed : List (ℕ × T) → Option ℕ → Option ℕ
  count_passed entries None = Some 0
  count_passed entries (Some key) = count_to entries key

-- the entry after a place is this one, or there is none
abbrev pub IsNextEntry : {T : Type 0} → List (ℕ × T) → Option ℕ → Option (ℕ × Bor T) → Type 0
IsNextEntry entries place None = to_come entries place ≡ []
IsNextEntry entries place (Some next) = to_come entries place ≡ (next.0, next.1.now) ∷ to_come entries (Some next.0)

-- what a look after a place costs: 1 step, and 1 more if an entry is found
abbrev pub look_cost : {A : Type 0} → Option A → ℕ
look_cost None = 1
look_cost (Some _) = 2
