-- Which connections a turn serves, by their places, and which are left for later.
use Rattle.std.specs.Prelude.{◌≡◌, ◌≢◌, ◌≤◌, ◌<◌, ℕ, Bool, true, false, List, slice_get, Option, Some, None, unwrap_or}

-- all but one stay
abbrev pub StayBut : {X : Type 0} → ℕ → List X → List X → Type 0
StayBut key old new = (other : ℕ) → other ≢ key → slice_get new other ≡ slice_get old other

-- The last turn that served the connection at a place is that of this number.
abbrev pub IsServedIn : ℕ → ℕ → List ℕ → Type 0
IsServedIn turn key served = slice_get served key ≡ Some turn

abbrev pub is_left_at : List Bool → ℕ → Bool
is_left_at left key = unwrap_or (slice_get left key) false

-- The connection at a place must be served though no event shows it.
abbrev pub IsLeft : ℕ → List Bool → Type 0
IsLeft key left = is_left_at left key ≡ true

-- No connection is left without a note of it, for which the next turn does not wait.
-- TURN-6
abbrev pub IsNoted : List Bool → Bool → Type 0
IsNoted left are_left = (key : ℕ) → IsLeft key left → are_left ≡ true

-- If none was found, none of these places is left.
abbrev pub NoneWithin : List Bool → ℕ → ℕ → Option ℕ → Type 0
NoneWithin left from to found = found ≡ None → (key : ℕ) → from ≤ key → key < to → (IsLeft key left → ⊥)
