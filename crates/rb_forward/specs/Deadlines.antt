-- The least of moments, each of which may be missing, and the next deadline of the entries.
use Rattle.std.specs.Prelude.{◌≡◌, ℕ, ◌+◌, ◌*◌, min, List, [], ◌∷◌, map, Option, Some, None}
use Rattle.std.specs.Borrow.{Bor}
use Rattle.std.specs.Fn.{Shared, FnReturnsAt}
use Rattle.rb_forward.specs.Forwards.{Entry, Forwards}

-- the lesser of two moments, each of which may be missing
abbrev pub sooner_of : Option ℕ → Option ℕ → Option ℕ
sooner_of None b = b
sooner_of (Some a) None = Some a
sooner_of (Some a) (Some b) = Some (min a b)

-- the least of these moments, each of which may be missing
abbrev pub soonest_of : List (Option ℕ) → Option ℕ
soonest_of [] = None
soonest_of (moment ∷ rest) = sooner_of moment (soonest_of rest)

-- what is told of each value is its moment
abbrev pub TellsMoment : {F T : Type 0} → Shared F (Bor T × Unit {0}) (Option ℕ) → F → (T → Option ℕ) → Type 0
TellsMoment {F} {T} calls tell moment = (value : T) (told : Option ℕ) → FnReturnsAt calls tell value told → told ≡ moment value

-- It is the least of the moments that are told of these values.
abbrev pub IsSoonest : {F T : Type 0} → Shared F (Bor T × Unit {0}) (Option ℕ) → F → List T → Option ℕ → Type 0
IsSoonest {F} {T} calls tell values soonest = (moment : T → Option ℕ) → TellsMoment calls tell moment → soonest ≡ soonest_of (map moment values)

-- what it costs to look for the least moment of this many values: 2 steps for each, and 1
abbrev pub soonest_cost : ℕ → ℕ
soonest_cost count = 2 * count + 1

-- each entry has a deadline
unfoldable pub deadlines_of : List Entry → List (Option ℕ)
deadlines_of all = map (λ (e : Entry). Some e.deadline) all

-- the least deadline of the entries, if there are any
abbrev pub next_deadline : Forwards → Option ℕ
next_deadline f = soonest_of (deadlines_of f.all)
