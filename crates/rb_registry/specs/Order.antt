-- The order of the rows by the changes that added them.
use Rattle.std.specs.Prelude.{◌≤◌, ℕ, zero, suc, ◌+◌, ◌==◌, if◌then◌else◌, List, [], ◌∷◌}
use Rattle.rb_registry.specs.declared.slot.Slot.{Slot}

-- the least number that the change of the row after one can have that was added by this change: after an own row, which
-- none added, there may be another
abbrev pub number_after : ℕ → ℕ
number_after zero = 0
number_after (suc number) = number + 2

-- Own rows stand first, and then each row was added by a later change than those before it. The first one may have this
-- number.
abbrev pub AreInOrder : ℕ → List (ℕ × Slot) → Type 0
AreInOrder least [] = Unit {0}
AreInOrder least (e ∷ rest) = (least ≤ e.1.added) × AreInOrder (number_after e.1.added) rest

-- how many of them are own rows
abbrev pub count_own : List (ℕ × Slot) → ℕ
count_own [] = 0
count_own (e ∷ rest) = (if e.1.added == 0 then 1 else 0) + count_own rest
