-- Which descriptors were handed over.
use Rattle.std.specs.Prelude.{◌≡◌, ℕ, ◌+◌}
use Rattle.rb_descriptors.specs.declared.handed.Descriptors.{Descriptors}

-- This one was the next, and the one after it is from here on.
abbrev pub IsTaken : ℕ → Descriptors → Descriptors → Type 0
IsTaken number old new = (number ≡ old.next) × (new ≡ record old { next = old.next + 1 })
