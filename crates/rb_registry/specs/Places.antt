-- Where a row of a version was found.
use Rattle.std.specs.Prelude.{ℕ, nat_lt, if◌then◌else◌, Option, Some, None}

-- the change that added the row, and its key; none was found if the change is 0, which added the own rows
abbrev pub place_in : ℕ → ℕ → Option (ℕ × ℕ)
place_in added key = if nat_lt 0 added then Some (added, key) else None
