-- A worked example: the bytes that a new core holds.
use Rattle.std.specs.Prelude.{◌≡◌}
use Rattle.rb_laws.specs.Worked.{fresh}
use Rattle.rb_core.specs.StandsFor.{CoreView, StandsFor}
use Rattle.rb_core.specs.HeldBytes.{held}

-- the six own rows alone, each of 204 bytes and the 13 of 0.0.0.0.0.111
abbrev pub FreshCoreHolds : Type 0
FreshCoreHolds = (core : CoreView) → StandsFor core fresh → held core ≡ 1302
