-- Worked examples: the bound of held bytes, and that of steps.
use Rattle.std.specs.Prelude.{◌≡◌, [], ◌∷◌, map}
use Rattle.rb_model.specs.Bounds.{bytes_bound, steps_bound}
use Rattle.rb_laws.specs.WorkedConnections.{limits}

-- at the least limits, and at the greatest
abbrev pub BytesBounds : Type 0
BytesBounds = map bytes_bound (limits 1 8 0 ∷ limits 256 4096 64 ∷ []) ≡ 31684 ∷ 4719912 ∷ []

-- an event that takes and gives nothing, at the least limits and at the greatest, and one that takes a call of 44 bytes
abbrev pub StepsBounds : Type 0
StepsBounds =
    (steps_bound (limits 1 8 0) 0 0 ≡ 167360) × (steps_bound (limits 256 4096 64) 0 0 ≡ 449408)
    × (steps_bound (limits 1 8 0) 44 0 ≡ 167712)
