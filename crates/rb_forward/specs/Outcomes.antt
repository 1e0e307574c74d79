-- Where results stand.
use Rattle.std.specs.Prelude.{ℕ, ◌-◌, ◌≤◌, ⊤}
use Rattle.rb_forward.specs.declared.types.ForwardEnd.{ForwardEnd}
use Rattle.rb_forward.specs.declared.types.ForwardEnd.TheVariants.{Passed, Refused, Failed, Dropped}
use Rattle.rb_forward.specs.Forwards.{longest_results}

-- results that pass begin in a datagram of this many bytes, or at its end, and are no longer than they may be
abbrev pub PassesWithin : ForwardEnd → ℕ → Type 0
PassesWithin (Passed place) count = (place ≤ count) × (count - place ≤ longest_results)
PassesWithin (Refused status) count = ⊤
PassesWithin Failed count = ⊤
PassesWithin Dropped count = ⊤
