-- Replies that are given into a room, by what is held.
use Rattle.std.specs.Prelude.{ℕ, List, length, Result}
use Rattle.rb_model.specs.declared.types.CoreFault.{CoreFault}
use Rattle.rb_model.specs.declared.types.Given.{Given}
use Rattle.rb_model.specs.Gives.{write_into, bytes_given}
use Rattle.rb_connections.specs.Slots.{Acts}
use Rattle.rb_core.specs.StandsFor.{CoreView, StandsFor}

-- From each state that the old core stands for, the call does the model's `write_into` with this much room, and the
-- first bytes of `room` are those that were given.
-- GIVE-1
abbrev pub WritesInto : ℕ → ℕ → CoreView → CoreView → List ℕ → Result Given CoreFault → Type 0
WritesInto now id old new room result =
    Acts StandsFor (λ s. write_into s now id (length room)) old new (bytes_given room result)
