-- That a connection is settled with what its record is answered with.
use Rattle.std.specs.Prelude.{ℕ, List}
use Rattle.rb_model.specs.declared.served.Served.{Served}
use Rattle.rb_registry.specs.Registry.{Registry}
use Rattle.rb_model.specs.Served.{served_in}
use Rattle.rb_model.specs.Connections.{settle, changed_at}
use Rattle.rb_connections.specs.StandsFor.{Table}
use Rattle.rb_connections.specs.Slots.{SlotBecomesFrom, BecomesFrom}
use Rattle.rb_connections.specs.declared.slot.Slot.{Slot}

-- The connection that a slot stands for is settled with what its record is answered with, where `written` is the reply.
abbrev pub SlotSettles : Registry → ℕ → Served → List ℕ → Slot → Slot → Type 0
SlotSettles registry clock served written old new = SlotBecomesFrom registry (settle clock (served_in registry served written)) old new

-- So does the live connection of the number.
abbrev pub Settles : Registry → ℕ → ℕ → Served → List ℕ → Table → Table → Type 0
Settles registry id clock served written old new =
    BecomesFrom registry (changed_at id (settle clock (served_in registry served written))) old new
