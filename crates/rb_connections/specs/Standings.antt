-- Where the connections of a table stand, by their slots.
use Rattle.std.specs.Prelude.{◌≡◌, ℕ, Result, IfOk}
use Rattle.rb_model.specs.declared.types.CoreFault.{CoreFault}
use Rattle.rb_model.specs.declared.types.Given.{Given}
use Rattle.rb_rpc.specs.declared.standing.Standing.{Standing}
use Rattle.rb_model.specs.State.{Connections}
use Rattle.rb_model.specs.Connections.{live_connection}
use Rattle.rb_model.specs.Standings.{standing_in, standing_on}
use Rattle.rb_registry.specs.Registry.{Registry}
use Rattle.rb_connections.specs.declared.slot.Slot.{Slot}
use Rattle.rb_connections.specs.declared.slot.Received.{Received}
use Rattle.rb_connections.specs.StandsFor.{Table, StandsForConnections}
use Rattle.rb_connections.specs.Slots.{phase_like}

abbrev pub standing_of_slot : Slot → Standing
standing_of_slot slot = standing_in (phase_like slot.stage)

-- So stands the connection of the number in whatever the table stands for.
abbrev pub IsStanding : ℕ → Table → Standing → Type 0
IsStanding id table standing =
    (registry : Registry) (c : Connections) → StandsForConnections registry table c → standing ≡ standing_on (live_connection id c.all)

-- the same of a result, if it is none that is refused
abbrev pub TellsStanding : ℕ → Table → Result Standing CoreFault → Type 0
TellsStanding id table result = IfOk result (IsStanding id table)

-- where it stands then, if bytes were received
abbrev pub TellsReceived : ℕ → Table → Result (Received × Standing) CoreFault → Type 0
TellsReceived id table result = IfOk result (λ got. IsStanding id table got.1)

-- where it stands then, if bytes were given into a room
abbrev pub TellsGiven : ℕ → Table → Result Given CoreFault → Type 0
TellsGiven id table result = IfOk result (λ given. IsStanding id table given.standing)
