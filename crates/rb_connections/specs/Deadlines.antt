-- The deadline of a connection of a table, by its slot.
use Rattle.std.specs.Prelude.{ℕ, Option}
use Rattle.rb_model.specs.Losses.{deadline}
use Rattle.rb_connections.specs.declared.slot.Slot.{Slot}
use Rattle.rb_connections.specs.Slots.{phase_like}

-- one that is Awaiting or Lost has none
unfoldable pub slot_deadline : Slot → Option ℕ
slot_deadline slot = deadline slot.since (phase_like slot.stage)
