-- The next deadline of connections, by their slots.
use Rattle.std.specs.List.{AllZip}
use Rattle.std.proofs.Common.{◌≡◌, List, [], ◌∷◌, map, refl, arith}
use Rattle.std.proofs.lemmas.Grind.{common_steps}
use Rattle.rb_model.specs.State.{Connection}
use Rattle.rb_model.specs.Losses.{deadline}
use Rattle.rb_model.specs.NextDeadlines.{connection_deadlines}
use Rattle.rb_registry.specs.Registry.{Registry}
use Rattle.rb_connections.specs.declared.slot.Slot.{Slot}
use Rattle.rb_connections.specs.StandsFor.{StandsForConnection}
use Rattle.rb_connections.specs.Deadlines.{slot_deadline}
use Rattle.rb_connections.proofs.DueSlots.{time_as_stage}

deadline_alike : (registry : Registry) (slot : Slot) (c : Connection) → StandsForConnection registry slot c → slot_deadline slot ≡ deadline c.since c.phase
unfolding slot_deadline
deadline_alike registry slot c h = rw (h.since, time_as_stage registry slot.stage slot.buffer slot.window c.phase h.phase) refl

pub deadlines_alike : (registry : Registry) (slots : List Slot) (all : List Connection) → AllZip (StandsForConnection registry) slots all
    → map slot_deadline slots ≡ connection_deadlines all
unfolding connection_deadlines
deadlines_alike registry [] [] z = refl
deadlines_alike registry [] (c ∷ all) z = grind arith
deadlines_alike registry (slot ∷ slots) [] z = grind arith
deadlines_alike registry (slot ∷ slots) (c ∷ all) z = grind (arith, common_steps, deadline_alike registry slot c, deadlines_alike registry slots all)
