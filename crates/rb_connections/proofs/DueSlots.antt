-- Whether a connection is due, by its slot.
use Rattle.std.proofs.Common.{◌≡◌, ℕ, refl, arith}
use Rattle.std.proofs.lemmas.Grind.{common_steps}
use Rattle.rb_xdr.specs.Kept.{Kept}
use Rattle.rb_model.specs.State.{Phase, Connection}
use Rattle.rb_model.specs.Losses.{time_in, is_due}
use Rattle.rb_connections.specs.declared.slot.Slot.{Slot}
use Rattle.rb_connections.specs.declared.slot.Stage.{Stage}
use Rattle.rb_connections.specs.Slots.{is_due_slot, phase_like}
use Rattle.rb_registry.specs.Registry.{Registry}
use Rattle.rb_connections.specs.StandsFor.{StandsForConnection, StandsForPhase}
use Rattle.rb_connections.proofs.Phases.{by_phase}

pub time_as_stage : (registry : Registry) (stage : Stage) (buffer window : Kept) (phase : Phase) → StandsForPhase registry stage buffer window phase
    → time_in (phase_like stage) ≡ time_in phase
time_as_stage registry stage buffer window phase h = grind (arith, common_steps, by_phase registry buffer window)

pub due_alike : (registry : Registry) (clock : ℕ) (slot : Slot) (c : Connection) → StandsForConnection registry slot c → is_due_slot clock slot ≡ is_due clock c
unfolding is_due_slot is_due
due_alike registry clock slot c h = rw (h.since, time_as_stage registry slot.stage slot.buffer slot.window c.phase h.phase) refl
