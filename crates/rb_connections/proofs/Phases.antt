-- The stage of a slot beside the phase that it stands for.
use Rattle.std.proofs.Common.{ℕ, List, arith}
use Rattle.rb_xdr.specs.Kept.{Kept}
use Rattle.rb_model.specs.State.{Owed, Phase}
use Rattle.rb_model.specs.State.Phase.{Idle, Reading, Owing, Awaiting, Lost}
use Rattle.rb_connections.specs.Reading.{Reader}
use Rattle.rb_connections.specs.declared.giving.Giving.{Giving}
use Rattle.rb_connections.specs.declared.slot.Stage.{Stage}
use Rattle.rb_connections.specs.declared.slot.Stage.TheVariants as stages
use Rattle.rb_registry.specs.Registry.{Registry}
use Rattle.rb_connections.specs.StandsFor.{StandsForPhase, IsGiving}

-- What holds if both are alike holds of each stage and the phase that it stands for.
module _ (registry : Registry) (buffer window : Kept) (P : Stage → Phase → Type 0)
    (idle : StandsForPhase registry stages.Idle buffer window Idle → P stages.Idle Idle)
    (reading : (reader : Reader) (fed : List ℕ) → StandsForPhase registry (stages.Reading reader) buffer window (Reading fed) → P (stages.Reading reader) (Reading fed))
    (giving : (g : Giving) (o : Owed) → IsGiving registry g buffer.bytes window o → P (stages.Owing g) (Owing o))
    (awaiting : StandsForPhase registry stages.Awaiting buffer window Awaiting → P stages.Awaiting Awaiting)
    (lost : P stages.Lost Lost) where
  pub by_phase : (stage : Stage) (phase : Phase) → StandsForPhase registry stage buffer window phase → P stage phase
  by_phase stage phase h = grind arith
