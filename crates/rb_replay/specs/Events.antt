-- What one event does to a core.
use Rattle.std.specs.Prelude.{◌≡◌, Result, IfOk}
use Rattle.rb_xdr.specs.declared.memory.NoMemory.{NoMemory}
use Rattle.rb_model.specs.State.{State}
use Rattle.rb_model.specs.Step.{Event, step}
use Rattle.rb_model.specs.Plain.{OwnedOutput, output_of}
use Rattle.rb_core.specs.StandsFor.{CoreView, StandsFor}
use Rattle.rb_core.specs.Metered.{Metered}
use Rattle.rb_core.specs.MeteredCalls.{Priced}

-- Letting the event happen from the state gives this, and what is held stands for the state after it.
abbrev pub Happens : State → Event → OwnedOutput → CoreView → Type 0
Happens s event given held = (output_of given ≡ (step s event).0) × StandsFor held (step s event).1

-- The event has happened to a core, which pays at most its cost on its meter.
pub record HasHappened (event : Event) (old new : Metered) (given : OwnedOutput) : Type 0 where
  pub step : (s : State) → StandsFor old.core s → Happens s event given new.core
  pub cost : Priced event old new

-- If there is a result, the event has happened and gave it.
abbrev pub MayHappen : Event → Metered → Metered → Result OwnedOutput NoMemory → Type 0
MayHappen event old new result = IfOk result (λ given. HasHappened event old new given)
