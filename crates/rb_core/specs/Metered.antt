-- A core with the meter that counts its steps, and what is true of both.
use Rattle.std.specs.Prelude.{◌≡◌, true}
use Rattle.rb_xdr.specs.Meter.{Meter}
use Rattle.rb_model.specs.State.{State, are_good}
use Rattle.rb_model.specs.Step.{IsReached}
use Rattle.rb_core.specs.StandsFor.{CoreView, StandsFor}
use Rattle.rb_core.specs.HeldBytes.{IsListener}

pub record Metered : Type 0 where
  pub core : CoreView
  pub meter : Meter

-- The core stands for a state that a run reaches. Its limits are good, its listener has a port of 16 bits and a short path.
pub record StandsForReached (core : CoreView) : Type 0 where
  pub state : State
  pub stands : StandsFor core state
  pub reached : IsReached state
  pub good : are_good state.setting.limits state.setting.listener ≡ true
  pub listener : IsListener state.setting.listener

-- The meter is that with which the core was made, and some run has brought the core where it is.
pub record IsMetered (core : CoreView) (meter : Meter) : Type 0 where
  pub tie : meter.tie ≡ core.tie
  pub reached : ∥ StandsForReached core ∥₁
