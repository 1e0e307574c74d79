-- A served core has good limits and a listener as it should be, so the bounds of the model are its own.
use Rattle.std.proofs.Common.{◌≡◌, ◌≤◌, true, sym, subst, ◌∙◌, arith}
use Rattle.std.proofs.Math.Bool.{Bool-set}
use Rattle.std.proofs.Math.Bridge.{le_prop}
use Rattle.std.proofs.Math.Logic.{∥∥₁_elim}
use Rattle.rb_model.specs.State.{Setting, State, are_good}
use Rattle.rb_model.specs.Bounds.{bytes_bound}
use Rattle.rb_lines.specs.Tapes.{Tape}
use Rattle.rb_core.specs.StandsFor.{CoreView, StandsFor}
use Rattle.rb_core.specs.HeldBytes.{held}
use Rattle.rb_core.proofs.HeldBytes.{never_passes}
use Rattle.rb_laws.proofs.StepBounds.{steps_are_bounded}
use Rattle.rb_laws.proofs.WholeRuns.{whole_runs_are_bounded}
use Rattle.rb_engine.specs.Served.{IsServed}
use Rattle.rb_engine.specs.ServedLaws.{ServedBytesAreBounded, ServedStepsAreBounded, ServedRunsAreBounded, ServedMetersAreBounded}

-- each state that the core stands for has its setting
good_of : (core : CoreView) (tape : Tape) (s : State) → StandsFor core s → IsServed core tape → are_good s.setting.limits s.setting.listener ≡ true
good_of core tape s stands h =
    subst (λ (x : Setting). are_good x.limits x.listener ≡ true) (sym h.stands.setting ∙ stands.setting) h.good

served_good : (core : CoreView) (tape : Tape) (s : State) → StandsFor core s → ∥ IsServed core tape ∥₁ → are_good s.setting.limits s.setting.listener ≡ true
served_good core tape s stands served = ∥∥₁_elim served (Bool-set _ _) (good_of core tape s stands)

pub served_bytes_are_bounded : ServedBytesAreBounded
served_bytes_are_bounded core tape served =
    ∥∥₁_elim served le_prop (λ h.
    subst (λ (x : Setting). held core ≤ bytes_bound x.limits) (sym h.stands.setting)
    (never_passes core h.state h.stands h.reached h.listener))

pub served_steps_are_bounded : ServedStepsAreBounded
served_steps_are_bounded core tape served s stands reached = steps_are_bounded s reached (served_good core tape s stands served)

pub served_runs_are_bounded : ServedRunsAreBounded
served_runs_are_bounded core tape served s stands reached = whole_runs_are_bounded s reached (served_good core tape s stands served)

pub served_meters_are_bounded : ServedMetersAreBounded
served_meters_are_bounded core tape looks counted = omega (arith, counted.paid)
