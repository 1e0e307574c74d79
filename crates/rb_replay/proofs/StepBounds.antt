-- What an event costs is within the bound on its steps.
use Rattle.std.proofs.Common.{◌≡◌, ◌≤◌, true, List, ap, arith}
use Rattle.rb_xdr.specs.Meter.{Meter, PaysAtMost}
use Rattle.rb_model.specs.State.{Setting, State, are_good}
use Rattle.rb_model.specs.Step.{Event, after, IsReached}
use Rattle.rb_model.specs.Bounds.{run_bound, bytes_bound}
use Rattle.rb_model.specs.Costs.{run_cost}
use Rattle.rb_laws.proofs.EntriesKept.{after-setting}
use Rattle.rb_laws.proofs.StepBounds.{reached-after, runs_are_bounded}
use Rattle.rb_core.specs.StandsFor.{CoreView, StandsFor}
use Rattle.rb_core.specs.HeldBytes.{held, IsListener}
use Rattle.rb_core.proofs.HeldBytes.{held_bytes_are_bounded}
use Rattle.rb_core.proofs.Spending.{at_most}

pub paid_within : (s : State) (events : List Event) (a b : Meter) → IsReached s → are_good s.setting.limits s.setting.listener ≡ true → PaysAtMost a b (run_cost s events) → PaysAtMost a b (run_bound s events)
paid_within s events a b reached good pays = at_most a b (run_cost s events) (run_bound s events) (runs_are_bounded s reached good events) pays

pub held_within_after : (core : CoreView) (s : State) (events : List Event) → StandsFor core (after s events) → IsReached s → IsListener s.setting.listener → held core ≤ bytes_bound s.setting.limits
held_within_after core s events stands reached is_listener =
    let same = after-setting s events in
    let whole = (held_bytes_are_bounded core (after s events) stands (reached-after s events reached) (rw same is_listener)).whole in
    let bound : bytes_bound (after s events).setting.limits ≡ bytes_bound s.setting.limits = ap (λ (x : Setting). bytes_bound x.limits) same in
    omega (arith, whole, bound)
