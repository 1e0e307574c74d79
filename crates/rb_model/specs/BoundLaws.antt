-- Laws of bounds: no event takes more steps than its own.
use Rattle.std.specs.Prelude.{◌≡◌, ◌≤◌, true, List}
use Rattle.rb_model.specs.State.{State, are_good}
use Rattle.rb_model.specs.Bounds.{bound_at, run_bound}
use Rattle.rb_model.specs.Step.{Event, IsReached}
use Rattle.rb_model.specs.Costs.{event_cost, run_cost}

-- in each state that a run reaches
abbrev pub StepsAreBounded : Type 0
StepsAreBounded =
    (s : State) → IsReached s → are_good s.setting.limits s.setting.listener ≡ true → (event : Event) → event_cost s event ≤ bound_at s event

-- and so over a run from there
abbrev pub RunsAreBounded : Type 0
RunsAreBounded =
    (s : State) → IsReached s → are_good s.setting.limits s.setting.listener ≡ true → (events : List Event) → run_cost s events ≤ run_bound s events
