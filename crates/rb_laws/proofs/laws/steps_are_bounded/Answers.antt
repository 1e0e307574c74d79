use Rattle.rb_laws.proofs.StepBounds.{steps_are_bounded, runs_are_bounded}
use Rattle.rb_laws.proofs.laws.steps_are_bounded.Goals as goal

pub returns-clause-events : goal.returns-clause-events
returns-clause-events c = steps_are_bounded

pub returns-clause-runs : goal.returns-clause-runs
returns-clause-runs c = runs_are_bounded
