use Rattle.rb_laws.proofs.WholeRuns.{events_are_paid_ahead, whole_runs_are_bounded}
use Rattle.rb_laws.proofs.laws.whole_runs_are_bounded.Goals as goal

pub returns-clause-events : goal.returns-clause-events
returns-clause-events c = events_are_paid_ahead

pub returns-clause-runs : goal.returns-clause-runs
returns-clause-runs c = whole_runs_are_bounded
