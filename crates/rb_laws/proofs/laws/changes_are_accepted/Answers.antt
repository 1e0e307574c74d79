use Rattle.rb_laws.proofs.Changes.{changes_are_accepted, changes_are_those_accepted}
use Rattle.rb_laws.proofs.laws.changes_are_accepted.Goals as goal

pub returns-clause-events : goal.returns-clause-events
returns-clause-events c = changes_are_accepted

pub returns-clause-runs : goal.returns-clause-runs
returns-clause-runs c = changes_are_those_accepted
