use Rattle.rb_laws.proofs.History.{events_are_noted, history_is_of_its_events}
use Rattle.rb_laws.proofs.laws.calls_are_noted.Goals as goal

pub returns-clause-events : goal.returns-clause-events
returns-clause-events c = events_are_noted

pub returns-clause-runs : goal.returns-clause-runs
returns-clause-runs c = history_is_of_its_events
