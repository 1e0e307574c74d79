use Rattle.rb_laws.proofs.EntriesEnd.{events_change_at_most_one, entries_end_once}
use Rattle.rb_laws.proofs.laws.entries_end_once.Goals as goal

pub returns-clause-events : goal.returns-clause-events
returns-clause-events c = events_change_at_most_one

pub returns-clause-runs : goal.returns-clause-runs
returns-clause-runs c = entries_end_once
