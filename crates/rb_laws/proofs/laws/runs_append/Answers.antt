use Rattle.rb_laws.proofs.RunLaws.{run-append, after-append}
use Rattle.rb_laws.proofs.laws.runs_append.Goals as goal

pub returns-clause-outputs : goal.returns-clause-outputs
returns-clause-outputs c = run-append

pub returns-clause-states : goal.returns-clause-states
returns-clause-states c = after-append
