use Rattle.rb_promises.proofs.ConnectionSteps.{only_openings_add, only_closes_remove}
use Rattle.rb_promises.proofs.connections.only_openings_add.Goals as goal

pub returns-clause-added : goal.returns-clause-added
returns-clause-added c = only_openings_add

pub returns-clause-removed : goal.returns-clause-removed
returns-clause-removed c = only_closes_remove
