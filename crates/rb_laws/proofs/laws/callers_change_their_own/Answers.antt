use Rattle.rb_laws.proofs.Callers.{strangers_change_nothing, local_owners_keep_theirs}
use Rattle.rb_laws.proofs.Strangers.{strangers_bring_no_keys}
use Rattle.rb_laws.proofs.laws.callers_change_their_own.Goals as goal

pub returns-clause-strangers : goal.returns-clause-strangers
returns-clause-strangers c = strangers_change_nothing

pub returns-clause-owners : goal.returns-clause-owners
returns-clause-owners c = local_owners_keep_theirs

pub returns-clause-notes : goal.returns-clause-notes
returns-clause-notes c = strangers_bring_no_keys
