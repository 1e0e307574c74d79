use Rattle.rb_keep.proofs.Changes.{changes_are_read, none_has_none, owners_go_on}
use Rattle.rb_keep.proofs.laws.changes_are_read.Goals as goal

pub returns-clause-changes : goal.returns-clause-changes
returns-clause-changes c = changes_are_read

pub returns-clause-none : goal.returns-clause-none
returns-clause-none c = none_has_none

pub returns-clause-owners : goal.returns-clause-owners
returns-clause-owners c = owners_go_on
