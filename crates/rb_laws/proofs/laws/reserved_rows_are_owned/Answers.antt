use Rattle.rb_laws.proofs.Reserving.{reserved_rows_are_set_by_their_owners, reserved_rows_are_owned}
use Rattle.rb_laws.proofs.laws.reserved_rows_are_owned.Goals as goal

pub returns-clause-events : goal.returns-clause-events
returns-clause-events c = reserved_rows_are_set_by_their_owners

pub returns-clause-rows : goal.returns-clause-rows
returns-clause-rows c = reserved_rows_are_owned
