use Rattle.rb_engine.proofs.ServedRows.{served_rows_are_kept, served_rows_may_change}
use Rattle.rb_engine.proofs.laws.served_rows_are_kept.Goals as goal

pub returns-clause-rows : goal.returns-clause-rows
returns-clause-rows c = served_rows_are_kept

pub returns-clause-changes : goal.returns-clause-changes
returns-clause-changes c = served_rows_may_change
