use Rattle.rb_promises.proofs.HandRows.{rows_are_accepted, callers_are_local, rows_are_left, rows_are_told}
use Rattle.rb_promises.proofs.worked.worked_rows.Goals as goal

pub returns-clause-rows_are_accepted : goal.returns-clause-rows_are_accepted
returns-clause-rows_are_accepted c = rows_are_accepted

pub returns-clause-callers_are_local : goal.returns-clause-callers_are_local
returns-clause-callers_are_local c = callers_are_local

pub returns-clause-rows_are_left : goal.returns-clause-rows_are_left
returns-clause-rows_are_left c = rows_are_left

pub returns-clause-rows_are_told : goal.returns-clause-rows_are_told
returns-clause-rows_are_told c = rows_are_told
