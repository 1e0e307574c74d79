use Rattle.rb_laws.proofs.Restoring.{rows_can_be_set}
use Rattle.rb_laws.proofs.Spelling.{rows_are_spelled, kept_calls_are_short, rows_can_be_set_again, kept_rows_are_restored, kept_rows_are_in_no_statistics}
use Rattle.rb_laws.proofs.laws.kept_rows_are_restored.Goals as goal

pub returns-clause-settable : goal.returns-clause-settable
returns-clause-settable c = rows_can_be_set

pub returns-clause-spelled : goal.returns-clause-spelled
returns-clause-spelled c = rows_are_spelled

pub returns-clause-short : goal.returns-clause-short
returns-clause-short c = kept_calls_are_short

pub returns-clause-again : goal.returns-clause-again
returns-clause-again c = rows_can_be_set_again

pub returns-clause-restored : goal.returns-clause-restored
returns-clause-restored c = kept_rows_are_restored

pub returns-clause-uncounted : goal.returns-clause-uncounted
returns-clause-uncounted c = kept_rows_are_in_no_statistics
