use Rattle.rb_engine.proofs.ServedRecords.{served_records_are_read, served_records_end_full}
use Rattle.rb_engine.proofs.laws.served_records_are_read.Goals as goal

pub returns-clause-read : goal.returns-clause-read
returns-clause-read c = served_records_are_read

pub returns-clause-full : goal.returns-clause-full
returns-clause-full c = served_records_end_full
