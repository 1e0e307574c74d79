use Rattle.rb_lines.proofs.Recorded.{records_are_read, ended_records_are_read}
use Rattle.rb_lines.proofs.laws.records_are_read.Goals as goal

pub returns-clause-whole : goal.returns-clause-whole
returns-clause-whole c = records_are_read

pub returns-clause-ended : goal.returns-clause-ended
returns-clause-ended c = ended_records_are_read
