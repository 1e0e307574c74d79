-- What is done about a file at the path of a record, as the daemon starts.
use Rattle.rb_policy.specs.declared.record_file.RecordState.{RecordState}
use Rattle.rb_policy.specs.declared.record_file.RecordState.TheVariants.{Absent, Plain, Other}
use Rattle.rb_policy.specs.declared.record_file.RecordAction.{RecordAction}
use Rattle.rb_policy.specs.declared.record_file.RecordAction.TheVariants.{Make, RemoveAndMake, GiveUp}

-- FILE-1: A file at the path of a record is replaced if it is a plain one; one of another kind, a
-- link or a FIFO among them, stays, and the daemon does not start.
abbrev pub record_action : RecordState → RecordAction
record_action Absent = Make
record_action Plain = RemoveAndMake
record_action Other = GiveUp
