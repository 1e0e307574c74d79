-- How `serve` ends.
use Rattle.std.specs.Prelude.{ℕ, Bool, true, false, Result, Ok, Err}
use Rattle.std.specs.IoError.{error_kind}
use Rattle.std.specs.declared.io.ErrorKind.{ErrorKind}
use Rattle.std.specs.declared.io.ErrorKind.TheVariants.{OutOfMemory}
use Rattle.rb_files.specs.declared.trusted.KeptFileFault.TheVariants as files
use Rattle.rb_keep.specs.declared.fault.KeepFault.TheVariants as texts
use Rattle.rb_startup.specs.declared.keep.KeepReadFault.{KeepReadFault}
use Rattle.rb_startup.specs.declared.keep.KeepReadFault.TheVariants.{File, Text}
use Rattle.rb_settings.specs.declared.faults.DaemonFault.{DaemonFault}
use Rattle.rb_settings.specs.declared.faults.DaemonFault.TheVariants.{Memory, Limits as OfLimits, Socket}
use Rattle.rb_sockets.specs.declared.handed.HandedFault.{HandedFault}
use Rattle.rb_sockets.specs.declared.handed.HandedFault.TheVariants as handed
use Rattle.rb_startup.specs.declared.ending.End.{End as Ending}
use Rattle.rb_startup.specs.declared.ending.End.TheVariants.{Done, NotStarted, Failed}
use Rattle.rb_startup.specs.declared.ending.StartFault.{StartFault}
use Rattle.rb_startup.specs.declared.ending.StartFault.TheVariants.{NoMemory, Locked, Unread, Handed, Daemon, Unmade, Unsaid}

-- EXIT-1: `serve` ends with status 0 after the last turn that was asked for, with 3 if it can't start, whose reason is the last
-- line, and with 1 if a turn failed or an allocation was refused.
abbrev pub status_of : Ending → ℕ
status_of Done = 0
status_of NotStarted = 3
status_of Failed = 1

-- by the fault of a daemon that can't begin
-- EXIT-1
abbrev pub end_by_daemon : DaemonFault → Ending
end_by_daemon (Memory error) = Failed
end_by_daemon OfLimits = NotStarted
end_by_daemon (Socket failed) = NotStarted

-- by the fault of sockets that were handed over
-- EXIT-1
abbrev pub end_by_handed : HandedFault → Ending
end_by_handed (handed.Memory error) = Failed
end_by_handed handed.Count = NotStarted
end_by_handed (handed.Socket socket) = NotStarted

abbrev pub is_refusal : ErrorKind → Bool
is_refusal OutOfMemory = true
is_refusal _ = false

-- kept rows are not read since an allocation was refused
-- EXIT-1
abbrev pub is_memory : KeepReadFault → Bool
is_memory (Text texts.NoMemory) = true
is_memory (Text (texts.BadLine n)) = false
is_memory (Text (texts.NotKept n)) = false
is_memory (Text (texts.TooMany n)) = false
is_memory (Text texts.TooLong) = false
is_memory (File (files.Failed error)) = is_refusal (error_kind error)
is_memory (File (files.Distrusted why)) = false
is_memory (File files.Exchanged) = false
is_memory (File files.TooLong) = false

-- by the fault of a start
-- EXIT-1
abbrev pub end_at_start : StartFault → Ending
end_at_start NoMemory = Failed
end_at_start (Locked path) = NotStarted
end_at_start (Unread path fault) = NotStarted
end_at_start (Handed fault) = end_by_handed fault
end_at_start (Daemon fault) = end_by_daemon fault
end_at_start (Unmade path error) = NotStarted
end_at_start Unsaid = NotStarted

-- after the turns
-- EXIT-1
abbrev pub end_after : Result (Unit {0}) DaemonFault → Ending
end_after (Ok done) = Done
end_after (Err fault) = Failed
