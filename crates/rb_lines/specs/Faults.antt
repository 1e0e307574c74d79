-- Why `rpcbind` ends before all is done, with which status, and what it says of it.
use Rattle.std.specs.Prelude.{◌≡◌, ℕ, ◌++◌, true, List, [], codes, Option, Some, None}
use Rattle.std.specs.Fmt.{decimal}
use Rattle.rb_model.specs.declared.types.Limits.{Limits}
use Rattle.rb_answers.specs.declared.listener.Listener.{Listener}
use Rattle.rb_lines.specs.Printing.{Writes}
use Rattle.rb_lines.specs.declared.lines.ReadFault.TheVariants as reading
use Rattle.rb_lines.specs.declared.faults.Fault.{Fault}
use Rattle.rb_lines.specs.declared.faults.Fault.TheVariants.{NotText, Lines, NoMemory, BadLimits, SocketFailed, ReadFailed, WriteFailed, NoOutputs, Differs, Lacks}
use Rattle.rb_lines.specs.declared.faults.Ending.{Ending}
use Rattle.rb_lines.specs.declared.limits.BadLimit.{BadLimit}
use Rattle.rb_lines.specs.Limits.{bad_limit, limit_text}

-- the exit status
-- LINE-11 FAULT-1
abbrev pub status_of : Fault → ℕ
status_of NotText = 2
status_of (Lines (reading.BadLine k)) = 2
status_of (Lines reading.TooLong) = 2
status_of (Lines reading.NoMemory) = 1
status_of NoMemory = 1
status_of BadLimits = 1
status_of SocketFailed = 1
status_of ReadFailed = 1
status_of WriteFailed = 1
status_of NoOutputs = 2
status_of (Differs n) = 1
status_of (Lacks n) = 1

-- FAULT-1: The error message of a fault is one line, after that of FAULT-2 if limits are out of
-- their ranges, and each fault has its status.
abbrev pub fault_line : Fault → List ℕ
fault_line NotText = codes "rpcbind: a word is no text\n"
fault_line (Lines (reading.BadLine n)) = codes "rpcbind: line " ++ (decimal n ++ codes ": bad event\n")
fault_line (Lines reading.TooLong) = codes "rpcbind: input too long\n"
fault_line (Lines reading.NoMemory) = codes "rpcbind: no memory\n"
fault_line NoMemory = codes "rpcbind: no memory\n"
fault_line BadLimits = codes "rpcbind: bad limits\n"
fault_line SocketFailed = codes "rpcbind: socket failed\n"
fault_line ReadFailed = codes "rpcbind: read failed\n"
fault_line WriteFailed = codes "rpcbind: write failed\n"
fault_line NoOutputs = codes "rpcbind: no output lines\n"
fault_line (Differs n) = codes "rpcbind: line " ++ (decimal n ++ codes ": the run gives another output\n")
fault_line (Lacks n) = codes "rpcbind: output " ++ (decimal n ++ codes " of the run has no line\n")

-- the line of a limit that is out of its range, if one is
abbrev pub limit_line : Option BadLimit → List ℕ
limit_line None = []
limit_line (Some bad) = codes "rpcbind: " ++ (limit_text bad ++ codes "\n")

-- what stands in front of the line of a fault: of bad limits, the first that is out of its range
abbrev pub lines_before : Limits → Listener → Fault → List ℕ
lines_before limits listener BadLimits = limit_line (bad_limit limits listener)
lines_before limits listener other = []

-- the lines of a fault of a run with these limits at this listener
-- FAULT-2
abbrev pub fault_lines : Limits → Listener → Fault → List ℕ
fault_lines limits listener fault = lines_before limits listener fault ++ fault_line fault

-- If all that there is to tell was written, it is this.
abbrev pub Says : {E : Type 0} → (E → Option (List ℕ)) → E → E → Ending → List ℕ → Type 0
Says contents old new ending text = ending.is_told ≡ true → Writes contents old new text
