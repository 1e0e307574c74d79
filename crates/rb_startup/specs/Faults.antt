-- What is told if `serve` ends by a fault.
use Rattle.std.specs.Prelude.{◌≡◌, ℕ, ◌⊎◌, Bool, true, List, Option, Result, Ok, Err}
use Rattle.std.specs.Io.KnownBytes.{Appends}
use Rattle.rb_lines.specs.declared.faults.Ending.{Ending}
use Rattle.rb_lines.specs.declared.faults.Fault.{Fault}
use Rattle.rb_lines.specs.declared.faults.Fault.TheVariants.{NoMemory, BadLimits, SocketFailed, ReadFailed, WriteFailed}
use Rattle.rb_lines.specs.Faults.{fault_line, fault_lines}
use Rattle.rb_settings.specs.declared.settings.Settings.{Settings}
use Rattle.rb_settings.specs.Settings.{listener_of}
use Rattle.rb_settings.specs.declared.faults.DaemonFault.{DaemonFault}
use Rattle.rb_settings.specs.declared.faults.DaemonFault.TheVariants.{Memory, Limits as OfLimits, Socket}
use Rattle.rb_startup.specs.declared.telling.Front.TheVariants.{Own, At, Make}
use Rattle.rb_startup.specs.Fronts.{step_front, front_text}
use Rattle.rb_startup.specs.declared.ending.StartFault.{StartFault}
use Rattle.rb_startup.specs.declared.ending.StartFault.TheVariants.{Locked, Unread, Handed, Daemon, Unmade, Unsaid}
use Rattle.rb_startup.specs.declared.ending.StartFault.TheVariants as starts
use Rattle.rb_startup.specs.Ends.{status_of, end_at_start, end_after}

-- This text was written, whatever was after it.
abbrev pub HasWritten : {E : Type 0} → (E → Option (List ℕ)) → E → List ℕ → Type 0
HasWritten {E} contents old text = (front : E) × Appends (contents old) (contents front) text

-- If all was written, it is this text.
abbrev pub Tells : {E : Type 0} → (E → Option (List ℕ)) → E → E → Bool → List ℕ → Type 0
Tells contents old new is_told text = is_told ≡ true → Appends (contents old) (contents new) text

-- If all was written, this text was, with the system's word behind it, of which nothing is known.
abbrev pub TellsBehind : {E : Type 0} → (E → Option (List ℕ)) → E → Bool → List ℕ → Type 0
TellsBehind contents old is_told text = is_told ≡ true → HasWritten contents old text

-- If all was written: the line of the fault, and then this text, with more behind it.
abbrev pub TellsThen : {E : Type 0} → (E → Option (List ℕ)) → E → Bool → Fault → List ℕ → Type 0
TellsThen {E} contents old is_told fault text =
    is_told ≡ true
    → (said : E) × Appends (contents old) (contents said) (fault_line fault) × HasWritten contents said text

-- If all was written: the lines of the fault, and nothing else. Of a socket its line is the first, and then the step that
-- failed was written, with the address or path. The system's word for the error is behind it: nothing is known of it.
-- FAULT-3: If the daemon ends by a step that failed, it writes `rpcbind: socket failed`, and as the
-- last line `rpcbind: ` and that step, of a bind with its address or the path of the local socket,
-- and the system's word.
abbrev pub TellsFault : {E : Type 0} → Settings → (E → Option (List ℕ)) → E → E → Bool → DaemonFault → Type 0
TellsFault s contents old new is_told (Memory error) = Tells contents old new is_told (fault_line NoMemory)
TellsFault s contents old new is_told OfLimits = Tells contents old new is_told (fault_lines s.limits (listener_of s) BadLimits)
TellsFault s contents old new is_told (Socket failed) =
    TellsThen contents old is_told SocketFailed (step_front failed.step s.local)

-- What is told of a start that failed, as its last line.
-- EXIT-1
abbrev pub TellsStart : {E : Type 0} → Settings → (E → Option (List ℕ)) → E → E → Bool → StartFault → Type 0
TellsStart s contents old new is_told starts.NoMemory = Tells contents old new is_told (fault_line NoMemory)
TellsStart s contents old new is_told (Locked path) = TellsThen contents old is_told ReadFailed (front_text (At path))
TellsStart s contents old new is_told (Unread path why) = TellsThen contents old is_told ReadFailed (front_text (At path))
TellsStart s contents old new is_told (Handed why) = TellsBehind contents old is_told (front_text Own)
TellsStart s contents old new is_told (Daemon fault) = TellsFault s contents old new is_told fault
TellsStart s contents old new is_told (Unmade path error) = TellsThen contents old is_told WriteFailed (front_text (Make path))
TellsStart s contents old new is_told Unsaid = Tells contents old new is_told (fault_line WriteFailed)

-- What is told after the turns: nothing, or the fault of the last one.
abbrev pub TellsTurns : {E : Type 0} → Settings → (E → Option (List ℕ)) → E → E → Bool → Result (Unit {0}) DaemonFault → Type 0
TellsTurns s contents old new is_told (Ok done) = new ≡ old
TellsTurns s contents old new is_told (Err fault) = TellsFault s contents old new is_told fault

-- `serve` ended by a fault of its start, or after its turns: with that status, and its fault was told last.
pub record EndsByStart {E : Type 0} (contents : E → Option (List ℕ)) (new : E) (ending : Ending) : Type 0 where
  pub before : E
  pub settings : Settings
  pub fault : StartFault
  pub status : ending.status ≡ status_of (end_at_start fault)
  pub told : TellsStart settings contents before new ending.is_told fault

pub record EndsAfterTurns {E : Type 0} (contents : E → Option (List ℕ)) (new : E) (ending : Ending) : Type 0 where
  pub before : E
  pub settings : Settings
  pub turns : Result (Unit {0}) DaemonFault
  pub status : ending.status ≡ status_of (end_after turns)
  pub told : TellsTurns settings contents before new ending.is_told turns

abbrev pub EndsServe : {E : Type 0} → (E → Option (List ℕ)) → E → Ending → Type 0
EndsServe contents new ending = EndsByStart contents new ending ⊎ EndsAfterTurns contents new ending
