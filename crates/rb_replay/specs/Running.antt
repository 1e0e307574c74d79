-- What `rpcbind replay` does with its input.
use Rattle.std.specs.Prelude.{◌≡◌, ◌≢◌, ◌≤◌, ℕ, ◌+◌, ◌-◌, ◌++◌, not, Bool, true, IsTrue, List, [], take, Option, IfSome, IfOk, Result, Ok, Err}
use Rattle.std.specs.Io.Buffered.{writer_contents}
use Rattle.std.specs.declared.io.buffered.BufWriter.{BufWriter}
use Rattle.rb_model.specs.State.{State, are_good, opening}
use Rattle.rb_model.specs.declared.types.Limits.{Limits}
use Rattle.rb_model.specs.Step.{Event, run, IsReached}
use Rattle.rb_model.specs.Plain.{outputs_of}
use Rattle.rb_lines.specs.Printing.{Writes}
use Rattle.rb_xdr.specs.Meter.{Meter, PaysAtMost}
use Rattle.rb_core.specs.CallCosts.{making_cost}
use Rattle.rb_core.specs.Events.{count_shown}
use Rattle.rb_core.specs.StandsFor.{CoreView, StandsFor}
use Rattle.rb_lines.specs.declared.lines.ReadFault.{ReadFault}
use Rattle.rb_lines.specs.declared.beginning.Beginning.{Beginning}
use Rattle.rb_lines.specs.declared.faults.Fault.{Fault}
use Rattle.rb_lines.specs.declared.faults.Ending.{Ending}
use Rattle.rb_lines.specs.declared.faults.Fault.TheVariants.{NotText, Lines, NoMemory, BadLimits, SocketFailed, ReadFailed, WriteFailed, NoOutputs, Differs, Lacks}
use Rattle.rb_lines.specs.Faults.{status_of, fault_lines, Says}
use Rattle.rb_lines.specs.Lines.{longest_input, read, Fails}
use Rattle.rb_lines.specs.Printing.{report_of, report, steps_line_if}
use Rattle.rb_replay.specs.declared.running.Ran.{Ran}
use Rattle.rb_replay.specs.Runs.{bound_shown}

-- REPLAY-1: A replay begins with the limits, listener, xid and moment of its options.
abbrev pub first_state : Beginning → State
first_state beginning =
    opening beginning.limits beginning.listener beginning.first_xid beginning.moment

-- A state that a run reaches at these limits, which are in their ranges, and at which no connection is there.
pub record IsFresh (limits : Limits) (s : State) : Type 0 where
  pub reached : IsReached s
  pub good : are_good s.setting.limits s.setting.listener ≡ true
  pub limits_are : s.setting.limits ≡ limits
  pub none : s.connections.all ≡ []

-- A command ends by a fault of which this holds, with its status, and tells its lines.
pub record EndsBy {E : Type 0} (IsWhy : Fault → Type 0) (beginning : Beginning) (contents : E → Option (List ℕ)) (old new : E) (ending : Ending) : Type 0 where
  pub fault : Fault
  pub why : IsWhy fault
  pub status : ending.status ≡ status_of fault
  pub told : Says contents old new ending (fault_lines beginning.limits beginning.listener fault)

-- the text is event lines
abbrev pub IsRead : Result (List Event) ReadFault → Type 0
IsRead (Ok events) = Unit {0}
IsRead (Err fault) = ⊥

-- the text is no event lines
abbrev pub IsRefused : Result (List Event) ReadFault → Type 0
IsRefused (Ok events) = ⊥
IsRefused (Err fault) = Unit {0}

-- How the making of the core, or the run, may fail: by limits out of their ranges, and else by want of memory.
abbrev pub IsCoreFault : Beginning → Fault → Type 0
IsCoreFault beginning BadLimits = IsTrue (not (are_good beginning.limits beginning.listener))
IsCoreFault beginning NoMemory = IsTrue (are_good beginning.limits beginning.listener)
IsCoreFault beginning other = ⊥

-- How a replay of a text that reads as this may fail: by what is wrong with the text, and if nothing is, by limits
-- out of their ranges, by want of memory or by the writer.
-- REPLAY-2: Limits out of their ranges end `replay` with status 1, once the lines were read, and a
-- line says the first that is.
abbrev pub IsReplayFault : Beginning → Fault → Result (List Event) ReadFault → Type 0
IsReplayFault beginning NotText given = ⊥
IsReplayFault beginning (Lines fault) given = Fails fault given
IsReplayFault beginning NoMemory given = IsRead given × IsCoreFault beginning NoMemory
IsReplayFault beginning BadLimits given = IsRead given × IsCoreFault beginning BadLimits
IsReplayFault beginning SocketFailed given = ⊥
IsReplayFault beginning ReadFailed given = ⊥
IsReplayFault beginning WriteFailed given = IsRead given × IsTrue (are_good beginning.limits beginning.listener)
IsReplayFault beginning NoOutputs given = ⊥
IsReplayFault beginning (Differs n) given = ⊥
IsReplayFault beginning (Lacks n) given = ⊥

-- The same as `Writes`, with what is in the writer's buffer.
abbrev pub BufWrites : {W A : Type 0} → (W → Option (List ℕ)) → BufWriter W A → BufWriter W A
    → List ℕ → Type 0
BufWrites contents old new text = Writes (writer_contents contents) old new text

-- how many steps the run of these events may take, or 2^128 - 1 if they are more
-- STEPS-6: With `--steps` the last line has the steps that the run took and its bound, at status 0
-- alone.
abbrev pub bound_of : Beginning → List Event → ℕ
bound_of beginning events = bound_shown beginning.limits events (run (first_state beginning) events)

-- What came of a run from a state: its outputs, and the bound of its steps at these limits.
pub record IsRunFrom (limits : Limits) (events : List Event) (s : State) (ran : Ran) : Type 0 where
  pub outputs : outputs_of ran.outputs.items ≡ run s events
  pub bound : ran.bound ≡ bound_shown limits events (run s events)

-- the same from the state that a core begins in
abbrev pub IsRunOf : Beginning → List Event → Ran → Type 0
IsRunOf beginning events = IsRunFrom beginning.limits events (first_state beginning)

-- what is printed of it, with its steps or without
abbrev pub ran_text : Ran → Bool → List ℕ
ran_text ran shows_steps = report ran.outputs.items ++ steps_line_if shows_steps ran.steps ran.bound

-- The run from such a state, which the core stands for.
abbrev pub RunsFrom : Limits → List Event → CoreView → Result Ran Fault → Type 0
RunsFrom limits events core result =
    (s : State) → StandsFor core s → IfOk result (IsRunFrom limits events s)

abbrev pub KeepsBound : Ran → Type 0
KeepsBound ran = ran.steps ≤ ran.bound

-- Its steps are within its bound if the core stood for a new state of these limits.
abbrev pub KeepsBoundFrom : Limits → CoreView → Result Ran Fault → Type 0
KeepsBoundFrom limits core result = (s : State) → StandsFor core s → IsFresh limits s → IfOk result KeepsBound

-- Its steps are those that the meter counted meanwhile.
abbrev pub CountsSteps : Meter → Meter → Ran → Type 0
CountsSteps old now ran = ran.steps ≡ count_shown now - count_shown old

-- A core was made, and its meter counted on: it paid no more than the making costs.
abbrev pub BeginsFrom : Beginning → Meter → Meter → Type 0
BeginsFrom beginning old begun = PaysAtMost old begun (making_cost beginning.limits beginning.listener)

-- This many steps were counted from where the core was made.
pub record AreCounted (beginning : Beginning) (taken : ℕ) (old now : Meter) : Type 0 where
  pub begun : Meter
  pub begins : BeginsFrom beginning old begun
  pub rise : taken ≡ count_shown now - count_shown begun

-- The printed outputs of the run of these events were written, and, if it is asked for, how many steps the meter
-- counted of the run, which are no more than they may be; and nothing else.
-- REPLAY-3: Status 0 says that the output was written out.
abbrev pub PrintsRun : {W A : Type 0} → Beginning → Meter → Meter → (W → Option (List ℕ))
    → BufWriter W A → BufWriter W A → Result (List Event) ReadFault → Type 0
PrintsRun beginning before now contents old new (Ok events) =
    (taken : ℕ) × (taken ≤ bound_of beginning events) × AreCounted beginning taken before now
    × BufWrites contents old new (report_of (run (first_state beginning) events) ++ steps_line_if beginning.steps taken (bound_of beginning events))
PrintsRun beginning before now contents old new (Err fault) = ⊥

-- If the bytes that a reader has left are known, this holds of what they read as.
abbrev pub Reads : {R : Type 0} → (R → Option (List ℕ)) → R
    → (Result (List Event) ReadFault → Type 0) → Type 0
Reads remaining reader Holds = IfSome (remaining reader) (λ input. Holds (read input))

-- If they are known, what `PrintsRun` says of what they read as was written.
abbrev pub Replays : {R W A : Type 0} → Beginning → Meter → Meter → (R → Option (List ℕ)) → R
    → (W → Option (List ℕ)) → BufWriter W A → BufWriter W A → Type 0
Replays beginning before now remaining reader contents old new =
    Reads remaining reader (PrintsRun beginning before now contents old new)

-- What was read of an input is all of it, or enough to show that it is too long.
abbrev pub IsEnoughOf : Option (List ℕ) → List ℕ → Type 0
IsEnoughOf left text = IfSome left (λ input. text ≡ take (longest_input + 1) input)

-- At status 2 the fault is what is wrong with the input.
abbrev pub Refuses : {R : Type 0} → Beginning → (R → Option (List ℕ)) → R → Fault → Type 0
Refuses beginning remaining reader fault =
    status_of fault ≡ 2 → Reads remaining reader (IsReplayFault beginning fault)

-- A replay that does not end well ends by a fault, which at status 2 is what is wrong with the input.
-- FAULT-1
abbrev pub Explains : {R E : Type 0} → Beginning → (R → Option (List ℕ)) → R
    → (E → Option (List ℕ)) → E → E → Ending → Type 0
Explains beginning remaining reader contents old new result =
    result.status ≢ 0 → EndsBy (Refuses beginning remaining reader) beginning contents old new result
