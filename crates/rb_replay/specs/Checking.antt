-- What `rpcbind replay --check` says: whether an input's own output lines are those of the run of its events.
use Rattle.std.specs.Prelude.{◌≡◌, ◌≢◌, ◌≤◌, ◌<◌, ◌⊎◌, ℕ, zero, suc, ◌+◌, nat_lt, ◌==◌, Bool, true, false, if◌then◌else◌, List, [], ◌∷◌, ◌++◌, length, slice_index, take, codes, Option, Some, None, IfSome, option_map, Result, Ok, Err}
use Rattle.std.specs.Bool.{Decides}
use Rattle.std.specs.List.{flat_map}
use Rattle.std.specs.Fmt.{decimal}
use Rattle.std.specs.Borrow.{Bor}
use Rattle.std.specs.declared.io.buffered.BufWriter.{BufWriter}
use Rattle.rb_model.specs.Plain.{OwnedOutput, output_of, outputs_of}
use Rattle.rb_model.specs.Step.{Event, Output, run}
use Rattle.rb_lines.specs.Printing.{output_text}
use Rattle.rb_lines.specs.declared.lines.ReadFault.{ReadFault}
use Rattle.rb_replay.specs.declared.checking.Agreement.{Agreement}
use Rattle.rb_lines.specs.declared.beginning.Beginning.{Beginning}
use Rattle.rb_lines.specs.declared.faults.Ending.{Ending}
use Rattle.rb_lines.specs.declared.faults.Fault.{Fault}
use Rattle.rb_lines.specs.declared.faults.Fault.TheVariants.{NotText, Lines, NoMemory, BadLimits, SocketFailed, ReadFailed, WriteFailed, NoOutputs, Differs, Lacks}
use Rattle.rb_lines.specs.Faults.{status_of}
use Rattle.rb_lines.specs.Lines.{lines_of, longest_input, read, Fails}
use Rattle.rb_lines.specs.OutputLines.{output_line_in, output_lines_in, output_lines}
use Rattle.rb_replay.specs.Running.{first_state, IsCoreFault, IsRead, IsRefused, BufWrites, EndsBy}

-- the line of an output, with its line feed, is this one
abbrev pub IsPrintedAs : OwnedOutput → List ℕ → Bool → Type 0
IsPrintedAs given line same = Decides same (output_text (output_of given) ≡ line ++ codes "\n")

-- ---- how both compare

abbrev pub IsFrontOf : List (List ℕ) → List (List ℕ) → Type 0
IsFrontOf some all = (rest : List (List ℕ)) × (all ≡ some ++ rest)

-- This is the number of the first line at which the text and the outputs differ: the output lines before it are a front
-- of those of the outputs, and with this line they are none.
-- CHECK-2: If an output differs from its line, the error message names the first line that says
-- another output than the run gives there, or the first output that has no line, with status 1.
pub record IsFirstOther (text : List ℕ) (outputs : List Output) (n : ℕ) : Type 0 where
  pub before : List (List ℕ)
  pub line : List ℕ
  pub after : List (List ℕ)
  pub lines : lines_of text ≡ before ++ line ∷ after
  pub number : n ≡ length before + 1
  pub agree : IsFrontOf (flat_map output_line_in before) (output_lines outputs)
  pub differ : IsFrontOf (flat_map output_line_in before ++ output_line_in line) (output_lines outputs) → ⊥

-- The text has the lines of the first outputs, and none for the one of this number, counted from 1.
-- CHECK-2
pub record IsLacking (text : List ℕ) (outputs : List Output) (n : ℕ) : Type 0 where
  pub agree : IsFrontOf (output_lines_in text) (output_lines outputs)
  pub some : 1 < n
  pub number : n ≡ length (output_lines_in text) + 1
  pub there : n ≤ length outputs

-- CHECK-1: With `--check` the lines that begin with `#> `, in their order, are compared with the
-- outputs. Status 0 says that there are some, and that they are the lines of all outputs, or, if
-- the last line is cut off (CHECK-3), of the first ones.
pub record Agrees (text : List ℕ) (outputs : List Output) : Type 0 where
  pub same : output_lines_in text ≡ output_lines outputs
  pub some : 0 < length outputs

-- The text has output lines, this many. They are those of the outputs, or, if its last line was cut off, those of the
-- first outputs.
-- CHECK-3
abbrev pub AgreesWith : List ℕ → Bool → ℕ → List Output → Type 0
AgreesWith text false n outputs = Agrees text outputs × (n ≡ length outputs)
AgreesWith text true n outputs =
    IsFrontOf (output_lines_in text) (output_lines outputs) × (n ≡ length (output_lines_in text)) × (0 < n)

-- why the text's output lines are not those of the outputs, or why that is not known
abbrev pub IsUnlike : List ℕ → List Output → Fault → Type 0
IsUnlike text outputs NoMemory = Unit {0}
IsUnlike text outputs NoOutputs = output_lines_in text ≡ []
IsUnlike text outputs (Differs n) = IsFirstOther text outputs n
IsUnlike text outputs (Lacks n) = IsLacking text outputs n
IsUnlike text outputs other = ⊥

-- ---- an input that is cut off

-- how many of the first n bytes of a text stand up to their last line feed, and with it
unfoldable pub whole_len : List ℕ → ℕ → ℕ
whole_len text zero = 0
whole_len text (suc n) = if slice_index text n == 10 then suc n else whole_len text n

-- CHECK-3: With `--check` a last line that no line feed ends is left out, and if the rest agrees it
-- is said that it is cut off; then outputs at the end may have no line.
unfoldable pub whole_lines : List ℕ → List ℕ
whole_lines text = if nat_lt longest_input (length text) then text else take (whole_len text (length text)) text

abbrev pub is_cut : List ℕ → Bool
is_cut text = nat_lt (length (whole_lines text)) (length text)

-- what is checked of the bytes that a reader has left, if they are known
abbrev pub whole_input : {R : Type 0} → (R → Option (List ℕ)) → R → Option (List ℕ)
whole_input remaining reader = option_map whole_lines (remaining reader)

-- ---- the command

-- the line that says that this many agree, and, if it is so, that the input is cut off
-- CHECK-3
abbrev pub agreement : Agreement → List ℕ
agreement a =
    if a.is_cut then decimal a.count ++ codes " outputs agree; the last line is cut off\n"
    else decimal a.count ++ codes " outputs agree\n"

-- The text was read, and this holds of the outputs of the run of its events.
abbrev pub OfRun : Beginning → (List Output → Type 0) → Result (List Event) ReadFault → Type 0
OfRun beginning Holds (Ok events) = Holds (run (first_state beginning) events)
OfRun beginning Holds (Err fault) = ⊥

-- The output lines of what is checked of an input are those of the run of its events, this many.
abbrev pub HasAgreed : Beginning → Agreement → List ℕ → Type 0
HasAgreed beginning a input = OfRun beginning (AgreesWith (whole_lines input) a.is_cut a.count) (read (whole_lines input))

-- If the bytes that a reader has left are known, they agree in this way, and it is said whether they are cut off.
abbrev pub IsAgreed : {R : Type 0} → Beginning → (R → Option (List ℕ)) → R → Agreement → Type 0
IsAgreed beginning remaining reader a =
    IfSome (remaining reader) (λ input. (a.is_cut ≡ is_cut input) × HasAgreed beginning a input)

-- The output lines agree with the run, and the line that says how many was written, and nothing else.
abbrev pub FindsAgreed : {R W A : Type 0} → Beginning → (R → Option (List ℕ)) → R
    → (W → Option (List ℕ)) → BufWriter W A → BufWriter W A → Type 0
FindsAgreed beginning remaining reader contents old new =
    (a : Agreement) × IsAgreed beginning remaining reader a × BufWrites contents old new (agreement a)

-- The input is no event lines, or has no output lines.
-- CHECK-4: An input without a line that begins with `#> ` cannot be checked: status 2.
abbrev pub CannotBeChecked : List ℕ → Type 0
CannotBeChecked input = IsRefused (read input) ⊎ (output_lines_in input ≡ [])

-- what may be wrong with a text that is checked
abbrev pub IsWrongWith : Beginning → List ℕ → Fault → Type 0
IsWrongWith beginning text NotText = ⊥
IsWrongWith beginning text (Lines fault) = Fails fault (read text)
IsWrongWith beginning text NoMemory = IsRead (read text)
IsWrongWith beginning text BadLimits = IsRead (read text) × IsCoreFault beginning BadLimits
IsWrongWith beginning text SocketFailed = ⊥
IsWrongWith beginning text ReadFailed = ⊥
IsWrongWith beginning text WriteFailed = ⊥
IsWrongWith beginning text NoOutputs = OfRun beginning (λ outputs. output_lines_in text ≡ []) (read text)
IsWrongWith beginning text (Differs n) = OfRun beginning (λ outputs. IsFirstOther text outputs n) (read text)
IsWrongWith beginning text (Lacks n) = OfRun beginning (λ outputs. IsLacking text outputs n) (read text)

-- What may be wrong with an input that is checked; reading, writing and memory may fail too.
abbrev pub IsWrongInput : Beginning → List ℕ → Fault → Type 0
IsWrongInput beginning input NoMemory = Unit {0}
IsWrongInput beginning input ReadFailed = Unit {0}
IsWrongInput beginning input WriteFailed = Unit {0}
IsWrongInput beginning input fault = IsWrongWith beginning input fault

-- If the bytes that a reader has left are known, the fault is what is wrong with them.
abbrev pub IsWhy : {R : Type 0} → Beginning → (R → Option (List ℕ)) → R → Fault → Type 0
IsWhy beginning remaining reader fault =
    IfSome (remaining reader) (λ input. IsWrongInput beginning input fault)

-- At status 2 the input is no event lines or has no output lines.
abbrev pub RefusesCheck : {R : Type 0} → (R → Option (List ℕ)) → R → Fault → Type 0
RefusesCheck remaining reader fault = status_of fault ≡ 2 → IfSome (remaining reader) CannotBeChecked

-- A check that does not end well ends by such a fault.
abbrev pub ExplainsCheck : {R E : Type 0} → Beginning → (R → Option (List ℕ)) → R
    → (E → Option (List ℕ)) → E → E → Ending → Type 0
ExplainsCheck beginning remaining reader contents old new result =
    result.status ≢ 0 → EndsBy (IsWhy beginning remaining reader) beginning contents old new result

-- ---- as the code has them

abbrev pub output_line_of : Option (Bor (List ℕ)) → List (List ℕ)
output_line_of None = []
output_line_of (Some text) = (text.now ++ codes "\n") ∷ []

-- the lines of outputs, as the input should have them
abbrev pub lines_of_outputs : List OwnedOutput → List (List ℕ)
lines_of_outputs outputs = output_lines (outputs_of outputs)

-- what is said once all output lines of a text agreed: there are `found` of them, and the run has `count` outputs
abbrev pub IsEnd : ℕ → ℕ → Fault → Type 0
IsEnd found count NoOutputs = found ≡ 0
IsEnd found count (Lacks n) = (n ≡ found + 1) × (found < count) × (0 < found)
IsEnd found count other = ⊥

-- From this many outputs of these lines that agree, the line goes on to this many.
abbrev pub GoesOn : List (List ℕ) → List ℕ → ℕ → ℕ → Type 0
GoesOn all line old new = take new all ≡ take old all ++ output_line_in line

-- what may be wrong with the line of this number, after this many outputs of these lines that agree
abbrev pub IsWrongAt : ℕ → List (List ℕ) → List ℕ → ℕ → Fault → Type 0
IsWrongAt number all line next NoMemory = Unit {0}
IsWrongAt number all line next (Differs n) = (n ≡ number) × (IsFrontOf (take next all ++ output_line_in line) all → ⊥)
IsWrongAt number all line next other = ⊥
