-- Why the words can't be had, and what is told and shown, with which status, by words that run nothing.
use Rattle.std.specs.Prelude.{◌≡◌, ℕ, ◌⊎◌, List, Option}
use Rattle.std.specs.declared.io.ErrorKind.{ErrorKind}
use Rattle.std.specs.declared.io.ErrorKind.TheVariants.{OutOfMemory}
use Rattle.clap.specs.declared.error.kind.ErrorKind.{ErrorKind as Kind}
use Rattle.clap.specs.declared.error.kind.ErrorKind.TheVariants as kinds
use Rattle.rb_lines.specs.declared.faults.Ending.{Ending}
use Rattle.rb_lines.specs.declared.faults.Fault.{Fault}
use Rattle.rb_lines.specs.declared.faults.Fault.TheVariants.{NotText, NoMemory, WriteFailed}
use Rattle.rb_lines.specs.Faults.{status_of, fault_line, Says}

-- WORD-2: If the words can't be obtained, lack of memory is said if memory was refused, and
-- otherwise that a word is no text.
abbrev pub words_fault : ErrorKind → Fault
words_fault OutOfMemory = NoMemory
words_fault _ = NotText

-- why the words can't be had
abbrev pub IsOfWords : Fault → Type 0
IsOfWords fault = (fault ≡ NoMemory) ⊎ (fault ≡ NotText)

-- it ends by this fault, with its status and its line
abbrev pub EndsByFault : {E : Type 0} → (E → Option (List ℕ)) → E → E → Ending → Fault → Type 0
EndsByFault contents faults faults' ending fault =
    (ending.status ≡ status_of fault) × Says contents faults faults' ending (fault_line fault)

-- it ends well, and nothing is told
abbrev pub EndsWell : {E : Type 0} → E → E → Ending → Type 0
EndsWell faults faults' ending = (ending.status ≡ 0) × (faults' ≡ faults)

-- Help and the version end it well, unless they can't be written; lack of memory is told; and any other words that run nothing
-- are told what is wrong, and nothing is shown.
-- WORD-3
abbrev pub EndsWith : {E O : Type 0} → (E → Option (List ℕ)) → E → E → O → O → Kind → Ending → Type 0
EndsWith contents faults faults' output output' kinds.OutOfMemory ending = EndsByFault contents faults faults' ending NoMemory
EndsWith contents faults faults' output output' kinds.DisplayHelp ending =
    EndsWell faults faults' ending ⊎ EndsByFault contents faults faults' ending WriteFailed
EndsWith contents faults faults' output output' kinds.DisplayVersion ending =
    EndsWell faults faults' ending ⊎ EndsByFault contents faults faults' ending WriteFailed
EndsWith contents faults faults' output output' _ ending = (ending.status ≡ 2) × (output' ≡ output)

-- the words run nothing, for a reason of some kind
pub record EndsUnrun {E O : Type 0} (contents : E → Option (List ℕ)) (faults faults' : E) (output output' : O) (ending : Ending) : Type 0 where
  pub kind : Kind
  pub ends : EndsWith contents faults faults' output output' kind ending
