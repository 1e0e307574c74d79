-- What a reply tells, line by line, and when a program tells it.
use Rattle.std.specs.Prelude.{◌≡◌, ◌⊎◌, ℕ, List, [], ◌++◌, drop, Option, Result, Ok, Err}
use Rattle.std.specs.List.{flat_map}
use Rattle.std.specs.Io.KnownBytes.{Appends, Keeps}
use Rattle.rb_xdr.specs.Xdr.{Reader, Reading}
use Rattle.rb_xdr.specs.declared.fault.XdrFault.TheVariants as faults
use Rattle.rb_show.specs.declared.fault.InfoFault.TheVariants.{Write, Unreadable, Memory}
pub use Rattle.rb_show.specs.declared.fault.InfoFault.{InfoFault}

-- ---- what is told

-- Lines, and then a value with the data after it, or the reason why there is none.
pub data Told (A : Type 0) : Type 0 where
  Done : List (List ℕ) → A → List ℕ → Told A
  Stop : List (List ℕ) → InfoFault → Told A

-- from the front of data, of which it is known what is wrong if more is needed than there is
abbrev pub Teller : Type 0 → Type 0
Teller A = InfoFault → List ℕ → Told A

-- after these lines
abbrev pub add_lines : {A : Type 0} → List (List ℕ) → Told A → Told A
add_lines lines (Done more x left) = Done (lines ++ more) x left
add_lines lines (Stop more fault) = Stop (lines ++ more) fault

abbrev pub tell_on : {A B : Type 0} → Told A → (A → List ℕ → Told B) → Told B
tell_on (Done lines x left) next = add_lines lines (next x left)
tell_on (Stop lines fault) next = Stop lines fault

-- one after the other, up to the first that stops
infixl 10 ◌>>=◌
unfoldable pub ◌>>=◌ : {A B : Type 0} → Teller A → (A → Teller B) → Teller B
first >>= next = λ end content. tell_on (first end content) (λ x. next x end)

abbrev pub give : {A : Type 0} → A → Teller A
give x = λ end content. Done [] x content

abbrev pub stop : {A : Type 0} → InfoFault → Teller A
stop fault = λ end content. Stop [] fault

-- these lines
abbrev pub tell : List (List ℕ) → Teller (Unit {0})
tell lines = λ end content. Done lines tt content

-- if more bytes could make a value of it, the data ends too early
-- DATA-3
abbrev pub told_by : {A : Type 0} → InfoFault → Reading A → List ℕ → Told A
told_by end (Ok read) content = Done [] read.0 (drop read.1 content)
told_by end (Err faults.Short) content = Stop [] end
told_by end (Err faults.TooLong) content = Stop [] Unreadable
told_by end (Err faults.BadBool) content = Stop [] Unreadable
told_by end (Err faults.BadPadding) content = Stop [] Unreadable

-- a value of XDR
-- DATA-5: Bytes after a value count for nothing in it.
unfoldable pub take_one : {A : Type 0} → Reader A → Teller A
take_one reads = λ end content. told_by end (reads content) content

-- ---- when a program tells it

abbrev pub lines_text : List (List ℕ) → List ℕ
lines_text lines = flat_map (λ (line : List ℕ). line) lines

abbrev pub told_lines : {A : Type 0} → Told A → List (List ℕ)
told_lines (Done lines x left) = lines
told_lines (Stop lines fault) = lines

-- These are all the lines, and the value, or the reason why there is none.
abbrev pub EndsIn : {A : Type 0} → Told A → List (List ℕ) → Result A InfoFault → Type 0
EndsIn told lines (Ok x) = (left : List ℕ) × (told ≡ Done lines x left)
EndsIn told lines (Err fault) = told ≡ Stop lines fault

-- all the lines were written
pub record IsShown {A : Type 0} (told : Told A) (old new : Option (List ℕ)) (result : Result A InfoFault) : Type 0 where
  pub lines : List (List ℕ)
  pub ends : EndsIn told lines result
  pub written : Appends old new (lines_text lines)

-- Nothing is known of what was written if the writer failed, and nothing was written if there was no memory.
abbrev pub IsNotShown : {A : Type 0} → Option (List ℕ) → Option (List ℕ) → Result A InfoFault → Type 0
IsNotShown old new result = (result ≡ Err Write) ⊎ ((result ≡ Err Memory) × Keeps old new)

-- what a program wrote of what is told, and how it ended
abbrev pub Outcome : {A : Type 0} → Told A → Option (List ℕ) → Option (List ℕ) → Result A InfoFault → Type 0
Outcome told old new result = IsNotShown old new result ⊎ IsShown told old new result
