-- What is told of the front of a reply's data, whatever follows it.
use Rattle.std.specs.Prelude.{◌≡◌, ◌⊎◌, ◌-◌, ◌<◌, ◌≤◌, ℕ, Bool, true, false, List, [], ◌++◌, length, drop, Option, Some, None, Result, Ok, Err}
use Rattle.std.specs.Global.{Vec}
use Rattle.rb_xdr.specs.declared.fault.XdrFault.{XdrFault}
use Rattle.rb_xdr.specs.Xdr.{Reader}
use Rattle.rb_xdr.specs.declared.fault.XdrFault.TheVariants as xdr
use Rattle.rb_show.specs.declared.fault.InfoFault.{InfoFault}
use Rattle.rb_show.specs.declared.fault.InfoFault.TheVariants.{Unreadable, Memory}
use Rattle.rb_show.specs.Telling.{Teller, add_lines, give, lines_text}
use Rattle.rb_show.specs.Telling.Told.{Stop}
use Rattle.rb_show.specs.Lists.{tell_items, greatest_list}
use Rattle.rb_show.specs.WholeLists.{take_items}
use Rattle.rb_show.specs.declared.take.Pause.{Pause}
use Rattle.rb_show.specs.declared.take.Pause.TheVariants.{More, Fault}

-- ---- a front

-- These lines are told, and then what `rest` tells of what stands after so many bytes.
abbrev pub GoesOn : {A : Type 0} → Teller A → List ℕ → List (List ℕ) → ℕ → Teller A → Type 0
GoesOn teller bytes lines used rest =
    (end : InfoFault) (more : List ℕ) → teller end (bytes ++ more) ≡ add_lines lines (rest end (drop used bytes ++ more))

-- without more bytes nothing is told
abbrev pub Lacks : {A : Type 0} → Teller A → List ℕ → Type 0
Lacks teller bytes = (end : InfoFault) → teller end bytes ≡ Stop [] end

-- whatever follows, nothing is told
abbrev pub Breaks : {A : Type 0} → Teller A → List ℕ → InfoFault → Type 0
Breaks teller bytes fault = (end : InfoFault) (more : List ℕ) → teller end (bytes ++ more) ≡ Stop [] fault

-- why nothing is told
abbrev pub Pauses : {A : Type 0} → Teller A → List ℕ → Pause → Type 0
Pauses teller bytes More = Lacks teller bytes
Pauses teller bytes (Fault fault) = (fault ≡ Memory) ⊎ Breaks teller bytes fault

-- ---- values

-- what a fault of XDR means: only of too few bytes more can make a value
abbrev pub pause_of : XdrFault → Pause
pause_of xdr.Short = More
pause_of xdr.TooLong = Fault Unreadable
pause_of xdr.BadBool = Fault Unreadable
pause_of xdr.BadPadding = Fault Unreadable

-- the value is given of so many bytes
pub record Takes {A : Type 0} (teller : Teller A) (bytes : List ℕ) (x : A) (used : ℕ) : Type 0 where
  pub within : used ≤ length bytes
  pub goes_on : GoesOn teller bytes [] used (give x)

abbrev pub TakesOr : {A : Type 0} → Teller A → List ℕ → Result (A × ℕ) Pause → Type 0
TakesOr teller bytes (Ok taken) = Takes teller bytes taken.0 taken.1
TakesOr teller bytes (Err pause) = Pauses teller bytes pause

-- ---- lines

-- lines were added to a text, and what is told after them is what `rest` tells after so many bytes
pub record Tells {A : Type 0} (teller : Teller A) (bytes : List ℕ) (used : ℕ) (rest : Teller A) (old new : List ℕ) : Type 0 where
  pub lines : List (List ℕ)
  pub some : 0 < used
  pub within : used ≤ length bytes
  pub text : new ≡ old ++ lines_text lines
  pub goes_on : GoesOn teller bytes lines used rest

-- or nothing was added
abbrev pub TellsOr : {A B : Type 0} → Teller A → List ℕ → (B → Teller A) → Vec ℕ → Vec ℕ → Result (B × ℕ) Pause → Type 0
TellsOr teller bytes rest old new (Ok told) = Tells teller bytes told.1 (rest told.0) old.items new.items
TellsOr teller bytes rest old new (Err pause) = (new.items ≡ old.items) × Pauses teller bytes pause

-- the line was added, or there was no memory for it
abbrev pub AddsLine : List ℕ → Vec ℕ → Vec ℕ → Result (Unit {0}) Pause → Type 0
AddsLine line old new (Ok added) = new.items ≡ old.items ++ line
AddsLine line old new (Err pause) = (new.items ≡ old.items) × (pause ≡ Fault Memory)

-- ---- items of lists

-- what is told of a list after so many items
abbrev pub items_from : {A : Type 0} → Reader A → (A → List ℕ) → ℕ → Teller ℕ
items_from reads line shown = tell_items reads line (greatest_list - shown) shown

abbrev pub items_after : {A : Type 0} → Reader A → (A → List ℕ) → ℕ → Option ℕ → Teller ℕ
items_after reads line shown (Some next) = items_from reads line next
items_after reads line shown None = give shown

abbrev pub ShowsItem : {A : Type 0} → Reader A → (A → List ℕ) → ℕ → List ℕ → Vec ℕ → Vec ℕ → Result (Option ℕ × ℕ) Pause → Type 0
ShowsItem reads line shown bytes old new result = TellsOr (items_from reads line shown) bytes (items_after reads line shown) old new result

-- what is taken of a list after these items
abbrev pub rest_items : {A : Type 0} → Reader A → List A → Teller (List A)
rest_items reads items = take_items reads (greatest_list - length items) items

abbrev pub taken_after : {A : Type 0} → Reader A → List A → Bool → Teller (List A)
taken_after reads items true = rest_items reads items
taken_after reads items false = give items

pub record TakesOne {A : Type 0} (reads : Reader A) (items items' : List A) (bytes : List ℕ) (more : Bool) (used : ℕ) : Type 0 where
  pub some : 0 < used
  pub within : used ≤ length bytes
  pub kept : more ≡ false → items' ≡ items
  pub goes_on : GoesOn (rest_items reads items) bytes [] used (taken_after reads items' more)

abbrev pub TakesItem : {A : Type 0} → Reader A → List A → List A → List ℕ → Result (Bool × ℕ) Pause → Type 0
TakesItem reads items items' bytes (Ok taken) = TakesOne reads items items' bytes taken.0 taken.1
TakesItem reads items items' bytes (Err pause) = (items' ≡ items) × Pauses (rest_items reads items) bytes pause
