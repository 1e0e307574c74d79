-- What is printed as objects is lines of JSON, whatever reply comes.
use Rattle.std.specs.Prelude.{◌≡◌, ◌≢◌, ℕ, Bool, true, false, List, ◌++◌, codes, Option, Result, Err}
use Rattle.std.specs.List.{AllByRecursion, list_all}
use Rattle.std.specs.Io.KnownBytes.{Appends}
use Rattle.rb_xdr.specs.Xdr.{AreBytes}
use Rattle.rb_show.specs.declared.fault.InfoFault.{InfoFault}
use Rattle.rb_show.specs.declared.fault.InfoFault.TheVariants.{Write}
use Rattle.rb_show.specs.Telling.{Outcome, told_lines, lines_text}
use Rattle.rb_show.specs.declared.ask.Ask.{Ask}
use Rattle.rb_show.specs.declared.ask.Question.{Question}
use Rattle.rb_show.specs.declared.ask.Question.TheVariants.{Rows, OldRows, Pmap, Entries, Stats}
use Rattle.rb_show.specs.declared.form.Form.TheVariants.{Json}
use Rattle.rb_show.specs.declared.show.Shown.{Shown}
use Rattle.rb_show.specs.JsonLaws.{is_printable}
use Rattle.rb_show.specs.JsonGrammar.{IsObject, IsText}
use Rattle.rb_show.specs.Replies.{tell_bytes}

-- the questions whose replies are shown as objects
abbrev pub has_objects : Question → Bool
has_objects Rows = true
has_objects OldRows = true
has_objects Pmap = true
has_objects (Entries prog vers) = true
has_objects Stats = true
has_objects question = false

-- JSON-3: With `--json` each line is one object of the grammar of RFC 8259 in printable ASCII.
pub record IsObjectLine (line : List ℕ) : Type 0 where
  pub object : List ℕ
  pub is : line ≡ object ++ codes "\n"
  pub is_object : IsObject object
  pub printable : list_all is_printable object ≡ true

-- such a line is a text of JSON
abbrev pub ObjectLinesAreTexts : Type 0
ObjectLinesAreTexts = (line : List ℕ) → IsObjectLine line → IsText line

-- Each line that a reply tells is an object, whatever its bytes are, wherever it is cut, and whatever is wrong with it.
abbrev pub EachLineIsAnObject : Type 0
EachLineIsAnObject =
    (ask : Ask) (xid : ℕ) (bytes : List ℕ) → has_objects ask.question ≡ true → AreBytes bytes
    → AllByRecursion IsObjectLine (told_lines (tell_bytes ask Json xid bytes))

-- lines of objects were written, or nothing
pub record WritesObjects (old new : Option (List ℕ)) : Type 0 where
  pub lines : List (List ℕ)
  pub are : AllByRecursion IsObjectLine lines
  pub written : Appends old new (lines_text lines)

-- What is written of a reply is whole lines of objects unless the writer failed: also if the reply ends too early, can't
-- be read or is a refusal, if its list is too long, and if memory is short.
abbrev pub OnlyObjectsAreWritten : Type 0
OnlyObjectsAreWritten =
    (ask : Ask) (xid : ℕ) (bytes : List ℕ) (old new : Option (List ℕ)) (result : Result Shown InfoFault)
    → has_objects ask.question ≡ true → AreBytes bytes → Outcome (tell_bytes ask Json xid bytes) old new result
    → result ≢ Err Write → WritesObjects old new
