-- What the keeper of rows makes of a core.
use Rattle.std.specs.Prelude.{◌≡◌, ℕ, ◌+◌, ◌<◌, ◌==◌, nat_le, Bool, true, false, ◌||◌, IsTrue, if◌then◌else◌, List, [], ◌++◌, length, Option, Some, None}
use Rattle.std.specs.declared.io.Error.{Error}
use Rattle.rb_registry.specs.Rows.{rpcb_prog}
use Rattle.rb_model.specs.State.{State}
use Rattle.rb_model.specs.Step.{IsReached}
use Rattle.rb_connections.specs.Slots.{Shows}
use Rattle.rb_core.specs.StandsFor.{CoreView, StandsFor}
use Rattle.rb_keep.specs.Kept.{kept_text, change_text}
use Rattle.rb_engine.specs.Writing.{NotesOwners}
use Rattle.rb_files.specs.Kept.{Grows, WasWritten}
use Rattle.rb_engine.specs.declared.engine.Engine.{Engine}
use Rattle.rb_settings.specs.declared.news.KeepNews.{KeepNews}
use Rattle.rb_settings.specs.declared.news.KeepNews.TheVariants as told
use Rattle.rb_engine.specs.Served.{change_count}

-- the most changes whose lines are added at once
abbrev pub most_changes : ℕ
most_changes = 64

-- These are the lines of all rows that were set, in each state that a run reaches and that the core stands for.
-- KEEP-3
abbrev pub AreLinesOfRows : CoreView → List ℕ → Type 0
AreLinesOfRows core text = (s : State) → StandsFor core s → IsReached s → text ≡ kept_text s

-- The text has grown by the lines of what changed of a version of a program, which is not the portmapper's, since these
-- were the owners of the rows, in each state that the core stands for.
-- KEEP-12
abbrev pub AddsLinesOf : CoreView → ℕ → ℕ → List (ℕ × ℕ) → List ℕ → List ℕ → Type 0
AddsLinesOf core prog vers owners old new =
    (s : State) → StandsFor core s → (prog == rpcb_prog) ≡ false → new ≡ old ++ change_text s prog vers owners

-- So it has for a version of a program, by one line at least, and these are the owners after it.
pub record AddsLines (core : CoreView) (owners after : List (ℕ × ℕ)) (old new : List ℕ) : Type 0 where
  pub prog : ℕ
  pub vers : ℕ
  pub other : (prog == rpcb_prog) ≡ false
  pub some : length old < length new
  pub lines : AddsLinesOf core prog vers owners old new
  pub owned : NotesOwners core prog vers owners after

-- The lines that are written next, of so many changes: they begin anew after a write, and if there were too many.
-- KEEP-15
abbrev pub lines_next : ℕ → List ℕ → List ℕ
lines_next changes text = if changes == 0 || nat_le most_changes changes then [] else text

-- There were as many changes as were noted; or one more, whose lines stand behind those that were written next.
-- KEEP-19
pub data Notes (core : CoreView) (noted : ℕ) (owners after : List (ℕ × ℕ)) (changes : ℕ) (old new : List ℕ) : Type 0 where
  Unchanged : Shows StandsFor change_count core noted → after ≡ owners → new ≡ old → Notes core noted owners after changes old new
  Adds : Shows StandsFor change_count core (noted + 1) → AddsLines core owners after (lines_next changes old) new → Notes core noted owners after changes old new

-- The file has taken the lines that were gathered, if each change was noted; or those of all rows, and is new.
-- KEEP-15
pub data Takes {P F : Type 0} (core : CoreView) (is_known : Bool) (gathered : List ℕ) (old new : Option P) (file : P → F) (contents : F → Option (List ℕ)) : Type 0 where
  Added : IsTrue is_known → Grows old new file contents gathered → Takes core is_known gathered old new file contents
  Anew : (text : List ℕ) → AreLinesOfRows core text → WasWritten new file contents text → Takes core is_known gathered old new file contents

-- The file has taken the lines that were gathered, with those of a last change behind them; or those of all rows, and is new.
-- KEEP-16
pub data Writes {P F : Type 0} (core : CoreView) (noted : ℕ) (owners : List (ℕ × ℕ)) (changes : ℕ) (gathered : List ℕ) (old new : Option P) (file : P → F) (contents : F → Option (List ℕ)) : Type 0 where
  Added : (after : List (ℕ × ℕ)) → (text : List ℕ) → Notes core noted owners after changes gathered text → Grows old new file contents text → Writes core noted owners changes gathered old new file contents
  Anew : (text : List ℕ) → AreLinesOfRows core text → WasWritten new file contents text → Writes core noted owners changes gathered old new file contents

-- Nothing is to be kept; or that failed, which is told; or it was written.
-- KEEP-16
pub data Keeps {J : Type 0} (old new : Option J) (has_failed : Bool) (is_written : J → J → Type 0) : Type 0 where
  NotAsked : old ≡ None → Keeps old new has_failed is_written
  Failed : has_failed ≡ true → Keeps old new has_failed is_written
  Written : (before after : J) → old ≡ Some before → new ≡ Some after → is_written before after → Keeps old new has_failed is_written

-- Nothing is to be kept; or as many changes were taken up as were made.
-- KEEP-16
pub data AreTaken {J : Type 0} (journal : Option J) (taken changes : ℕ) : Type 0 where
  NotAsked : journal ≡ None → AreTaken journal taken changes
  Taken : changes ≡ taken → AreTaken journal taken changes

-- Nothing has changed but how many steps were counted.
pub record SameEngine (old new : Engine) : Type 0 where
  pub core : new.core.core ≡ old.core.core
  pub tape : new.tape ≡ old.tape
  pub moment : new.moment ≡ old.moment

-- ---- what is told of the file

-- What is to be told after a write that went well: that it is written again, once a failure was told, and else that another
-- file was in its place.
-- KEEP-16
abbrev pub news_if_written : Bool → Option KeepNews → Bool → Option KeepNews
news_if_written true (Some untold) is_another = None
news_if_written true None is_another = Some told.Written
news_if_written false untold true = Some told.Another
news_if_written false untold false = untold

-- After one that failed: the failure, if it is the first.
-- KEEP-16
abbrev pub news_if_failed : Bool → Option KeepNews → Error → Option KeepNews
news_if_failed true untold error = untold
news_if_failed false untold error = Some (told.Failed error)
