-- A reply that is told as its data comes.
use Rattle.std.specs.Prelude.{◌≡◌, ◌⊎◌, ℕ, List, ◌++◌, drop, Option, Some, None, Result, Ok, Err}
use Rattle.std.specs.Global.{Vec}
use Rattle.rb_show.specs.declared.fault.InfoFault.{InfoFault}
use Rattle.rb_show.specs.declared.fault.InfoFault.TheVariants.{Memory}
use Rattle.rb_show.specs.Telling.{Teller, give, lines_text}
use Rattle.rb_show.specs.Telling.Told.{Stop}
use Rattle.rb_show.specs.declared.show.Shown.{Shown}
use Rattle.rb_show.specs.declared.take.Pause.{Pause}
use Rattle.rb_show.specs.declared.telling.Telling.{Telling}
use Rattle.rb_show.specs.declared.telling.At.{At}
use Rattle.rb_show.specs.declared.telling.At.TheVariants.{Head, Results}
use Rattle.rb_show.specs.Fronts.{GoesOn, Lacks, Pauses, Tells}
use Rattle.rb_show.specs.Stages.{rest_at, done_of}
use Rattle.rb_show.specs.Replies.{tell_reply}

-- ---- one step after the other

abbrev pub rest_from : Telling → At → Teller Shown
rest_from t Head = tell_reply t.ask t.form t.xid
rest_from t (Results stage) = rest_at t.form t.rows.items t.mappings.items stage

-- what is told of the data that was not used yet
abbrev pub rest_of : Telling → Teller Shown
rest_of t = rest_from t t.at

abbrev pub done_at : At → Option Shown
done_at Head = None
done_at (Results stage) = done_of stage

-- one value was read, and what it tells was added to the text
abbrev pub StepsTo : Telling → Telling → List ℕ → Vec ℕ → Vec ℕ → Result ℕ Pause → Type 0
StepsTo old new bytes text text' (Ok used) = Tells (rest_of old) bytes used (rest_of new) text.items text'.items
StepsTo old new bytes text text' (Err pause) = (rest_of new ≡ rest_of old) × (text'.items ≡ text.items) × Pauses (rest_of old) bytes pause

-- after these lines more bytes are needed, or something was shown, or nothing more is told
abbrev pub UpTo : Telling → Telling → List ℕ → List (List ℕ) → ℕ → Result (Option Shown) InfoFault → Type 0
UpTo old new bytes lines used (Ok None) = GoesOn (rest_of old) bytes lines used (rest_of new) × Lacks (rest_of new) (drop used bytes)
UpTo old new bytes lines used (Ok (Some shown)) = GoesOn (rest_of old) bytes lines used (give shown)
UpTo old new bytes lines used (Err fault) = (end : InfoFault) (more : List ℕ) → rest_of old end (bytes ++ more) ≡ Stop lines fault

-- All that the bytes tell was added to the text.
pub record TellsAll (old new : Telling) (bytes text text' : List ℕ) (used : ℕ) (result : Result (Option Shown) InfoFault) : Type 0 where
  pub lines : List (List ℕ)
  pub written : text' ≡ text ++ lines_text lines
  pub up_to : UpTo old new bytes lines used result

-- or there was no memory
abbrev pub TellsAllOr : Telling → Telling → List ℕ → Vec ℕ → Vec ℕ → ℕ × Result (Option Shown) InfoFault → Type 0
TellsAllOr old new bytes text text' told = (told.1 ≡ Err Memory) ⊎ TellsAll old new bytes text.items text'.items told.0 told.1
