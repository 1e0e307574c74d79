-- What a text says, by what each of its lines says.
use Rattle.std.specs.Prelude.{◌≡◌, ◌↔◌, ℕ, ◌+◌, ◌<◌, ◌≤◌, Bool, true, false, List, [], ◌∷◌, ◌++◌, length, map, Ok, Err}
use Rattle.std.specs.List.{list_any, flat_map}
use Rattle.rb_model.specs.Step.{Event}
use Rattle.rb_lines.specs.declared.lines.ReadFault.TheVariants.{BadLine, TooLong}
use Rattle.rb_lines.specs.Lines.{Line, line, lines_of, longest_input, read}
use Rattle.rb_lines.specs.Lines.Line.{Skipped, Happens, Bad}

abbrev pub is_bad : Line → Bool
is_bad Skipped = false
is_bad (Happens event) = false
is_bad Bad = true

abbrev pub event_in : Line → List Event
event_in Skipped = []
event_in (Happens event) = event ∷ []
event_in Bad = []

abbrev pub has_bad : List (List ℕ) → Bool
has_bad texts = list_any is_bad (map line texts)

-- A text reads as these events exactly if it is short enough, no line is bad, and they are those of its lines.
abbrev pub ReadsTheEvents : Type 0
ReadsTheEvents =
    (text : List ℕ) (events : List Event)
    → (read text ≡ Ok events) ↔ ((length text ≤ longest_input) × (has_bad (lines_of text) ≡ false)
    × (events ≡ flat_map event_in (map line (lines_of text))))

-- The n-th of the texts, counted from this number, is bad, and none before it is.
pub record IsFirstBad (texts : List (List ℕ)) (from n : ℕ) : Type 0 where
  pub before : List (List ℕ)
  pub bad : List ℕ
  pub after : List (List ℕ)
  pub whole : texts ≡ before ++ bad ∷ after
  pub good : has_bad before ≡ false
  pub here : line bad ≡ Bad
  pub number : n ≡ from + length before

-- A text is refused at this line exactly if it is short enough and this is its first bad line, counted from 1.
-- LINE-11: The error message names the first bad line by its number from 1, the status is 2, and no
-- event is run.
abbrev pub StopsAtTheFirstBadLine : Type 0
StopsAtTheFirstBadLine =
    (text : List ℕ) (n : ℕ)
    → (read text ≡ Err (BadLine n)) ↔ ((length text ≤ longest_input) × IsFirstBad (lines_of text) 1 n)

-- A text is too long exactly if it has more bytes than the longest input, whatever they say.
-- LINE-12: An input of more than 16,777,216 bytes is too long, with status 2, and no event is run.
abbrev pub RefusesLongText : Type 0
RefusesLongText = (text : List ℕ) → (read text ≡ Err TooLong) ↔ (longest_input < length text)
