-- Which texts are read as which rows; and what is kept of a state is read as its rows.
use Rattle.std.specs.Prelude.{◌≡◌, ◌≢◌, ◌↔◌, ⊤, ℕ, ◌==◌, ◌^◌, ◌<◌, ◌≤◌, nat_lt, Bool, true, false, ◌&&◌, List, [], ◌∷◌, ◌++◌, length, map, fold, All, Ok}
use Rattle.std.specs.List.{list_any}
use Rattle.rb_registry.specs.declared.row.Row.{Row}
use Rattle.rb_registry.specs.Rows.{Change, rpcb_prog}
use Rattle.rb_model.specs.State.{State}
use Rattle.rb_model.specs.ChangeLaws.{set_rows, set_call, IsSpelled, IsReachedByBytes}
use Rattle.rb_lines.specs.Lines.{line, lines_of, longest_input}
use Rattle.rb_lines.specs.Lines.Line.{Happens}
use Rattle.rb_keep.specs.declared.reading.KeptLine.{KeptLine}
use Rattle.rb_keep.specs.declared.reading.KeptLine.TheVariants.{Skipped, Keeps, Removes, NotKept, Bad}
use Rattle.rb_keep.specs.Kept.{kept_text, unset_call, AreOwners, change_text, owners_after, Changed, changes_text, last_state}
use Rattle.rb_keep.specs.Reading.{kept_line, without, most_rows, whole_part, read}

-- ---- lines

-- The line says the event that sets the row again, at some moment.
-- KEEP-4
pub record SetsAgain (text : List ℕ) (row : Row) : Type 0 where
  pub now : ℕ
  pub event : line text ≡ Happens (set_call now row)

-- The line says the event that removes the row alone, at some moment.
-- KEEP-11
pub record RemovesIt (text : List ℕ) (row : Row) : Type 0 where
  pub now : ℕ
  pub event : line text ≡ Happens (unset_call now row)

-- A line keeps no row but the one that it sets again.
-- KEEP-4
abbrev pub LinesKeepTheirRows : Type 0
LinesKeepTheirRows = (text : List ℕ) (row : Row) → kept_line text ≡ Keeps row → SetsAgain text row

-- A line takes no row out but the one that it removes.
-- KEEP-4
abbrev pub LinesRemoveTheirRows : Type 0
LinesRemoveTheirRows = (text : List ℕ) (row : Row) → kept_line text ≡ Removes row → RemovesIt text row

-- If bytes can spell a row, at an address of at most 128 bytes, a line that sets it again keeps it.
abbrev pub LinesOfRowsKeepThem : Type 0
LinesOfRowsKeepThem = (text : List ℕ) (row : Row) → IsSpelled row → length row.addr ≤ 128 → SetsAgain text row → kept_line text ≡ Keeps row

-- ---- texts

abbrev pub is_wrong : KeptLine → Bool
is_wrong Skipped = false
is_wrong (Keeps row) = false
is_wrong (Removes row) = false
is_wrong NotKept = true
is_wrong Bad = true

-- the rows after a line
abbrev pub rows_after : List Row → KeptLine → List Row
rows_after rows Skipped = rows
rows_after rows (Keeps row) = rows ++ row ∷ []
rows_after rows (Removes row) = without row rows
rows_after rows NotKept = rows
rows_after rows Bad = rows

-- there is room for each row that is added
abbrev pub are_few : List Row → List KeptLine → Bool
are_few rows [] = true
are_few rows (Skipped ∷ more) = are_few rows more
are_few rows (Keeps row ∷ more) = nat_lt (length rows) most_rows && are_few (rows ++ row ∷ []) more
are_few rows (Removes row ∷ more) = are_few (without row rows) more
are_few rows (NotKept ∷ more) = are_few rows more
are_few rows (Bad ∷ more) = are_few rows more

-- what each line of a text keeps, up to its last line feed
abbrev pub kept_lines : List ℕ → List KeptLine
kept_lines text = map kept_line (lines_of (whole_part text))

-- A text reads as these rows exactly if it is short enough, no line is wrong, they are what its lines leave, one
-- after another, and they never are more than there may be.
-- KEEP-5
abbrev pub ReadsTheRows : Type 0
ReadsTheRows =
    (text : List ℕ) (rows : List Row)
    → (read text ≡ Ok rows)
    ↔ ((length text ≤ longest_input) × (list_any is_wrong (kept_lines text) ≡ false) × (are_few [] (kept_lines text) ≡ true) × (rows ≡ fold rows_after [] (kept_lines text)))

-- What is kept of a state that a run of bytes reaches, by a moment of 64 bits and with no more rows than there may
-- be, is read as the rows that were set, in their order.
-- KEEP-7: What is kept of a state that a run of bytes reaches is read as its rows.
abbrev pub KeptTextIsRead : Type 0
KeptTextIsRead =
    (s : State) → IsReachedByBytes s → s.clock < 2 ^ 64 → length (set_rows s) ≤ most_rows
    → read (kept_text s) ≡ Ok (set_rows s)

-- ---- one change after another

-- A run of bytes reaches it, by a moment of 64 bits and with no more rows than there may be.
pub record CanBeKept (s : State) : Type 0 where
  pub reached : IsReachedByBytes s
  pub clock : s.clock < 2 ^ 64
  pub few : length (set_rows s) ≤ most_rows

-- One more change was accepted before the state, and something is written of it.
pub record IsChanged (s : State) (owners : List (ℕ × ℕ)) (c : Changed) : Type 0 where
  pub can : CanBeKept c.state
  pub change : Change
  pub more : c.state.ledger.changes ≡ s.ledger.changes ++ change ∷ []
  pub other : (c.prog == rpcb_prog) ≡ false
  pub vers : c.vers < 2 ^ 32
  pub some : change_text c.state c.prog c.vers owners ≢ []

-- So it is from each of these states to the next, while the owners of the rows are noted.
abbrev pub AreChanged : State → List (ℕ × ℕ) → List Changed → Type 0
AreChanged s owners [] = ⊤
AreChanged s owners (c ∷ more) = IsChanged s owners c × AreChanged c.state (owners_after c.state c.prog c.vers owners) more

-- No rows have no owners.
abbrev pub NoneHasNone : Type 0
NoneHasNone = AreOwners [] []

-- The owners that are noted at a change are those of the rows after it.
-- KEEP-12
abbrev pub OwnersGoOn : Type 0
OwnersGoOn =
    (s : State) (owners : List (ℕ × ℕ)) (c : Changed) → CanBeKept s → AreOwners owners (set_rows s) → IsChanged s owners c
    → AreOwners (owners_after c.state c.prog c.vers owners) (set_rows c.state)

-- no byte is a line feed
abbrev pub HasNoFeed : List ℕ → Type 0
HasNoFeed bytes = All (λ byte. (byte == 10) ≡ false) bytes

-- What is kept of a state, and the lines of the changes after it, one after another, are read as the rows of the last
-- state, in their order, also with a line behind them that was not written to its end.
-- KEEP-14: What is kept of a state, with the lines of the changes after it, is read as the rows after
-- the last one, whatever part of one more line stands behind them.
abbrev pub ChangesAreRead : Type 0
ChangesAreRead =
    (s : State) (owners : List (ℕ × ℕ)) (changed : List Changed) → CanBeKept s → AreOwners owners (set_rows s) → AreChanged s owners changed
    → (torn : List ℕ) → HasNoFeed torn
    → length ((kept_text s ++ changes_text owners changed) ++ torn) ≤ longest_input
    → read ((kept_text s ++ changes_text owners changed) ++ torn) ≡ Ok (set_rows (last_state s changed))
