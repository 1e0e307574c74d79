-- Whole walks over the rows as they were, with other calls between.
use Rattle.std.specs.Prelude.{◌≡◌, ◌≤◌, ℕ, List, [], ◌∷◌, take, Option, Some}
use Rattle.rb_registry.specs.declared.row.Row.{Row}
use Rattle.rb_registry.specs.Rows.{Change, live}
use Rattle.rb_registry.specs.Registry.{Registry, StandsForChanges, rows_passed}
use Rattle.rb_registry.specs.Cursors.{StandsIn, PassesOne, IsAtEnd, row_behind, GoesOn}

-- what happens in a walk: the next row is given, with the cursor after it, or another call leaves the registry so
pub data WalkStep : Type 0 where
  Given : Option ℕ → Row → WalkStep
  Changed : Registry → WalkStep

abbrev pub rows_given : List WalkStep → List Row
rows_given [] = []
rows_given (Given next row ∷ later) = row ∷ rows_given later
rows_given (Changed new ∷ later) = rows_given later

-- as `next_row` gives it
pub record Gives (kept : Registry) (stamp : ℕ) (cursor next : Option ℕ) (row : Row) : Type 0 where
  pub here : row_behind kept stamp cursor ≡ Some row
  pub place : StandsIn kept stamp next
  pub passed : PassesOne kept stamp cursor next

-- A walk goes on from each of its steps while the floor isn't above its stamp, and ends when there is no row.
abbrev pub IsWalk : ℕ → Registry → Option ℕ → List WalkStep → Type 0
IsWalk stamp kept cursor [] = IsAtEnd kept stamp cursor
IsWalk stamp kept cursor (Given next row ∷ later) = Gives kept stamp cursor next row × IsWalk stamp kept next later
IsWalk stamp kept cursor (Changed new ∷ later) = GoesOn kept new × (new.floor ≤ stamp) × IsWalk stamp new cursor later

-- LIST-2: A list for a stamp shows the rows that were live after that many changes, whatever is set
-- and removed on the way, as long as no trim raises the floor above the stamp.
abbrev pub WalksGiveRowsAsTheyWere : Type 0
WalksGiveRowsAsTheyWere = (own : List Row) (changes : List Change) (kept : Registry) (stamp : ℕ) (cursor : Option ℕ) (steps : List WalkStep)
    → StandsForChanges kept own changes → StandsIn kept stamp cursor → rows_passed kept stamp cursor ≡ 0 → IsWalk stamp kept cursor steps
    → rows_given steps ≡ live own (take stamp changes)
