-- The rows that a cursor goes over, as they were after this many changes.
use Rattle.std.specs.Prelude.{◌≡◌, ◌≤◌, ℕ, ◌+◌, List, length, take, slice_get, Option, IsSome}
use Rattle.rb_xdr.specs.Places.{count_passed}
use Rattle.rb_registry.specs.declared.row.Row.{Row}
use Rattle.rb_registry.specs.Rows.{Change, live}
use Rattle.rb_registry.specs.Registry.{Registry, table_of, rows_at, Reaches, StandsForChanges, rows_passed}
use Rattle.rb_registry.specs.Table.{count_left}

-- they are the rows that those changes left
abbrev pub RowsAreLive : Registry → ℕ → Type 0
RowsAreLive kept stamp = (own : List Row) (changes : List Change) → StandsForChanges kept own changes → rows_at kept stamp ≡ live own (take stamp changes)

-- A cursor stands among the rows that were live after this many changes, before all of them or after one.
-- LIST-1
pub record StandsIn (kept : Registry) (stamp : ℕ) (cursor : Option ℕ) : Type 0 where
  pub reached : Reaches kept stamp
  pub place : IsSome (count_passed (table_of kept stamp) cursor)

-- after it the next cursor has passed one more
-- LIST-1
abbrev pub PassesOne : Registry → ℕ → Option ℕ → Option ℕ → Type 0
PassesOne kept stamp cursor next = rows_passed kept stamp next ≡ rows_passed kept stamp cursor + 1

-- it has passed no more than there are
abbrev pub IsWithin : Registry → ℕ → Option ℕ → Type 0
IsWithin kept stamp cursor = rows_passed kept stamp cursor ≤ length (rows_at kept stamp)

-- it has passed them all
abbrev pub IsAtEnd : Registry → ℕ → Option ℕ → Type 0
IsAtEnd kept stamp cursor = rows_passed kept stamp cursor ≡ length (rows_at kept stamp)

-- the row after it
abbrev pub row_behind : Registry → ℕ → Option ℕ → Option Row
row_behind kept stamp cursor = slice_get (rows_at kept stamp) (rows_passed kept stamp cursor)

-- how many rows, live or retained, are after it: a walk pays 2 steps for each
abbrev pub slots_left : Registry → Option ℕ → ℕ
slots_left kept cursor = count_left kept.entries cursor

-- From the new floor on the rows are those of before the call, and each cursor stands where it stood.
pub record GoesOn (old new : Registry) : Type 0 where
  pub rows : (stamp : ℕ) → new.floor ≤ stamp → stamp ≤ old.stamp → rows_at new stamp ≡ rows_at old stamp
  pub place : (stamp : ℕ) (cursor : Option ℕ) → new.floor ≤ stamp → StandsIn old stamp cursor → StandsIn new stamp cursor
  pub passed : (stamp : ℕ) (cursor : Option ℕ) → new.floor ≤ stamp → StandsIn old stamp cursor → rows_passed new stamp cursor ≡ rows_passed old stamp cursor
