-- What a registry keeps, and the changes that it stands for.
use Rattle.std.specs.Prelude.{◌≡◌, ◌≤◌, ℕ, ◌+◌, ◌==◌, if◌then◌else◌, IsTrue, List, [], ◌∷◌, length, take, Option, unwrap_or}
use Rattle.std.specs.Map.{values_of}
use Rattle.std.specs.List.{list_all, filter_map}
use Rattle.rb_xdr.specs.Places.{count_passed}
use Rattle.rb_registry.specs.declared.row.Row.{Row}
use Rattle.rb_registry.specs.declared.slot.Slot.{Slot}
use Rattle.rb_registry.specs.Slots.{is_live_at, slots_from}
use Rattle.rb_registry.specs.Rows.{Change, rpcb_prog, live}

-- ---- the table as it was

-- The rows that were live after n changes, under their keys and in order.
abbrev pub table_at : ℕ → List (ℕ × Slot) → List (ℕ × Row)
table_at n [] = []
table_at n (e ∷ rest) = if is_live_at n e.1 then (e.0, e.1.row) ∷ table_at n rest else table_at n rest

-- LIST-2
abbrev pub live_at : ℕ → List (ℕ × Slot) → List Row
live_at n entries = values_of (table_at n entries)

-- the changes that removed the retained ones of these, in the order of the rows
abbrev pub removals : List (ℕ × Slot) → List ℕ
removals entries = filter_map (λ slot. slot.removed) (values_of entries)

-- ---- the registry

-- the rows with their changes, under their keys, how many there may be, the memory that the table holds (as of a
-- `Pool`) and how many numbers that of the index, how many changes were accepted, the least number of changes after
-- which the rows can be listed, and the number of the meter that counts the steps
pub record Registry : Type 0 where
  pub entries : List (ℕ × Slot)
  pub limit : ℕ
  pub memory : (ℕ × ℕ) × ℕ
  pub stamp : ℕ
  pub floor : ℕ
  pub tie : ℕ

-- the limit, the memory and the meter stay
pub record SameFrame (old new : Registry) : Type 0 where
  pub limit : new.limit ≡ old.limit
  pub memory : new.memory ≡ old.memory
  pub tie : new.tie ≡ old.tie

-- the live rows, and the retained ones
abbrev pub slots_of : Registry → List Slot
slots_of kept = values_of kept.entries

-- the rows that were live after this many changes, under their keys
abbrev pub table_of : Registry → ℕ → List (ℕ × Row)
table_of kept stamp = table_at stamp kept.entries

abbrev pub rows_at : Registry → ℕ → List Row
rows_at kept stamp = live_at stamp kept.entries

-- the live rows
abbrev pub rows_of : Registry → List Row
rows_of kept = rows_at kept kept.stamp

-- the changes that removed the retained rows, and how many these rows are
abbrev pub removals_of : Registry → List ℕ
removals_of kept = removals kept.entries

abbrev pub retained_count : Registry → ℕ
retained_count kept = length (removals_of kept)

-- the rows after this many changes can be listed
-- RETAIN-2: The rows of each stamp from the floor on can be listed. A trim raises the floor to the
-- change that it names, at most to the last one; the floor never falls.
pub record Reaches (kept : Registry) (stamp : ℕ) : Type 0 where
  pub from_floor : kept.floor ≤ stamp
  pub made : stamp ≤ kept.stamp

-- the own rows are those of the portmapper's program
abbrev pub AreOwn : List Row → Type 0
AreOwn rows = IsTrue (list_all (λ (row : Row). row.prog == rpcb_prog) rows)

-- A registry that keeps this stands for its own rows and these changes: it has the rows that they leave, and from the
-- floor on those that the first n of them left. The retained rows are those that they removed after the floor, and
-- with the live ones they are within the limit.
-- CHANGE-1
pub record StandsForChanges (kept : Registry) (own : List Row) (changes : List Change) : Type 0 where
  pub are_own : AreOwn own
  pub rows : rows_of kept ≡ live own changes
  pub past : (n : ℕ) → Reaches kept n → rows_at kept n ≡ live own (take n changes)
  pub slots : slots_of kept ≡ slots_from kept.floor own changes
  pub counted : length (rows_of kept) + retained_count kept ≡ length (slots_of kept)
  pub within : length (slots_of kept) ≤ kept.limit
  pub stamp : kept.stamp ≡ length changes

-- ---- a cursor

-- how many of the rows that were live after this many changes a cursor has passed that stands there
abbrev pub rows_passed : Registry → ℕ → Option ℕ → ℕ
rows_passed kept stamp cursor = unwrap_or (count_passed (table_of kept stamp) cursor) 0
