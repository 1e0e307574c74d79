-- The walk over the live rows of a core, as the looks at them make it: over those of its registry, as they are now.
use Rattle.std.specs.Prelude.{◌≡◌, ℕ, List, length, Option, IfSome}
use Rattle.std.specs.Borrow.{Bor}
use Rattle.rb_xdr.specs.Meter.{Meter}
use Rattle.rb_registry.specs.declared.row.Row.{Row}
use Rattle.rb_registry.specs.Registry.{Registry, rows_of, slots_of, rows_passed}
use Rattle.rb_registry.specs.Cursors as cursors
use Rattle.rb_registry.specs.Table.{PaysFor}
use Rattle.rb_core.specs.StandsFor.{CoreView}

-- the rows that a core holds, the retained ones with them
abbrev pub rows_held : CoreView → Registry
rows_held core = core.books.registry

-- LOOK-1: A core tells between two events how many changes it accepted, its clock, and its live
-- rows: each once, the own ones first, in their order.
abbrev pub rows_shown : CoreView → List Row
rows_shown core = rows_of (rows_held core)

-- A cursor stands among them, before all of them or after one.
abbrev pub StandsAmong : CoreView → Option ℕ → Type 0
StandsAmong core cursor = cursors.StandsIn (rows_held core) (rows_held core).stamp cursor

-- it is before all of them
abbrev pub IsAtStart : CoreView → Option ℕ → Type 0
IsAtStart core cursor = rows_passed (rows_held core) (rows_held core).stamp cursor ≡ 0

-- the row after it
abbrev pub row_behind : CoreView → Option ℕ → Option Row
row_behind core cursor = cursors.row_behind (rows_held core) (rows_held core).stamp cursor

-- after that row the next cursor has passed one more
abbrev pub PassesOne : CoreView → Option ℕ → Option ℕ → Type 0
PassesOne core cursor next = cursors.PassesOne (rows_held core) (rows_held core).stamp cursor next

-- it has passed them all
abbrev pub IsAtEnd : CoreView → Option ℕ → Type 0
IsAtEnd core cursor = cursors.IsAtEnd (rows_held core) (rows_held core).stamp cursor

-- how many rows there are, live and retained
abbrev pub slot_count : CoreView → ℕ
slot_count core = length (slots_of (rows_held core))

-- how many of them are after it
abbrev pub slots_behind : CoreView → Option ℕ → ℕ
slots_behind core cursor = cursors.slots_left (rows_held core) cursor

-- from one place to the next, 2 steps were paid at most for each row that was passed, retained ones among them
abbrev pub PaysForRow : CoreView → Option ℕ → Option ℕ → Meter → Meter → Type 0
PaysForRow core place next old new = PaysFor (rows_held core).entries place next old new

-- the same of a row that was lent, if one was
abbrev pub PaysIfLent : CoreView → Option ℕ → Option ℕ → Option (Bor Row) → Meter → Meter → Type 0
PaysIfLent core place next lent old new = IfSome lent (λ row. PaysForRow core place next old new)
