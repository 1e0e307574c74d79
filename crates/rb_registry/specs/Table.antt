-- What calls make of the table of rows with their changes.
use Rattle.std.specs.Prelude.{◌≡◌, ◌<◌, ◌≤◌, ℕ, ◌+◌, ◌*◌, ◌^◌, ◌==◌, nat_lt, min, max, Bool, true, not, ◌&&◌, if◌then◌else◌, List, [], ◌∷◌, ◌++◌, length, filter, fold, All, Contains, Option, Some, None, unwrap_or, IfSome, slice_get}
use Rattle.std.specs.Map.{values_of}
use Rattle.std.specs.Borrow.{Bor}
use Rattle.rb_xdr.specs.Pool.{value_at, HasDistinctKeys}
use Rattle.rb_xdr.specs.Places.{to_come}
use Rattle.rb_xdr.specs.Meter.{Meter}
use Rattle.rb_xdr.specs.Ordered.{Ordered}
use Rattle.rb_registry.specs.declared.slot.Slot.{Slot}
use Rattle.rb_registry.specs.declared.row.Row.{Row}
use Rattle.rb_registry.specs.Registry.{table_at, removals, Registry, rows_of, retained_count, StandsForChanges}
use Rattle.rb_registry.specs.Slots.{removed_by, is_dropped, held_in}
use Rattle.rb_registry.specs.Rows.{Change, rpcb_prog, has_place}
use Rattle.rb_registry.specs.Index.{IsIndexed}
use Rattle.rb_registry.specs.Order.{AreInOrder, count_own}

-- ---- what a registry counts

-- how many of these rows are retained
abbrev pub count_retained : List (ℕ × Slot) → ℕ
count_retained entries = length (removals entries)

-- the bytes that they hold, live and retained
abbrev pub count_held : List (ℕ × Slot) → ℕ
count_held entries = held_in (values_of entries)

-- an own row is of the portmapper's program
abbrev pub IsOursIfOwn : Slot → Type 0
IsOursIfOwn slot = slot.added ≡ 0 → (slot.row.prog == rpcb_prog) ≡ true

-- both numbers are of changes that were made, and the address text has at most 128 bytes
pub record IsStamped (stamp : ℕ) (slot : Slot) : Type 0 where
  pub added : slot.added ≤ stamp
  pub removed : IfSome slot.removed (λ removed. removed ≤ stamp)
  pub addr : length slot.row.addr ≤ 128
  pub ours : IsOursIfOwn slot

abbrev pub AreStamped : ℕ → List (ℕ × Slot) → Type 0
AreStamped stamp [] = Unit {0}
AreStamped stamp (e ∷ rest) = IsStamped stamp e.1 × AreStamped stamp rest

abbrev pub OwnAreOurs : List (ℕ × Slot) → Type 0
OwnAreOurs [] = Unit {0}
OwnAreOurs (e ∷ rest) = IsOursIfOwn e.1 × OwnAreOurs rest

-- What is true of a registry between two calls, if it counts this many bytes as held, and this many rows as retained.
pub record IsTable (stamp floor limit held retained : ℕ) (entries : List (ℕ × Slot)) (tie : ℕ) (index : Ordered) : Type 0 where
  pub distinct : HasDistinctKeys entries
  pub stamped : AreStamped stamp entries
  pub made : floor ≤ stamp
  pub few : limit < 2 ^ 55
  pub within : length entries ≤ limit
  pub is_held : held ≡ count_held entries
  pub are_retained : retained ≡ count_retained entries
  pub indexed : IsIndexed entries index.entries
  pub index_cap : index.cap ≡ limit
  pub index_tie : index.tie ≡ tie
  pub ordered : AreInOrder 0 entries
  pub few_own : count_own entries ≤ 12

-- what stands under the key of each row is what a list of version 2 sees of it
abbrev pub AreMapped : List (ℕ × Slot) → List Slot → Type 0
AreMapped entries mapped = (key : ℕ) (slot : Slot) → value_at entries key ≡ Some slot → slice_get mapped key ≡ Some slot

-- ---- what a trim drops

abbrev pub entries_left : Option ℕ → List (ℕ × Slot) → List (ℕ × Slot)
entries_left oldest entries = filter (λ e. not (is_dropped oldest e.1)) entries

-- ---- places in the table

-- the next row after a place that was live after n changes is this one, or there is none
abbrev pub IsNextLive : ℕ → List (ℕ × Slot) → Option ℕ → Option (ℕ × Bor Row) → Type 0
IsNextLive n entries place None = table_at n (to_come entries place) ≡ []
IsNextLive n entries place (Some next) = table_at n (to_come entries place) ≡ (next.0, next.1.now) ∷ table_at n (to_come entries (Some next.0))

-- the same of what a list of version 2 sees of it
abbrev pub IsNextMapped : ℕ → List (ℕ × Slot) → Option ℕ → Option (ℕ × Bor Slot) → Type 0
IsNextMapped n entries place None = table_at n (to_come entries place) ≡ []
IsNextMapped n entries place (Some next) = table_at n (to_come entries place) ≡ (next.0, next.1.now.row) ∷ table_at n (to_come entries (Some next.0))

-- how many rows, live or retained, are after a place
abbrev pub count_left : List (ℕ × Slot) → Option ℕ → ℕ
count_left entries place = length (to_come entries place)

-- from one place to the next, 2 steps were paid at most for each row that was passed
abbrev pub PaysFor : List (ℕ × Slot) → Option ℕ → Option ℕ → Meter → Meter → Type 0
PaysFor entries place next old new = new.steps + 2 * count_left entries next ≤ old.steps + 2 * count_left entries place

-- ---- the least of the changes that removed the retained rows

abbrev pub lesser_of : Option ℕ → ℕ → ℕ
lesser_of None number = number
lesser_of (Some least) number = min least number

-- the least of these numbers, or 0 if there is none
abbrev pub least_of : List ℕ → ℕ
least_of numbers = unwrap_or (fold (λ least number. Some (lesser_of least number)) None numbers) 0

pub record IsLeast (numbers : List ℕ) (least : ℕ) : Type 0 where
  pub none : numbers ≡ [] → least ≡ 0
  pub one : (numbers ≡ [] → ⊥) → Contains numbers least
  pub all : All (λ number. least ≤ number) numbers

-- of changes that removed rows, those after that one, or none if none is named
-- RETAIN-3: A retained row stays until a trim says that it is no longer needed.
-- RETAIN-1
abbrev pub later_than : Option ℕ → List ℕ → List ℕ
later_than oldest numbers = filter (λ number. not (removed_by (Some number) oldest)) numbers

-- ---- what calls leave

-- SET-1: A row is added unless a live row of its program, version and netid is there, or the live
-- and the retained rows are as many as the limit.
abbrev pub takes : Registry → Row → Bool
takes kept row =
    has_place kept.limit (rows_of kept) kept.stamp row && nat_lt (length (rows_of kept) + retained_count kept) kept.limit

-- the stamp that a trim names, for which None or one still to come counts as the present one
-- RETAIN-2
abbrev pub stamp_named : Registry → Option ℕ → ℕ
stamp_named kept oldest = min (unwrap_or oldest kept.stamp) kept.stamp

-- the floor after it
abbrev pub floor_raised : Registry → Option ℕ → ℕ
floor_raised kept oldest = max kept.floor (stamp_named kept oldest)

-- Whatever changes a registry stood for, it now stands for those and, if it was accepted, for this one.
abbrev pub StandsForMore : Registry → Registry → Bool → Change → Type 0
StandsForMore old new accepted change = (own : List Row) (changes : List Change) → StandsForChanges old own changes
    → StandsForChanges new own (if accepted then changes ++ change ∷ [] else changes)

-- It stands for the same changes.
abbrev pub StandsForSame : Registry → Registry → Type 0
StandsForSame old new = (own : List Row) (changes : List Change) → StandsForChanges old own changes → StandsForChanges new own changes
