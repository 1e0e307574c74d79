-- Rows with the changes that added and removed them.
use Rattle.std.specs.Prelude.{◌≡◌, ◌<◌, ℕ, ◌+◌, ◌^◌, nat_le, nat_lt, Bool, true, false, not, ◌&&◌, if◌then◌else◌, List, [], ◌∷◌, ◌++◌, length, map, filter, Option, Some, None}
use Rattle.std.specs.List.{sum_by}
use Rattle.rb_registry.specs.declared.slot.Slot.{Slot}
use Rattle.rb_registry.specs.declared.row.Row.{Row}
use Rattle.rb_registry.specs.Rows.{Change, covers}
use Rattle.rb_registry.specs.Rows.Change.{Added, Removed}

-- ---- one of them

-- not yet removed after n changes
abbrev pub stays_at : ℕ → Option ℕ → Bool
stays_at n None = true
stays_at n (Some removed) = nat_lt n removed

-- live after n changes: added by then, and not yet removed
unfoldable pub is_live_at : ℕ → Slot → Bool
is_live_at n slot = nat_le slot.added n && stays_at n slot.removed

-- a row that goes by this number of a change is live up to that number of changes
abbrev pub IsLastLive : Option ℕ → ℕ → Type 0
IsLastLive removed last = (n : ℕ) → n < 2 ^ 64 → nat_le n last ≡ stays_at n removed

-- a row that this change adds
abbrev pub slot_of : ℕ → Row → Slot
slot_of added row = record { row = row; added = added; removed = None }

-- removed by that change or one before it, or by any if none is named
abbrev pub removed_by : Option ℕ → Option ℕ → Bool
removed_by None oldest = false
removed_by (Some removed) None = true
removed_by (Some removed) (Some oldest) = nat_le removed oldest

-- RETAIN-1: A removed row is retained until a trim drops it. A trim drops the retained rows that
-- were removed by the change that it names or by one before it, and all of them if it names none.
unfoldable pub is_dropped : Option ℕ → Slot → Bool
is_dropped oldest slot = removed_by slot.removed oldest

-- ---- those of a list of changes

-- the number of the first of these changes that covers the row, if this many came before them
abbrev pub removal_of : ℕ → Row → List Change → Option ℕ
removal_of count row [] = None
removal_of count row (change ∷ later) =
    if covers row change then Some (count + 1) else removal_of (count + 1) row later

-- the rows that these changes added, each with the change that added it and the one that removed it
abbrev pub slots_by : ℕ → List Change → List Slot
slots_by count [] = []
slots_by count (Added row ∷ later) =
    record { row = row; added = count + 1; removed = removal_of (count + 1) row later } ∷ slots_by (count + 1) later
slots_by count (Removed prog vers which owner ∷ later) = slots_by (count + 1) later

-- the rows that ever were there: the own rows, which no change added, and those of the changes
abbrev pub all_slots : List Row → List Change → List Slot
all_slots own changes = map (slot_of 0) own ++ slots_by 0 changes

-- those of them that are live or were removed after the floor
abbrev pub slots_from : ℕ → List Row → List Change → List Slot
slots_from floor own changes = filter (λ slot. not (is_dropped (Some floor) slot)) (all_slots own changes)

-- ---- what is held

-- what the fixed part of a row, with its item of a list, counts as, in bytes
abbrev pub row_charge : ℕ
row_charge = 204

-- HELD-1: Each row in the table, live or retained, counts as 204 bytes and those of its address
-- text.
abbrev pub held_in : List Slot → ℕ
held_in slots = sum_by (λ (slot : Slot). row_charge + length slot.row.addr) slots
