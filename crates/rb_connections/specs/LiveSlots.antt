-- The slot of the live connection of a number, which is about to change.
use Rattle.std.specs.Prelude.{◌≡◌, ℕ, ◌+◌, ◌*◌, List, length, Option, Some, None}
use Rattle.std.specs.Borrow.{Fml, MutBor}
use Rattle.std.specs.Option.{option_map, option_map_or}
use Rattle.rb_xdr.specs.Meter.{Meter, PaysAtMost}
use Rattle.rb_xdr.specs.Pool.{Pool, value_at}
use Rattle.rb_xdr.specs.PoolLends.{lends_entry}
use Rattle.rb_connections.specs.declared.slot.Slot.{Slot}
use Rattle.rb_connections.specs.declared.slot.Sought.TheVariants as wanted
use Rattle.rb_connections.specs.contracts.slot.Slot.{the_row}
use Rattle.rb_connections.specs.StandsFor.{charge}
use Rattle.rb_connections.specs.Slots.{wanted_slot}

-- its key, 0 if there is none
abbrev pub live_key : ℕ → List (ℕ × Slot) → ℕ
live_key id slots = option_map_or (λ (e : ℕ × Slot). e.0) (wanted_slot (wanted.Live id) slots) 0

-- It is that slot.
pub record IsLiveSlot (id : ℕ) (slots : List (ℕ × Slot)) (slot : Slot) : Type 0 where
  pub key : option_map (λ (e : ℕ × Slot). e.0) (wanted_slot (wanted.Live id) slots) ≡ Some (live_key id slots)
  pub there : value_at slots (live_key id slots) ≡ Some slot

-- It was found, or there is none.
abbrev pub FindsLive : ℕ → List (ℕ × Slot) → Option Slot → Type 0
FindsLive id slots None = option_map (λ (e : ℕ × Slot). e.0) (wanted_slot (wanted.Live id) slots) ≡ None
FindsLive id slots (Some slot) = IsLiveSlot id slots slot

-- Once the borrow of the slot ends, the slot has the last value written through it; at `None` the slots stay as they
-- are.
abbrev pub LendsLive : MutBor (Pool Slot) → ℕ → Option (MutBor Slot) → Fml
LendsLive slots id found = lends_entry the_row slots (live_key id slots.now.entries) found

-- what it counts as, nothing if there is none
abbrev pub charge_of : Option Slot → ℕ
charge_of None = 0
charge_of (Some slot) = charge slot

-- what it costs to count it, nothing if there is none
abbrev pub count_cost : Option Slot → ℕ
count_cost None = 0
count_cost (Some slot) = 2

-- A search among these slots that finds this one pays that at most: two for each, 3, and what it costs to count the slot.
abbrev pub PaysToFind : List (ℕ × Slot) → Option Slot → Meter → Meter → Type 0
PaysToFind slots found before now = PaysAtMost before now (2 * length slots + 3 + count_cost found)
