-- The slot of the live connection of a number, which changes.
use Rattle.std.specs.Prelude.{unwrap_or, option_map}
use Rattle.std.specs.Map.{values_of}
use Rattle.std.proofs.Common.{◌≡◌, ℕ, ◌+◌, ◌^◌, ◌≤◌, ◌<◌, eqb, List, Some, ap, arith}
use Rattle.std.proofs.lemmas.Map.Entries.{sum_by-remove_entry}
use Rattle.rb_xdr.specs.Pool.{Pool, value_at, with_value}
use Rattle.rb_model.specs.Calls.{longest_kept, longest_reply}
use Rattle.rb_model.specs.Connections.{longest_fragment}
use Rattle.rb_connections.specs.declared.slot.Slot.{Slot}
use Rattle.rb_connections.specs.declared.slot.Buffers.{Buffers}
use Rattle.rb_connections.specs.declared.slot.Sought.TheVariants as wanted
use Rattle.rb_connections.specs.StandsFor.{buffer_size, charge, held_in, most_charge, IsWithin}
use Rattle.rb_connections.specs.Slots.{wanted_slot, IsTable, HasBuffers}
use Rattle.rb_connections.specs.LiveSlots.{live_key, IsLiveSlot}
use Rattle.rb_connections.proofs.Holding.{held_few}
use Rattle.rb_connections.proofs.Slots.{table_changed}

-- ---- it is found

pub key_is : (id : ℕ) (slots : List (ℕ × Slot)) (k : ℕ) → option_map (λ e. e.0) (wanted_slot (wanted.Live id) slots) ≡ Some k → live_key id slots ≡ k
key_is id slots k h = grind arith

pub is_live : (id : ℕ) (slots : List (ℕ × Slot)) (k : ℕ) (slot : Slot) → option_map (λ e. e.0) (wanted_slot (wanted.Live id) slots) ≡ Some k → value_at slots k ≡ Some slot → IsLiveSlot id slots slot
is_live id slots k slot h v = let is = key_is id slots k h in record { key = rw is h; there = rw is v }

-- it counts as no more than all of them
pub charge_among : (slots : List (ℕ × Slot)) (k : ℕ) (slot : Slot) → value_at slots k ≡ Some slot → charge slot ≤ held_in (values_of slots)
charge_among slots k slot found =
    let sum = sum_by-remove_entry charge (λ n. eqb n k) slots in
    let its = ap (λ m. unwrap_or (option_map charge m) 0) found in
    omega (arith, sum, its)

-- it counts as this much, which is no more than with full buffers
pub within_by : (slot : Slot) (its : ℕ) → its ≡ charge slot → its ≤ most_charge → IsWithin slot
within_by slot its counts few = rw (← counts) few

-- ---- it changed: the rest of what is held was counted without it, and now it counts as this much

module _ (slots : Pool Slot) (spare : Pool Buffers) (given conns held : ℕ) (t : IsTable slots spare given conns held) (id : ℕ) (old new : Slot) (live : IsLiveSlot id slots.entries old)
    (rest : ℕ) (taken : rest + charge old ≡ held) (its : ℕ) (counts : its ≡ charge new) (few : its ≤ most_charge) where
  pub live_fits : rest + its < 2 ^ 64
  unfolding longest_reply longest_kept buffer_size longest_fragment
  live_fits = let all = held_few slots spare given conns held t in omega (arith, taken, few, all)

  pub live_table : new.number ≡ old.number → HasBuffers slots.tie new → IsTable (record slots { entries = with_value slots.entries (live_key id slots.entries) new }) spare given conns (rest + its)
  live_table same buffers =
      table_changed slots spare given conns held (live_key id slots.entries) old new t live.there same buffers (rest + its) (omega (arith, taken, counts)) (within_by new its counts few)
