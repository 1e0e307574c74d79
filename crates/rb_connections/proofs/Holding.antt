-- How many bytes are held of connections.
use Rattle.std.specs.Prelude.{All}
use Rattle.std.specs.Map.{values_of}
use Rattle.std.proofs.Common.{◌≡◌, ℕ, ◌+◌, ◌*◌, ◌^◌, ◌≤◌, ◌<◌, Some, List, [], ◌∷◌, ◌++◌, refl, length, arith}
use Rattle.std.proofs.Math.Nat.{mul-le-mul_right}
use Rattle.std.proofs.lemmas.List.Sums.{sum_by-le, sum_by_push}
use Rattle.std.proofs.lemmas.List.Elements.{All-push}
use Rattle.std.proofs.lemmas.Map.Entries.{length-values_of, sum_by-remove_entry}
use Rattle.std.proofs.lemmas.Grind.{common_steps}
use Rattle.rb_xdr.specs.Meter.{Meter}
use Rattle.rb_xdr.specs.Pool.{Pool, value_at, without, with_value}
use Rattle.rb_xdr.proofs.PoolLemmas.{All-value_at, All-with_value}
use Rattle.rb_model.specs.Calls.{longest_reply, longest_kept}
use Rattle.rb_model.specs.Connections.{longest_fragment}
use Rattle.rb_connections.specs.declared.slot.Slot.{Slot}
use Rattle.rb_connections.specs.declared.slot.Buffers.{Buffers}
use Rattle.rb_connections.specs.StandsFor.{buffer_size, Table, charge, held_in, most_charge, IsWithin}
use Rattle.rb_connections.specs.Slots.{StaysTable, IsTable, HasBuffers}
use Rattle.rb_model.specs.Bounds.{connection_charge}

module _ (slots : Pool Slot) (spare : Pool Buffers) (given conns held : ℕ) (t : IsTable slots spare given conns held) where
  turned : (a b : ℕ) → b * a ≡ a * b
  turned a b = omega arith

  pub held_within : held ≤ most_charge * conns
  held_within =
      let sum = sum_by-le charge most_charge (values_of slots.entries) t.within in
      let few : held ≤ length slots.entries * most_charge = rw (t.is_held, ← length-values_of slots.entries) sum in
      let le : length slots.entries ≤ conns = omega (arith, t.room) in
      let more = mul-le-mul_right most_charge le in
      omega (arith, few, more, turned most_charge conns)

  pub held_few : held ≤ 256 * most_charge
  held_few = grind (arith, common_steps, held_within, mul-le-mul_right, turned)

  pub room_for_one : held + connection_charge < 2 ^ 64
  unfolding longest_reply longest_kept buffer_size longest_fragment
  room_for_one = let few = held_few in omega (arith, few)

  module _ (k : ℕ) (slot : Slot) (found : value_at slots.entries k ≡ Some slot) where
    pub held_without : held_in (values_of (without slots.entries k)) + charge slot ≡ held
    held_without = grind (arith, common_steps, sum_by-remove_entry)

    pub charge_fits : charge slot ≤ held
    charge_fits = let sum = held_without in omega (arith, sum)

    -- it has buffers that this meter counts
    pub its_buffers : (meter : Meter) → meter.tie ≡ slots.tie → HasBuffers meter.tie slot
    its_buffers meter tie = rw tie (All-value_at (HasBuffers slots.tie) slots.entries k slot t.buffers found)

-- a slot whose buffers are empty, after the others
module _ (slots : List Slot) (slot : Slot) (buffer : slot.buffer.bytes ≡ []) (window : slot.window.bytes ≡ []) where
  empty_charge : charge slot ≡ connection_charge
  empty_charge = rw (buffer, window) refl

  pub within_pushed : All IsWithin slots → All IsWithin (slots ++ slot ∷ [])
  within_pushed within = All-push IsWithin slots slot within (let few = empty_charge in omega (arith, few))

  pub held_pushed : (held : ℕ) → held ≡ held_in slots → held + connection_charge ≡ held_in (slots ++ slot ∷ [])
  held_pushed held is = let few = empty_charge in omega (arith, few, sum_by_push charge slots slot, is)

-- the table with a slot changed
pub stays_changed : (view now : Table) (k : ℕ) (new : Slot) → view ≡ now → IsWithin new → StaysTable now (record view { slots = with_value view.slots k new })
stays_changed view now k new is fits = rw (← is) (record { conns = refl; memory = refl; tie = refl; within = λ within. All-with_value IsWithin view.slots k new within fits })
