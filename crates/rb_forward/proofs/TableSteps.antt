-- The table as entries begin, are sent, and end.
use Rattle.std.proofs.Common.{◌≡◌, ℕ, ◌+◌, ◌-◌, ◌*◌, ◌^◌, ◌≤◌, ◌<◌, List, [], ◌∷◌, ◌++◌, Some, sym, ap, ◌∙◌, length, arith}
use Rattle.std.specs.Prelude.{All}
use Rattle.std.specs.Map.{values_of}
use Rattle.std.proofs.Math.Nat.{mul-le-mul_right}
use Rattle.std.proofs.lemmas.List.Sums.{sum_by-le, sum_by_push}
use Rattle.std.proofs.lemmas.List.Elements.{All-push}
use Rattle.rb_forward.specs.declared.entries.Slot.{Slot}
use Rattle.rb_xdr.specs.Pool.{Pool}
use Rattle.rb_xdr.specs.Kept.{Kept}
use Rattle.rb_forward.specs.Table.{IsTable, IsBuffer, HasBuffer, IsSpare, wanted_slot, is_wanted_slot, IsNew, without_call}
use Rattle.rb_arguments.specs.Forwarded.{longest_forwarded}
use Rattle.rb_forward.specs.StandsFor.{longest_forwarded_call}
use Rattle.std.specs.Prelude.{option_map, find}
use Rattle.rb_xdr.specs.Pool.{HasDistinctKeys, value_at, without, with_value}
use Rattle.rb_xdr.proofs.PoolLemmas.{All-value_at, All-with_value, All-without}
use Rattle.rb_forward.specs.declared.entries.Sought.{Sought}
use Rattle.std.proofs.lemmas.Map.Entries.{length-values_of}
use Rattle.rb_xdr.proofs.PoolLemmas.{distinct-without, length-without, distinct-with, length-with}
use Rattle.rb_forward.proofs.Tables.{some_is, sum-without, sum-changed}
use Rattle.rb_forward.proofs.Callers.{callers-without, callers-changed, callers-more}
use Rattle.rb_forward.proofs.Stands.{first_wanted, found_first}
use Rattle.rb_forward.specs.Forwards.{entry_charge}

all_within : (meter : ℕ) (slots : List Slot) → All (HasBuffer meter) slots → All (λ (s : Slot). entry_charge + length s.call.bytes ≤ entry_charge + longest_forwarded_call) slots
all_within meter slots h = λ k slot lt. let here = (h k slot lt).within in omega (arith, here)

module _ (slots : Pool Slot) (spare : Pool Kept) (cap held : ℕ) (t : IsTable slots spare cap held) where
  pub held_few : held ≤ length slots.entries * (entry_charge + longest_forwarded_call)
  held_few =
      let sum = sum_by-le (λ (s : Slot). entry_charge + length s.call.bytes) (entry_charge + longest_forwarded_call) (values_of slots.entries) (all_within slots.tie (values_of slots.entries) t.buffers) in
      rw (t.is_held, ← length-values_of slots.entries) sum

  pub held_within : held ≤ (entry_charge + longest_forwarded_call) * cap
  held_within =
      let few = held_few in
      let le : length slots.entries ≤ cap = omega (arith, t.room) in
      let more = mul-le-mul_right (entry_charge + longest_forwarded_call) le in
      omega (arith, few, more, turned (entry_charge + longest_forwarded_call) cap)
    where
      turned : (a b : ℕ) → b * a ≡ a * b
      turned a b = omega arith

  pub room_for_call : (count : ℕ) → length slots.entries < cap → count ≤ longest_forwarded → held + (entry_charge + 40 + count) < 2 ^ 64
  unfolding longest_forwarded
  room_for_call count room few =
      let h = held_few in
      omega (arith, h, room, few, t.few)

  module _ (sought : Sought) (k : ℕ) (slot : Slot) (h : option_map (λ e. e.0) (wanted_slot sought slots.entries) ≡ Some k) (v : value_at slots.entries k ≡ Some slot) where
    pub its_buffer : IsBuffer slots.tie slot.call
    its_buffer = All-value_at (HasBuffer slots.tie) slots.entries k slot t.buffers v

    found : find (is_wanted_slot sought) (values_of slots.entries) ≡ Some slot
    found = found_first sought slots.entries k slot t.distinct h v

    pub fits_in_held : entry_charge + length slot.call.bytes ≤ held
    fits_in_held =
        let sum = sum-without (is_wanted_slot sought) (λ (s : Slot). entry_charge + length s.call.bytes) (values_of slots.entries) slot found in
        omega (arith, sum, t.is_held)

    -- the slot's call was sent
    pub table_sent : IsTable (record slots { entries = with_value slots.entries k (without_call slot) }) spare cap (held - length slot.call.bytes)
    table_sent =
        let first = first_wanted sought slots.entries k t.distinct h in
        let changed = first.changed (without_call slot) in
        let sum = sum-changed (is_wanted_slot sought) (λ (s : Slot). entry_charge + length s.call.bytes) (values_of slots.entries) slot (without_call slot) found in
        let buffer : IsBuffer slots.tie (without_call slot).call = record { tie = its_buffer.tie; cap = its_buffer.cap; within = omega arith } in
        record {
          distinct = distinct-with slots.entries k (without_call slot) t.distinct;
          spare_distinct = t.spare_distinct;
          few = t.few;
          room = rw (length-with slots.entries k (without_call slot)) t.room;
          slots_cap = t.slots_cap;
          spare_cap = t.spare_cap;
          tie = t.tie;
          buffers = All-with_value (HasBuffer slots.tie) slots.entries k (without_call slot) t.buffers buffer;
          spare_buffers = t.spare_buffers;
          callers =
              rw changed (callers-changed (is_wanted_slot sought) (without_call slot) (values_of slots.entries)
              (λ a is. ap (λ (s : Slot). s.forward) (some_is slot a (sym found ∙ is))) t.callers);
          is_held = rw changed (omega (arith, sum, fits_in_held, t.is_held));
        }

    -- the slot is there no longer, and its buffer is spare
    pub table_ended : (now : Pool Kept) → length now.entries ≡ length spare.entries + 1 → HasDistinctKeys now.entries → now.cap ≡ spare.cap → now.tie ≡ spare.tie
        → All (IsSpare slots.tie) (values_of now.entries) → IsTable (record slots { entries = without slots.entries k }) now cap (held - (entry_charge + length slot.call.bytes))
    table_ended now more distinct now_cap now_tie buffers =
        let first = first_wanted sought slots.entries k t.distinct h in
        let less = length-without slots.entries k slot v in
        let sum = sum-without (is_wanted_slot sought) (λ (s : Slot). entry_charge + length s.call.bytes) (values_of slots.entries) slot found in
        record {
          distinct = distinct-without slots.entries k t.distinct;
          spare_distinct = distinct;
          few = t.few;
          room = omega (arith, less, more, t.room);
          slots_cap = t.slots_cap;
          spare_cap = now_cap ∙ t.spare_cap;
          tie = now_tie ∙ t.tie;
          buffers = All-without (HasBuffer slots.tie) slots.entries k t.buffers;
          spare_buffers = buffers;
          callers = rw first.taken_out (callers-without (is_wanted_slot sought) (values_of slots.entries) t.callers);
          is_held = rw first.taken_out (omega (arith, sum, t.is_held));
        }

  -- one more slot stands after the others, in a buffer that was spare
  pub table_started : (count : ℕ) (new : Pool Slot) (now : Pool Kept) (slot : Slot) → values_of new.entries ≡ values_of slots.entries ++ slot ∷ [] → length new.entries ≡ length slots.entries + 1
      → HasDistinctKeys new.entries → new.cap ≡ slots.cap → new.tie ≡ slots.tie → length spare.entries ≡ length now.entries + 1 → HasDistinctKeys now.entries → now.cap ≡ spare.cap → now.tie ≡ spare.tie
      → All (IsSpare slots.tie) (values_of now.entries) → IsBuffer slots.tie slot.call → length slot.call.bytes ≡ 40 + count → IsNew slot.forward.caller (values_of slots.entries)
      → IsTable new now cap (held + (entry_charge + 40 + count))
  table_started count new now slot last longer distinct new_cap new_tie fewer now_distinct now_cap now_tie buffers buffer long is_new =
      let sum = sum_by_push (λ (s : Slot). entry_charge + length s.call.bytes) (values_of slots.entries) slot in
      record {
        distinct = distinct;
        spare_distinct = now_distinct;
        few = t.few;
        room = omega (arith, longer, fewer, t.room);
        slots_cap = new_cap ∙ t.slots_cap;
        spare_cap = now_cap ∙ t.spare_cap;
        tie = now_tie ∙ t.tie ∙ sym new_tie;
        buffers = rw (last, new_tie) (All-push (HasBuffer slots.tie) (values_of slots.entries) slot t.buffers buffer);
        spare_buffers = rw new_tie buffers;
        callers = rw last (callers-more (values_of slots.entries) slot t.callers is_new);
        is_held = rw last (omega (arith, sum, long, t.is_held));
      }
