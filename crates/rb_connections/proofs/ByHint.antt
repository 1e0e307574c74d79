-- The slot under a hint, if it is the one that is asked for by its number.
use Rattle.std.specs.Map.{values_of}
use Rattle.std.proofs.Common.{◌≡◌, ℕ, Bool, true, not, eqb, List, [], ◌∷◌, Some, arith}
use Rattle.std.proofs.lemmas.Grind.{common_steps}
use Rattle.std.proofs.lemmas.Bool.{and_parts, eqb-true, eq-eqb}
use Rattle.rb_xdr.specs.Pool.{value_at}
use Rattle.rb_xdr.specs.Search.{key_of}
use Rattle.rb_forward.proofs.Tables.{some_is}
use Rattle.rb_connections.specs.declared.slot.Slot.{Slot}
use Rattle.rb_connections.specs.declared.slot.Sought.{Sought}
use Rattle.rb_connections.specs.declared.slot.Sought.TheVariants as wanted
use Rattle.rb_connections.specs.Slots.{AreNumbered, HasDistinctNumbers, is_lost_stage, is_by_number, is_wanted_slot}
use Rattle.rb_connections.proofs.Freed.{any-there-of}

pub distinct_numbers : (given : ℕ) (slots : List Slot) → AreNumbered given slots → HasDistinctNumbers slots
distinct_numbers given [] n = tt
distinct_numbers given (slot ∷ slots) n = (n.1, distinct_numbers given slots n.2)

-- if all that pass have this number, one that passes is the first
module _ (test : Slot → Bool) (id : ℕ) (only : (s : Slot) → test s ≡ true → s.number ≡ id) where
  first_of : (es : List (ℕ × Slot)) (k : ℕ) (slot : Slot) → HasDistinctNumbers (values_of es) → value_at es k ≡ Some slot → test slot ≡ true → key_of test es ≡ Some k
  first_of [] k slot d v t = grind (arith, common_steps, some_is, eqb-true, any-there-of, eq-eqb)
  first_of (e ∷ es) k slot d v t = grind (arith, common_steps, some_is, eqb-true, any-there-of, eq-eqb, first_of es k slot d.1)

pub first_by_hint : (sought : Sought) (es : List (ℕ × Slot)) (k : ℕ) (slot : Slot) → HasDistinctNumbers (values_of es) → value_at es k ≡ Some slot
    → is_by_number sought ≡ true → is_wanted_slot sought slot ≡ true → key_of (is_wanted_slot sought) es ≡ Some k
unfolding is_wanted_slot
first_by_hint (wanted.Live id) es k slot d v number t =
    first_of (is_wanted_slot (wanted.Live id)) id (λ s w. eqb-true s.number id (and_parts (eqb s.number id) (not (is_lost_stage s.stage)) w).0) es k slot d v t
first_by_hint (wanted.Numbered id) es k slot d v number t = first_of (is_wanted_slot (wanted.Numbered id)) id (λ s w. eqb-true s.number id w) es k slot d v t
first_by_hint wanted.AnyLost es k slot d v number t = absurd cc
first_by_hint (wanted.Due clock) es k slot d v number t = absurd cc
