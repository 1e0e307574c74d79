-- The bytes that rows hold.
use Rattle.std.proofs.Common.{◌≡◌, ℕ, ◌+◌, ◌*◌, ◌^◌, ◌<◌, ◌≤◌, Bool, true, false, cond, eqb, List, [], ◌∷◌, ◌++◌, length, Some, refl, sym, ap, ◌∙◌, arith}
use Rattle.std.specs.Map.{values_of}
use Rattle.std.proofs.lemmas.List.Sums.{sum_by-cons, sum_by_push}
use Rattle.rb_xdr.specs.Pool.{value_at, without}
use Rattle.rb_registry.specs.declared.row.Row.{Row}
use Rattle.rb_registry.specs.declared.slot.Slot.{Slot}
use Rattle.rb_registry.specs.Rows.{Change}
use Rattle.rb_registry.specs.Slots.{slot_of, row_charge, held_in}
use Rattle.rb_registry.specs.Table.{AreStamped}
use Rattle.rb_registry.proofs.Marked.{goes, with_mark, entries_with_marks}
use Rattle.rb_xdr.proofs.PoolLemmas.{values_of-push}

abbrev pub charge : Slot → ℕ
charge slot = row_charge + length slot.row.addr

pub held-push : (key added : ℕ) (row : Row) (entries : List (ℕ × Slot)) → held_in (values_of (entries ++ (key, slot_of added row) ∷ [])) ≡ held_in (values_of entries) + (row_charge + length row.addr)
held-push key added row entries =
    ap (λ (slots : List Slot). held_in slots) (values_of-push entries key (slot_of added row)) ∙ sum_by_push charge (values_of entries) (slot_of added row)

-- a row that is marked holds what it held
same_charge : (stamp : ℕ) (change : Change) (slot : Slot) → charge (with_mark stamp change slot) ≡ charge slot
same_charge stamp change slot = elim (goes stamp change slot) as (λ b. charge (cond b (record slot { removed = Some (stamp + 1) }) slot) ≡ charge slot) [ true ↦ refl | false ↦ refl ]

pub held-marked : (stamp : ℕ) (change : Change) (entries : List (ℕ × Slot)) → held_in (values_of (entries_with_marks stamp change entries)) ≡ held_in (values_of entries)
held-marked stamp change [] = refl
held-marked stamp change (e ∷ rest) =
    let here = same_charge stamp change e.1 in
    let further = held-marked stamp change rest in
    let new = sum_by-cons charge (with_mark stamp change e.1) (values_of (entries_with_marks stamp change rest)) in
    let old = sum_by-cons charge e.1 (values_of rest) in
    omega (arith, here, further, new, old)

pub held-without : (entries : List (ℕ × Slot)) (key : ℕ) (slot : Slot) → value_at entries key ≡ Some slot → charge slot + held_in (values_of (without entries key)) ≡ held_in (values_of entries)
held-without [] key slot h = absurd cc
held-without (e ∷ rest) key slot h = by_test (eqb e.0 key) refl (held-without rest key slot)
  where
    by_test : (b : Bool) → eqb e.0 key ≡ b → (value_at rest key ≡ Some slot → charge slot + held_in (values_of (without rest key)) ≡ held_in (values_of rest))
        → charge slot + held_in (values_of (without (e ∷ rest) key)) ≡ held_in (values_of (e ∷ rest))
    by_test true t further =
        let found : Some e.1 ≡ Some slot = rw t at h in
        let same : e.1 ≡ slot = cc found in
        rw (t, ← same) (sym (sum_by-cons charge e.1 (values_of rest)))
    by_test false t further =
        let later = further (rw t at h) in
        let new = sum_by-cons charge e.1 (values_of (without rest key)) in
        let old = sum_by-cons charge e.1 (values_of rest) in
        rw t (omega (arith, later, new, old))

pub held_bound : (stamp : ℕ) (entries : List (ℕ × Slot)) → AreStamped stamp entries → held_in (values_of entries) ≤ 332 * length entries
held_bound stamp [] h = omega arith
held_bound stamp (e ∷ rest) h =
    let here = h.0.addr in
    let further = held_bound stamp rest h.1 in
    let whole = sum_by-cons charge e.1 (values_of rest) in
    omega (arith, here, further, whole)

pub held_fits : (stamp limit : ℕ) (entries : List (ℕ × Slot)) → AreStamped stamp entries → length entries ≤ limit → limit < 2 ^ 55 → held_in (values_of entries) < 2 ^ 64
held_fits stamp limit entries stamped within few =
    let most = held_bound stamp entries stamped in
    omega (arith, most, within, few)
