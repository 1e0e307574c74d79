-- The order of the rows by the changes that added them, as calls leave it.
use Rattle.std.proofs.Common.{◌≡◌, ℕ, zero, suc, ◌+◌, ◌≤◌, Bool, true, false, cond, eqb, List, [], ◌∷◌, ◌++◌, length, Option, Some, None, refl, arith}
use Rattle.std.specs.Prelude.{filter}
use Rattle.std.proofs.lemmas.Bool.Decides.{nat_tests}
use Rattle.rb_xdr.specs.Places.{behind, to_come}
use Rattle.rb_registry.specs.declared.row.Row.{Row}
use Rattle.rb_registry.specs.declared.slot.Slot.{Slot}
use Rattle.rb_registry.specs.Rows.{Change}
use Rattle.rb_registry.specs.Slots.{slot_of}
use Rattle.rb_registry.specs.Order.{number_after, AreInOrder, count_own}
use Rattle.rb_registry.specs.Table.{AreStamped}
use Rattle.rb_registry.proofs.Marked.{goes, with_mark, entries_with_marks}

-- ---- numbers

pub after_more : (number : ℕ) → number ≤ number_after number
after_more zero = omega arith
after_more (suc number) = omega arith

after_upto : (number stamp : ℕ) → number ≤ stamp → number_after number ≤ stamp + 1
after_upto zero stamp le = omega arith
after_upto (suc number) stamp le = omega (arith, le)

none_after : (number : ℕ) → number ≤ 0 → number_after number ≡ 0
none_after zero le = refl
none_after (suc number) le = absurd (omega (arith, le))

-- ---- what is in order

in_order_from : (few many : ℕ) (entries : List (ℕ × Slot)) → few ≤ many → AreInOrder many entries → AreInOrder few entries
in_order_from few many [] le h = tt
in_order_from few many (e ∷ rest) le h = (omega (arith, le, h.0), h.1)

-- own rows are
pub own_in_order : (entries : List (ℕ × Slot)) → AreStamped 0 entries → AreInOrder 0 entries
own_in_order [] stamped = tt
own_in_order (e ∷ rest) stamped =
    let later : AreInOrder 0 rest = own_in_order rest stamped.1 in
    (omega arith, rw (none_after e.1.added stamped.0.added) later)

-- a row that the next change adds comes last
pub in_order_push : (least stamp key : ℕ) (row : Row) (entries : List (ℕ × Slot)) → least ≤ stamp + 1 → AreStamped stamp entries → AreInOrder least entries
    → AreInOrder least (entries ++ (key, slot_of (stamp + 1) row) ∷ [])
in_order_push least stamp key row [] le stamped h = (le, tt)
in_order_push least stamp key row (e ∷ rest) le stamped h =
    (h.0, in_order_push (number_after e.1.added) stamp key row rest (after_upto e.1.added stamp stamped.0.added) stamped.1 h.1)

same_added : (stamp : ℕ) (change : Change) (slot : Slot) → (with_mark stamp change slot).added ≡ slot.added
same_added stamp change slot =
    elim (goes stamp change slot) as (λ b. (cond b (record slot { removed = Some (stamp + 1) }) slot).added ≡ slot.added) [ true ↦ refl | false ↦ refl ]

pub in_order_marked : (least stamp : ℕ) (change : Change) (entries : List (ℕ × Slot)) → AreInOrder least entries → AreInOrder least (entries_with_marks stamp change entries)
in_order_marked least stamp change [] h = tt
in_order_marked least stamp change (e ∷ rest) h =
    rw (same_added stamp change e.1) (h.0, in_order_marked (number_after e.1.added) stamp change rest h.1)

pub in_order_filter : (test : ℕ × Slot → Bool) (least : ℕ) (entries : List (ℕ × Slot)) → AreInOrder least entries → AreInOrder least (filter test entries)
in_order_filter test least [] h = tt
in_order_filter test least (e ∷ rest) h =
    let more = after_more e.1.added in
    elim (test e) as (λ b. AreInOrder least (cond b (e ∷ filter test rest) (filter test rest))) [
      | true ↦ (h.0, in_order_filter test (number_after e.1.added) rest h.1)
      | false ↦ in_order_filter test least rest (in_order_from least (number_after e.1.added) rest (omega (arith, h.0, more)) h.1)
    ]

-- what comes after a place
pub in_order_to_come : (place : Option ℕ) (entries : List (ℕ × Slot)) → AreInOrder 0 entries → AreInOrder 0 (to_come entries place)
in_order_to_come None entries h = h
in_order_to_come (Some key) [] h = tt
in_order_to_come (Some key) (e ∷ rest) h =
    let later : AreInOrder 0 rest = in_order_from 0 (number_after e.1.added) rest (omega arith) h.1 in
    elim (eqb e.0 key) as (λ b. AreInOrder 0 (cond b rest (behind rest key)))
    [ true ↦ later | false ↦ in_order_to_come (Some key) rest later ]

-- ---- own rows

abbrev own_one : Slot → ℕ
own_one slot = cond (eqb slot.added 0) 1 0

one_upto : (b : Bool) → cond b 1 0 ≤ 1
one_upto true = omega arith
one_upto false = omega arith

pub own_within : (entries : List (ℕ × Slot)) → count_own entries ≤ length entries
own_within [] = omega arith
own_within (e ∷ rest) = omega (arith, one_upto (eqb e.1.added 0), own_within rest)

pub own_push : (stamp key : ℕ) (row : Row) (entries : List (ℕ × Slot)) → count_own (entries ++ (key, slot_of (stamp + 1) row) ∷ []) ≡ count_own entries
own_push stamp key row [] = let not_own : eqb (stamp + 1) 0 ≡ false = grind (arith, nat_tests) in rw not_own refl
own_push stamp key row (e ∷ rest) = omega (arith, own_push stamp key row rest)

pub own_marked : (stamp : ℕ) (change : Change) (entries : List (ℕ × Slot)) → count_own (entries_with_marks stamp change entries) ≡ count_own entries
own_marked stamp change [] = refl
own_marked stamp change (e ∷ rest) = rw (same_added stamp change e.1) (omega (arith, own_marked stamp change rest))

pub own_filter : (test : ℕ × Slot → Bool) (entries : List (ℕ × Slot)) → count_own (filter test entries) ≤ count_own entries
own_filter test [] = omega arith
own_filter test (e ∷ rest) =
    let later = own_filter test rest in
    elim (test e) as (λ b. count_own (cond b (e ∷ filter test rest) (filter test rest)) ≤ own_one e.1 + count_own rest)
    [ true ↦ omega (arith, later) | false ↦ omega (arith, later) ]

pub own_to_come : (place : Option ℕ) (entries : List (ℕ × Slot)) → count_own (to_come entries place) ≤ count_own entries
own_to_come None entries = omega arith
own_to_come (Some key) [] = omega arith
own_to_come (Some key) (e ∷ rest) =
    let later : count_own (behind rest key) ≤ count_own rest = own_to_come (Some key) rest in
    elim (eqb e.0 key) as (λ b. count_own (cond b rest (behind rest key)) ≤ own_one e.1 + count_own rest)
    [ true ↦ omega arith | false ↦ omega (arith, later) ]
