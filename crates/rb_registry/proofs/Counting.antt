-- How many rows are retained.
use Rattle.std.proofs.Common.{◌≡◌, ℕ, ◌+◌, Bool, true, false, not, cond, eqb, List, [], ◌∷◌, length, Option, Some, None, refl, ◌∙◌, arith}
use Rattle.std.specs.Prelude.{is_some, is_none, ◌&&◌, count_by}
use Rattle.std.specs.List.{list_any, cons_option}
use Rattle.std.specs.Map.{values_of}
use Rattle.std.proofs.lemmas.Bool.Decides.{nat_tests}
use Rattle.std.proofs.lemmas.List.Sums.{sum_by-cons}
use Rattle.rb_xdr.specs.Pool.{value_at, without}
use Rattle.rb_registry.specs.declared.slot.Slot.{Slot}
use Rattle.rb_registry.specs.Rows.{Change, covers}
use Rattle.rb_registry.specs.Slots.{is_dropped, removed_by}
use Rattle.rb_registry.specs.Table.{AreStamped, entries_left}
use Rattle.rb_registry.proofs.Marked.{goes, entries_with_marks, count_going}
use Rattle.rb_registry.specs.Registry.{removals}
use Rattle.rb_registry.proofs.Tables.{live_has_none}

-- ---- a test that is counted

pub count_cons : {T : Type 0} (p : T → Bool) (x : T) (xs : List T) (b : Bool) → p x ≡ b → count_by p (x ∷ xs) ≡ cond b 1 0 + count_by p xs
count_cons {T} p x xs b is = rw (← is) (sum_by-cons (λ (x : T). cond (p x) 1 0) x xs)

-- some pass if and only if the count is not 0
any_counted : {T : Type 0} (p : T → Bool) (xs : List T) → list_any p xs ≡ not (eqb (count_by p xs) 0)
any_counted p [] = refl
any_counted {T} p (x ∷ xs) = by_test (p x) refl (any_counted p xs)
  where
    by_test : (b : Bool) → p x ≡ b → list_any p xs ≡ not (eqb (count_by p xs) 0) → list_any p (x ∷ xs) ≡ not (eqb (count_by p (x ∷ xs)) 0)
    by_test true t further =
        let one : count_by p (x ∷ xs) ≡ 1 + count_by p xs = count_cons p x xs true t in
        let some : eqb (count_by p (x ∷ xs)) 0 ≡ false = grind (arith, nat_tests, one) in
        rw (some, t) refl
    by_test false t further =
        let none : count_by p (x ∷ xs) ≡ 0 + count_by p xs = count_cons p x xs false t in
        let same : count_by p (x ∷ xs) ≡ count_by p xs = omega (arith, none) in
        rw (same, t) further

pub none_counted : {T : Type 0} (p : T → Bool) (xs : List T) → count_by p xs ≡ 0 → list_any p xs ≡ false
none_counted p xs none = any_counted p xs ∙ rw none refl

pub some_counted : {T : Type 0} (p : T → Bool) (xs : List T) → (count_by p xs ≡ 0 → ⊥) → list_any p xs ≡ true
some_counted p xs some =
    let other : eqb (count_by p xs) 0 ≡ false = grind (arith, nat_tests, some) in
    any_counted p xs ∙ rw other refl

-- ---- a removal

-- each row that it marks is one more
pub removals-marked : (stamp : ℕ) (change : Change) (entries : List (ℕ × Slot)) → AreStamped stamp entries
    → length (removals (entries_with_marks stamp change entries)) ≡ length (removals entries) + count_going stamp change entries
removals-marked stamp change [] h = refl
removals-marked stamp change (e ∷ rest) h = by_test (goes stamp change e.1) refl (removals-marked stamp change rest h.1)
  where
    was_live : (removed : Option ℕ) (c : Bool) → (is_none removed && c) ≡ true → removed ≡ None
    was_live None c t = refl
    was_live (Some r) c t = absurd cc

    longer : (removed : Option ℕ) (number n : ℕ) (ms ns : List ℕ) → removed ≡ None → length ms ≡ length ns + n → length (cons_option (Some number) ms) ≡ length (cons_option removed ns) + (1 + n)
    longer removed number n ms ns none same = rw none (omega (arith, same))

    as_long : (removed : Option ℕ) (n : ℕ) (ms ns : List ℕ) → length ms ≡ length ns + n → length (cons_option removed ms) ≡ length (cons_option removed ns) + n
    as_long None n ms ns same = same
    as_long (Some r) n ms ns same = omega (arith, same)

    by_test : (b : Bool) → goes stamp change e.1 ≡ b → length (removals (entries_with_marks stamp change rest)) ≡ length (removals rest) + count_going stamp change rest
        → length (removals (entries_with_marks stamp change (e ∷ rest))) ≡ length (removals (e ∷ rest)) + count_going stamp change (e ∷ rest)
    by_test true t further =
        let count : count_going stamp change (e ∷ rest) ≡ 1 + count_going stamp change rest = count_cons (goes stamp change) e.1 (values_of rest) true t in
        let live : (is_none e.1.removed && covers e.1.row change) ≡ true = rw (live_has_none stamp e.1 h.0) at t in
        let none : e.1.removed ≡ None = was_live e.1.removed (covers e.1.row change) live in
        rw (count, t) (longer e.1.removed (stamp + 1) (count_going stamp change rest) (removals (entries_with_marks stamp change rest)) (removals rest) none further)
    by_test false t further =
        let count : count_going stamp change (e ∷ rest) ≡ 0 + count_going stamp change rest = count_cons (goes stamp change) e.1 (values_of rest) false t in
        let same : count_going stamp change (e ∷ rest) ≡ count_going stamp change rest = omega (arith, count) in
        rw (same, t) (as_long e.1.removed (count_going stamp change rest) (removals (entries_with_marks stamp change rest)) (removals rest) further)

-- ---- a trim

-- what it drops was removed
pub was_removed : (oldest : Option ℕ) (slot : Slot) → is_dropped oldest slot ≡ true → is_some slot.removed ≡ true
unfolding is_dropped
was_removed oldest slot t = by_removed slot.removed t
  where
    by_removed : (removed : Option ℕ) → removed_by removed oldest ≡ true → is_some removed ≡ true
    by_removed None t = absurd cc
    by_removed (Some r) t = refl

pub removals-without : (entries : List (ℕ × Slot)) (key : ℕ) (slot : Slot) → value_at entries key ≡ Some slot → is_some slot.removed ≡ true
    → length (removals (without entries key)) + 1 ≡ length (removals entries)
removals-without [] key slot h dead = absurd cc
removals-without (e ∷ rest) key slot h dead = by_test (eqb e.0 key) refl (λ found. removals-without rest key slot found dead)
  where
    one_more : (removed : Option ℕ) (ns : List ℕ) → is_some removed ≡ true → length ns + 1 ≡ length (cons_option removed ns)
    one_more None ns some = absurd cc
    one_more (Some r) ns some = omega arith

    both_more : (removed : Option ℕ) (ms ns : List ℕ) → length ms + 1 ≡ length ns → length (cons_option removed ms) + 1 ≡ length (cons_option removed ns)
    both_more None ms ns fewer = fewer
    both_more (Some r) ms ns fewer = omega (arith, fewer)

    by_test : (b : Bool) → eqb e.0 key ≡ b → (value_at rest key ≡ Some slot → length (removals (without rest key)) + 1 ≡ length (removals rest))
        → length (removals (without (e ∷ rest) key)) + 1 ≡ length (removals (e ∷ rest))
    by_test true t further =
        let found : Some e.1 ≡ Some slot = rw t at h in
        let same : e.1 ≡ slot = cc found in
        rw t (one_more e.1.removed (removals rest) (rw same dead))
    by_test false t further = rw t (both_more e.1.removed (removals (without rest key)) (removals rest) (further (rw t at h)))

-- if no row is retained, it drops none
pub none_dropped : (oldest : Option ℕ) (entries : List (ℕ × Slot)) → length (removals entries) ≡ 0 → entries_left oldest entries ≡ entries
unfolding is_dropped
none_dropped oldest [] h = refl
none_dropped oldest (e ∷ rest) h = by_removed e.1.removed refl h (λ none. none_dropped oldest rest none)
  where
    by_removed : (removed : Option ℕ) → e.1.removed ≡ removed → length (cons_option removed (removals rest)) ≡ 0 → (length (removals rest) ≡ 0 → entries_left oldest rest ≡ rest)
        → entries_left oldest (e ∷ rest) ≡ e ∷ rest
    by_removed None t none further = rw (t, further none) refl
    by_removed (Some r) t none further = absurd (omega (arith, none))
