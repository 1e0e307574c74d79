-- What a list of version 2 sees of the rows stands by their keys.
use Rattle.std.proofs.Common.{◌≡◌, ◌≢◌, ℕ, ◌<◌, Bool, true, false, cond, eqb, List, [], ◌∷◌, ◌++◌, length, set, get_or, Option, Some, None, refl, sym, ap, ◌∙◌, arith}
use Rattle.std.specs.List.{slice_get}
use Rattle.std.proofs.lemmas.Bool.{eqb-true}
use Rattle.std.proofs.lemmas.Bool.Decides.{nat_tests}
use Rattle.std.proofs.lemmas.List.{get_or-set_same, get_or-set_other, length-set}
use Rattle.std.proofs.lemmas.Option.{slice_get_within, slice_get-get_or, get_or_from_slice_get}
use Rattle.rb_xdr.specs.Pool.{value_at, without, with_value, first_key, HasDistinctKeys}
use Rattle.rb_xdr.specs.Places.{to_come, behind}
use Rattle.rb_xdr.proofs.Walks.{step, next_entry}
use Rattle.rb_xdr.proofs.PoolLemmas.{value_at-without}
use Rattle.rb_registry.specs.declared.slot.Slot.{Slot}
use Rattle.rb_registry.specs.Table.{AreMapped}

-- ---- what stands at a place of a list once one was written

get-set_same : (xs : List Slot) (key : ℕ) (x : Slot) → key < length xs → slice_get (set xs key x) key ≡ Some x
get-set_same xs key x within =
    slice_get-get_or (set xs key x) key x (rw length-set within)
    ∙ ap Some (get_or-set_same xs key x x within)

get-set_other : (xs : List Slot) (key a : ℕ) (x y : Slot) → a ≢ key → slice_get xs a ≡ Some y → slice_get (set xs key x) a ≡ Some y
get-set_other xs key a x y other found =
    slice_get-get_or (set xs key x) a y (rw length-set (slice_get_within xs a y found))
    ∙ ap Some (get_or-set_other xs key a x y other ∙ get_or_from_slice_get xs a y y found)

-- ---- what is under a key once a value was added or replaced

at-push : (es : List (ℕ × Slot)) (key a : ℕ) (x : Slot) → value_at es key ≡ None → value_at (es ++ (key, x) ∷ []) a ≡ cond (eqb key a) (Some x) (value_at es a)
at-push [] key a x none = refl
at-push (e ∷ es) key a x none = by_tests (eqb e.0 key) refl (eqb e.0 a) refl (at-push es key a x)
  where
    by_tests : (b : Bool) → eqb e.0 key ≡ b → (t : Bool) → eqb e.0 a ≡ t → (value_at es key ≡ None → value_at (es ++ (key, x) ∷ []) a ≡ cond (eqb key a) (Some x) (value_at es a))
        → cond t (Some e.1) (value_at (es ++ (key, x) ∷ []) a) ≡ cond (eqb key a) (Some x) (cond t (Some e.1) (value_at es a))
    by_tests true same t here further = let clash : Some e.1 ≡ None = rw same at none in absurd cc
    by_tests false differ true here further = let other : eqb key a ≡ false = grind (arith, nat_tests) in rw other refl
    by_tests false differ false here further = further (rw differ at none)

at-with : (es : List (ℕ × Slot)) (key a : ℕ) (old x : Slot) → value_at es key ≡ Some old → value_at (with_value es key x) a ≡ cond (eqb key a) (Some x) (value_at es a)
at-with [] key a old x some = absurd cc
at-with (e ∷ es) key a old x some = by_tests (eqb e.0 key) refl (eqb e.0 a) refl (at-with es key a old x)
  where
    by_tests : (b : Bool) → eqb e.0 key ≡ b → (t : Bool) → eqb e.0 a ≡ t → (value_at es key ≡ Some old → value_at (with_value es key x) a ≡ cond (eqb key a) (Some x) (value_at es a))
        → value_at (cond b ((e.0, x) ∷ es) (e ∷ with_value es key x)) a ≡ cond (eqb key a) (Some x) (cond t (Some e.1) (value_at es a))
    by_tests true same true here further = let both : eqb key a ≡ true = grind (arith, nat_tests) in rw (here, both) refl
    by_tests true same false here further = let other : eqb key a ≡ false = grind (arith, nat_tests) in rw (here, other) refl
    by_tests false differ true here further = let other : eqb key a ≡ false = grind (arith, nat_tests) in rw (here, other) refl
    by_tests false differ false here further = rw here (further (rw differ at some))

-- ---- the rows and what is seen of them

-- one more value, under its key
module _ (es now : List (ℕ × Slot)) (mapped : List Slot) (key : ℕ) (x : Slot) (within : key < length mapped) (are : AreMapped es mapped)
    (all : (a : ℕ) → value_at now a ≡ cond (eqb key a) (Some x) (value_at es a)) where
  written : AreMapped now (set mapped key x)
  written a slot found = by_test (eqb key a) refl
    where
      by_test : (b : Bool) → eqb key a ≡ b → slice_get (set mapped key x) a ≡ Some slot
      by_test true same =
          let is : key ≡ a = eqb-true key a same in
          let one : Some x ≡ Some slot = rw same at (sym (all a) ∙ found) in
          rw (← is) (get-set_same mapped key x within ∙ one)
      by_test false differ =
          let other : a ≢ key = λ e. let clash : eqb key a ≡ true = grind (arith, nat_tests) in absurd (cc (clash, differ)) in
          get-set_other mapped key a x slot other (are a slot (rw differ at (sym (all a) ∙ found)))

pub mapped-push : (es : List (ℕ × Slot)) (mapped : List Slot) (key : ℕ) (x : Slot) → value_at es key ≡ None → key < length mapped → AreMapped es mapped → AreMapped (es ++ (key, x) ∷ []) (set mapped key x)
mapped-push es mapped key x fresh within are = written es (es ++ (key, x) ∷ []) mapped key x within are (λ a. at-push es key a x fresh)

pub mapped-with : (es : List (ℕ × Slot)) (mapped : List Slot) (key : ℕ) (old x : Slot) → value_at es key ≡ Some old → AreMapped es mapped → AreMapped (with_value es key x) (set mapped key x)
mapped-with es mapped key old x some are =
    written es (with_value es key x) mapped key x (slice_get_within mapped key old (are key old some)) are (λ a. at-with es key a old x some)

pub mapped-without : (es : List (ℕ × Slot)) (mapped : List Slot) (key : ℕ) → HasDistinctKeys es → AreMapped es mapped → AreMapped (without es key) mapped
mapped-without es mapped key distinct are a slot found = by_test (eqb key a) refl
  where
    by_test : (b : Bool) → eqb key a ≡ b → slice_get mapped a ≡ Some slot
    by_test true same = let clash : None ≡ Some slot = rw same at (sym (value_at-without es key a distinct) ∙ found) in absurd cc
    by_test false differ = are a slot (rw differ at (sym (value_at-without es key a distinct) ∙ found))

-- ---- a walk

-- what stands under the key that comes next is there
module _ (es : List (ℕ × Slot)) (mapped : List Slot) (place : Option ℕ) (key : ℕ) (distinct : HasDistinctKeys es) (is : first_key (to_come es place) ≡ Some key) (are : AreMapped es mapped) where
  pub seen_within : key < length mapped
  seen_within = let next = step es place key distinct is in slice_get_within mapped key next.value (are key next.value next.found)

  pub seen_found : (x : Slot) → x ≡ get_or mapped key x → value_at es key ≡ Some x
  seen_found x read =
      let next = step es place key distinct is in
      next.found ∙ ap Some (sym (read ∙ get_or_from_slice_get mapped key next.value x (are key next.value next.found)))

  pub seen_next : (x : Slot) → x ≡ get_or mapped key x → to_come es place ≡ (key, x) ∷ behind es key
  seen_next x read = next_entry es place key x distinct is (seen_found x read)
