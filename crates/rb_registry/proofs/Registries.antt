-- What a call makes of a registry.
use Rattle.std.proofs.Common.{◌≡◌, ℕ, ◌+◌, ◌<◌, ◌≤◌, max, Bool, true, false, ◌&&◌, List, [], ◌∷◌, ◌++◌, length, Option, refl, ap, ◌∙◌, arith}
use Rattle.std.specs.Prelude.{nat_lt}
use Rattle.std.specs.List.{list_any}
use Rattle.std.specs.Map.{values_of}
use Rattle.std.proofs.lemmas.Bool.{lt-ltb, le-ltb}
use Rattle.rb_xdr.specs.Pool.{Pool}
use Rattle.rb_registry.specs.declared.row.Row.{Row}
use Rattle.rb_registry.specs.declared.slot.Slot.{Slot}
use Rattle.rb_registry.specs.Rows.{Change, is_of_key, is_change_left, has_place, removes_some}
use Rattle.rb_registry.specs.Slots.{slot_of}
use Rattle.rb_registry.specs.Table.{AreStamped, entries_left, takes, stamp_named}
use Rattle.rb_registry.proofs.Marked.{goes, entries_with_marks}
use Rattle.rb_registry.specs.Registry.{Registry, retained_count, rows_of, table_of}
use Rattle.rb_registry.specs.Cursors.{GoesOn}
use Rattle.rb_registry.proofs.Tables.{set_before, marked_table_before, trimmed_table, past_named, past_now, live_and_retained, any_goes, none_marked}

-- ---- any call

-- if the tables from the new floor on are the same, cursors go on
goes_on : (old new : Registry) → ((n : ℕ) → new.floor ≤ n → n ≤ old.stamp → table_of new n ≡ table_of old n) → old.stamp ≤ new.stamp → GoesOn old new
goes_on old new same later = record {
  rows = λ stamp f m. ap (λ (es : List (ℕ × Row)). values_of es) (same stamp f m);
  place = λ stamp cursor f st. let e = same stamp f st.reached.made in let m = st.reached.made in record { reached = record { from_floor = f; made = omega (arith, m, later) }; place = rw e st.place };
  passed = λ stamp cursor f st. let e = same stamp f st.reached.made in rw e refl;
}

pub goes_on_same : (kept : Registry) → GoesOn kept kept
goes_on_same kept = goes_on kept kept (λ n f m. refl) (omega arith)

-- ---- SET

and_false : (b : Bool) → (b && false) ≡ false
and_false true = refl
and_false false = refl

pub place_left : (kept : Registry) (row : Row)
    → list_any (is_of_key row) (rows_of kept) ≡ false → length kept.entries < kept.limit → is_change_left kept.stamp ≡ true
    → AreStamped kept.stamp kept.entries → takes kept row ≡ true
unfolding has_place
place_left kept row free room left stamped =
    let whole = live_and_retained kept.stamp kept.entries stamped in
    let few : nat_lt (length (rows_of kept)) kept.limit ≡ true = lt-ltb _ _ (omega (arith, room, whole)) in
    let fits : nat_lt (length (rows_of kept) + retained_count kept) kept.limit ≡ true = lt-ltb _ _ (omega (arith, room, whole)) in
    rw (free, few, left, fits) refl

pub key_taken : (kept : Registry) (row : Row) → list_any (is_of_key row) (rows_of kept) ≡ true → takes kept row ≡ false
unfolding has_place
key_taken kept row taken = rw taken refl

pub no_change_left : (kept : Registry) (row : Row) → is_change_left kept.stamp ≡ false → takes kept row ≡ false
unfolding has_place
no_change_left kept row none = rw (none, and_false) refl

pub no_room : (kept : Registry) (row : Row) → kept.limit ≤ length kept.entries → AreStamped kept.stamp kept.entries → takes kept row ≡ false
no_room kept row full stamped =
    let whole = live_and_retained kept.stamp kept.entries stamped in
    let fits : nat_lt (length (rows_of kept) + retained_count kept) kept.limit ≡ false = le-ltb _ _ (omega (arith, full, whole)) in
    rw (fits, and_false (has_place kept.limit (rows_of kept) kept.stamp row)) refl

-- the registry with a new row
abbrev pub with_row : Registry → ℕ → Row → Registry
with_row kept key row = record kept { entries = kept.entries ++ (key, slot_of (kept.stamp + 1) row) ∷ []; stamp = kept.stamp + 1 }

pub goes_on-set : (kept : Registry) (key : ℕ) (row : Row) → GoesOn kept (with_row kept key row)
goes_on-set kept key row = goes_on kept (with_row kept key row) (λ n f m. set_before kept.stamp n key row kept.entries m) (omega arith)

-- ---- UNSET

-- the registry after a removal
abbrev pub with_removal : Registry → Change → Registry
with_removal kept change = record kept { entries = entries_with_marks kept.stamp change kept.entries; stamp = kept.stamp + 1 }

pub goes_on-unset : (kept : Registry) (change : Change) → AreStamped kept.stamp kept.entries → GoesOn kept (with_removal kept change)
goes_on-unset kept change stamped = goes_on kept (with_removal kept change) (λ n f m. marked_table_before kept.stamp n change kept.entries stamped m) (omega arith)

pub no_removal_left : (rows : List Row) (stamp : ℕ) (change : Change) → is_change_left stamp ≡ false → removes_some rows stamp change ≡ false
unfolding removes_some
no_removal_left rows stamp change none = rw none (and_false _)

and_true : (b : Bool) → (b && true) ≡ b
and_true true = refl
and_true false = refl

pub removal_made : (kept : Registry) (change : Change) (removed : Bool) → is_change_left kept.stamp ≡ true
    → removed ≡ list_any (goes kept.stamp change) (values_of kept.entries) → removes_some (rows_of kept) kept.stamp change ≡ removed
unfolding removes_some
removal_made kept change removed left is_any =
    rw (left, ← any_goes kept.stamp change kept.entries, ← is_any) (and_true removed)

-- if nothing is covered, the table stays as it is
pub unchanged : (stamp : ℕ) (change : Change) (old new : Pool Slot) → new ≡ record { entries = entries_with_marks stamp change old.entries; cap = old.cap; memory = old.memory; tie = old.tie }
    → list_any (goes stamp change) (values_of old.entries) ≡ false → new ≡ old
unchanged stamp change old new is_marked none_goes = is_marked ∙ rw (none_marked stamp change old.entries none_goes) refl

-- ---- trim

abbrev pub trimmed : Registry → Option ℕ → Registry
trimmed kept oldest = record kept { entries = entries_left oldest kept.entries; floor = max kept.floor (stamp_named kept oldest) }

module _ (kept : Registry) (oldest : Option ℕ) (stamped : AreStamped kept.stamp kept.entries) where
  pub trimmed_at : (n : ℕ) → max kept.floor (stamp_named kept oldest) ≤ n → table_of (trimmed kept oldest) n ≡ table_of kept n
  trimmed_at n f = trimmed_table kept.stamp n oldest kept.entries stamped (past_named kept.stamp oldest n (omega (arith, f)))

  pub trimmed_now : rows_of (trimmed kept oldest) ≡ rows_of kept
  trimmed_now = ap (λ (es : List (ℕ × Row)). values_of es) (trimmed_table kept.stamp kept.stamp oldest kept.entries stamped (past_now kept.stamp oldest))

  pub goes_on-trim : GoesOn kept (trimmed kept oldest)
  goes_on-trim = goes_on kept (trimmed kept oldest) (λ n f m. trimmed_at n f) (omega arith)
