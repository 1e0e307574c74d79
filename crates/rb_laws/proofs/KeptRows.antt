-- The live rows and those that are retained for lists are together never more than there may be.
use Rattle.std.specs.Prelude.{filter_map}
use Rattle.std.specs.List.{list_any, list_all}
use Rattle.std.proofs.Common.{◌≡◌, ◌≤◌, ◌<◌, ℕ, suc, ◌+◌, Bool, true, false, not, ◌||◌, eqb, nat_le, nat_lt, Option, Some, None, List, [], ◌∷◌, ◌++◌, length, map, filter, is_none, refl, ap, length-append, arith}
use Rattle.std.proofs.lemmas.Bool.{and_parts, lt-ltb, ltb-true, leb-true, le-leb, eqb-true, eq-eqb}
use Rattle.std.proofs.lemmas.Bool.Decides.{nat_tests}
use Rattle.std.proofs.lemmas.List.Elements.{filter-append}
use Rattle.std.proofs.lemmas.Grind.{common_steps}
use Rattle.rb_registry.specs.declared.row.Row.{Row}
use Rattle.rb_registry.specs.declared.slot.Slot.{Slot}
use Rattle.rb_registry.specs.Rows.{Change, covers, left_by}
use Rattle.rb_registry.specs.Rows.Change.{Added, Removed}
use Rattle.rb_registry.specs.Slots.{slot_of, removal_of, slots_by, all_slots}
use Rattle.rb_answers.specs.Ledger.{Ledger, rows_in}
use Rattle.rb_model.specs.State.{Connection}
use Rattle.rb_model.specs.Connections.{change_first}
use Rattle.rb_model.specs.Losses.{stamp_in, list_stamps, is_needed_for, needed_removals, evict_early}

-- ---- which rows connections keep

-- a list that began so began before the change
abbrev pub is_before : ℕ → Option ℕ → Bool
is_before change None = false
is_before change (Some n) = nat_lt n change

-- the connection is given a list that began before the change
abbrev pub keeps : ℕ → Connection → Bool
keeps change c = is_before change (stamp_in c.phase)

pub retained_by : (change : ℕ) (all : List Connection) → is_needed_for (list_stamps all) change ≡ list_any (keeps change) all
unfolding list_stamps
retained_by change [] = grind arith
retained_by change (c ∷ all) = grind (arith, retained_by change all)

either : (a b c d : Bool) → (a ≡ true → c ≡ true) → (b ≡ true → d ≡ true) → (a || b) ≡ true → (c || d) ≡ true
either a b c d first further e = grind arith

-- Of the first changes, up to a number, these connections retain no row that those didn't.
abbrev pub KeepsLess : ℕ → List Connection → List Connection → Type 0
KeepsLess most new old = (change : ℕ) → change ≤ most → list_any (keeps change) new ≡ true → list_any (keeps change) old ≡ true

abbrev pub KeepsNoMore : ℕ → (Connection → Connection) → Type 0
KeepsNoMore most f = (change : ℕ) → change ≤ most → (c : Connection) → keeps change (f c) ≡ true → keeps change c ≡ true

pub same-kept : (most : ℕ) (all : List Connection) → KeepsLess most all all
same-kept most all change few is = is

pub changed-kept : (most : ℕ) (test : Connection → Bool) (f : Connection → Connection) → KeepsNoMore most f → (all : List Connection) → KeepsLess most (change_first test f all) all
changed-kept most test f less [] change few is = grind arith
changed-kept most test f less (c ∷ all) change few is = grind (arith, changed-kept most test f less all change few)

pub mapped-kept : (most : ℕ) (f : Connection → Connection) → KeepsNoMore most f → (all : List Connection) → KeepsLess most (map f all) all
mapped-kept most f less [] change few is = grind arith
mapped-kept most f less (c ∷ all) change few is = grind (arith, mapped-kept most f less all change few)

pub filtered-kept : (most : ℕ) (test : Connection → Bool) (all : List Connection) → KeepsLess most (filter test all) all
filtered-kept most test [] change few is = grind arith
filtered-kept most test (c ∷ all) change few is = grind (arith, filtered-kept most test all change few)

-- ---- how many rows are live or retained

-- a row that was removed by this change, if it was, is live or retained
abbrev counts_for : List Connection → Option ℕ → Bool
counts_for all None = true
counts_for all (Some change) = list_any (keeps change) all

abbrev counts : List Connection → Slot → Bool
counts all slot = counts_for all slot.removed

abbrev is_there : Slot → Bool
is_there slot = is_none slot.removed

abbrev removals : List Slot → List ℕ
removals slots = filter_map (λ (slot : Slot). slot.removed) slots

parted : (all : List Connection) (slots : List Slot) → length (filter (counts all) slots) ≡ length (filter is_there slots) + length (filter (is_needed_for (list_stamps all)) (removals slots))
parted all [] = grind (arith, common_steps, retained_by)
parted all (slot ∷ slots) = grind (arith, common_steps, retained_by, parted all slots)

none-removes : (count : ℕ) (row : Row) (later : List Change) → is_none (removal_of count row later) ≡ not (list_any (covers row) later)
none-removes count row [] = grind arith
none-removes count row (change ∷ later) = grind (arith, none-removes (count + 1) row later)

left-there : (count : ℕ) (changes : List Change) → length (filter is_there (slots_by count changes)) ≡ length (left_by changes)
left-there count [] = grind (arith, common_steps, none-removes)
left-there count (Removed prog vers which owner ∷ later) = grind (arith, common_steps, none-removes, left-there (count + 1) later)
left-there count (Added row ∷ later) = grind (arith, common_steps, none-removes, left-there (count + 1) later)

own-there : (test : Slot → Bool) → ((row : Row) → test (slot_of 0 row) ≡ true) → (own : List Row) → length (filter test (map (slot_of 0) own)) ≡ length own
own-there test all_pass [] = refl
own-there test all_pass (row ∷ own) = rw (all_pass row) (ap suc (own-there test all_pass own))

-- how many rows these connections keep, live ones too
abbrev pub total : List Connection → List Row → List Change → ℕ
total all own changes = length (filter (counts all) (all_slots own changes))

pub total-parts : (all : List Connection) (own : List Row) (changes : List Change) → total all own changes ≡ length own + length (filter (counts all) (slots_by 0 changes))
total-parts all own changes = grind (arith, common_steps, filter-append, length-append, own-there)

pub total-is : (all : List Connection) (l : Ledger) → total all l.own l.changes ≡ length (rows_in l) + length (needed_removals all l)
unfolding needed_removals
total-is all l = grind (arith, common_steps, filter-append, length-append, own-there, left-there, parted)

-- ---- changes more

-- how many rows they add
abbrev added_by : List Change → ℕ
added_by [] = 0
added_by (Added row ∷ changes) = suc (added_by changes)
added_by (Removed prog vers which owner ∷ changes) = added_by changes

few-added : (test : Slot → Bool) (count : ℕ) (changes : List Change) → length (filter test (slots_by count changes)) ≤ added_by changes
few-added test count [] = grind arith
few-added test count (Removed prog vers which owner ∷ later) = grind (arith, few-added test (count + 1) later)
few-added test count (Added row ∷ later) = grind (arith, few-added test (count + 1) later)

module _ (most : ℕ) (new old : List Connection) (less : KeepsLess most new old) (extra : List Change) where
  removal-more : (count : ℕ) (row : Row) (later : List Change) → count + length later ≤ most
      → counts_for new (removal_of count row (later ++ extra)) ≡ true → counts_for old (removal_of count row later) ≡ true
  removal-more count row [] few is = grind arith
  removal-more count row (change ∷ later) few is = grind (arith, removal-more (count + 1) row later (omega (arith, few)))

  slots-more : (count : ℕ) (changes : List Change) → count + length changes ≤ most
      → length (filter (counts new) (slots_by count (changes ++ extra))) ≤ length (filter (counts old) (slots_by count changes)) + added_by extra
  slots-more count [] few = grind (arith, common_steps, few-added, removal-more)
  slots-more count (Removed prog vers which owner ∷ later) few = grind (arith, common_steps, few-added, removal-more, slots-more (count + 1) later (omega (arith, few)))
  slots-more count (Added row ∷ later) few = grind (arith, common_steps, few-added, removal-more, slots-more (count + 1) later (omega (arith, few)))

  pub total-more : (own : List Row) (changes now : List Change) → length changes ≤ most → now ≡ changes ++ extra → total new own now ≤ total old own changes + added_by extra
  total-more own changes now few is = grind (arith, common_steps, slots-more, total-parts)

-- ---- eviction makes room

-- the least of some numbers
pub record Least (numbers : List ℕ) : Type 0 where
  pub value : ℕ
  pub there : list_any (λ n. eqb n value) numbers ≡ true
  pub low : list_all (λ n. nat_le value n) numbers ≡ true

all-above : (a b : ℕ) → a ≤ b → (numbers : List ℕ) → list_all (λ n. nat_le b n) numbers ≡ true → list_all (λ n. nat_le a n) numbers ≡ true
all-above a b le [] e = refl
all-above a b le (n ∷ numbers) e =
    let parts = and_parts (nat_le b n) (list_all (λ m. nat_le b m) numbers) e in
    let here : nat_le a n ≡ true = le-leb a n (omega (arith, le, leb-true b n parts.0)) in
    rw (here, all-above a b le numbers parts.1) refl

least-with : (n : ℕ) (numbers : List ℕ) → Least numbers → Least (n ∷ numbers)
least-with n numbers rest = by_test (nat_le n rest.value) refl
  where
    by_test : (b : Bool) → nat_le n rest.value ≡ b → Least (n ∷ numbers)
    by_test true e = record {
      value = n;
      there = rw (eq-eqb n n refl) refl;
      low = rw (le-leb n n (omega arith)) (all-above n rest.value (leb-true n rest.value e) numbers rest.low);
    }
    by_test false e =
        let above : nat_le rest.value n ≡ true = grind (arith, nat_tests, e) in
        record {
          value = rest.value;
          there = elim (eqb n rest.value) as (λ b. (b || list_any (λ k. eqb k rest.value) numbers) ≡ true) [ true ↦ refl | false ↦ rest.there ];
          low = rw above rest.low;
        }

pub least-of : (n : ℕ) (numbers : List ℕ) → Least (n ∷ numbers)
least-of n [] = record { value = n; there = rw (eq-eqb n n refl) refl; low = rw (le-leb n n (omega arith)) refl }
least-of n (m ∷ numbers) = least-with n (m ∷ numbers) (least-of m numbers)

-- a list that began before the least of them began before each
before-all : (n m : ℕ) → nat_lt n m ≡ true → (numbers : List ℕ) → list_all (λ k. nat_le m k) numbers ≡ true → list_all (λ k. nat_lt n k) numbers ≡ true
before-all n m early [] e = refl
before-all n m early (k ∷ numbers) e =
    let parts = and_parts (nat_le m k) (list_all (λ x. nat_le m x) numbers) e in
    let here : nat_lt n k ≡ true = lt-ltb n k (omega (arith, ltb-true n m early, leb-true m k parts.0)) in
    rw (here, before-all n m early numbers parts.1) refl

module _ (change : ℕ) (changes : List ℕ) (m : ℕ) (low : list_all (λ n. nat_le m n) (change ∷ changes) ≡ true) where
  -- so no connection keeps the row of the least once those are evicted
  none-keeps : (c : Connection) → keeps m (evict_early (change ∷ changes) c) ≡ false
  unfolding evict_early
  none-keeps c = grind (arith, common_steps, before-all)

  pub none-keep : (all : List Connection) → list_any (keeps m) (map (evict_early (change ∷ changes)) all) ≡ false
  none-keep [] = refl
  none-keep (c ∷ all) = rw (none-keeps c) (none-keep all)

-- ---- fewer rows are retained

fewer : (p q : ℕ → Bool) → ((n : ℕ) → p n ≡ true → q n ≡ true) → (xs : List ℕ) → length (filter p xs) ≤ length (filter q xs)
fewer p q also [] = grind arith
fewer p q also (x ∷ xs) = grind (arith, fewer p q also xs)

-- one of them passes the second test alone
pub one-fewer : (p q : ℕ → Bool) → ((n : ℕ) → p n ≡ true → q n ≡ true) → (m : ℕ) → p m ≡ false → (xs : List ℕ) → list_any (λ n. eqb n m) (filter q xs) ≡ true
    → length (filter p xs) < length (filter q xs)
one-fewer p q also m out [] is = grind (arith, common_steps, fewer, eqb-true)
one-fewer p q also m out (x ∷ xs) is = grind (arith, common_steps, fewer, eqb-true, one-fewer p q also m out xs)
