-- The connections whose lists began before a change become Lost, by their slots.
use Rattle.std.specs.Prelude.{All, Contains, filter_map}
use Rattle.std.specs.List.{AllZip, list_any, list_all}
use Rattle.std.specs.Map.{values_of}
use Rattle.std.proofs.Common.{◌≡◌, ◌≤◌, ◌<◌, ℕ, Bool, true, false, nat_lt, suc, List, [], ◌∷◌, length, map, min, Option, Some, None, refl, sym, ◌∙◌, arith, inl, inr}
use Rattle.std.proofs.lemmas.Bool.{lt-ltb, ltb-true, cases_lt}
use Rattle.std.proofs.lemmas.List.Elements.{All-head, All-tail, All-cons, All-nil, All-contains}
use Rattle.std.proofs.lemmas.List.Sums.{AllPass-from_list_all, list_all-from_AllPass}
use Rattle.std.proofs.lemmas.Grind.{common_steps}
use Rattle.rb_xdr.specs.Kept.{Kept}
use Rattle.rb_xdr.specs.Pool.{Pool, value_at, HasDistinctKeys}
use Rattle.rb_forward.specs.Deadlines.{sooner_of, soonest_of}
use Rattle.rb_model.specs.State.{Phase, Connection, Connections}
use Rattle.rb_model.specs.Losses.{stamp_in, began_before, evict_early, evict}
use Rattle.rb_connections.specs.declared.slot.Slot.{Slot}
use Rattle.rb_connections.specs.declared.slot.Buffers.{Buffers}
use Rattle.rb_connections.specs.declared.slot.Stage.{Stage}
use Rattle.rb_connections.specs.declared.slot.Stage.TheVariants as stages
use Rattle.rb_registry.specs.Registry.{Registry}
use Rattle.rb_connections.specs.StandsFor.{Table, StandsForPhase, StandsForConnection, StandsForConnections, charge, held_in, IsWithin}
use Rattle.rb_connections.specs.Slots.{IsTable, StaysTable, HasBuffers, AreNumbered, is_numbered}
use Rattle.rb_connections.specs.Awaits.{is_free_slot, is_free, is_idle_slot, has_idle, NoneIsFreed}
use Rattle.rb_connections.specs.Listings.{stamp_of_stage, stamp_of_slot, CanContinueSlot, IsOldest, IsEarliest, began_before_earliest, evicted_slot, with_evicted}
use Rattle.rb_connections.proofs.Phases.{by_phase}

-- ---- one slot

pub began_alike : (registry : Registry) (stage : Stage) (buffer window : Kept) (phase : Phase) → StandsForPhase registry stage buffer window phase → stamp_of_stage stage ≡ stamp_in phase
began_alike registry stage buffer window phase h = grind (arith, common_steps, by_phase registry buffer window)

-- before the earliest change is before all of them
before_all : (changes : List ℕ) (earliest n : ℕ) → IsEarliest changes earliest → list_all (λ later. nat_lt n later) changes ≡ nat_lt n earliest
before_all changes earliest n e = by_test (nat_lt n earliest) refl
  where
    by_test : (b : Bool) → nat_lt n earliest ≡ b → list_all (λ later. nat_lt n later) changes ≡ b
    by_test true t =
        let early : n < earliest = ltb-true n earliest t in
        list_all-from_AllPass (λ later. nat_lt n later) changes (λ k d within. let low = e.all k d within in lt-ltb n _ (omega (arith, early, low)))
    by_test false t = by_all (list_all (λ later. nat_lt n later) changes) refl
      where
        by_all : (a : Bool) → list_all (λ later. nat_lt n later) changes ≡ a → a ≡ false
        by_all bb p = grind (arith, common_steps, All-contains, AllPass-from_list_all)

none_within : (earliest : ℕ) → Contains [] earliest → ⊥
none_within earliest c = absurd (omega (arith, c.1))

pub before_earliest : (changes : List ℕ) (earliest : ℕ) (began : Option ℕ) → IsEarliest changes earliest → began_before changes began ≡ began_before_earliest earliest began
before_earliest [] earliest began e = absurd (none_within earliest e.one)
before_earliest (change ∷ changes) earliest None e = refl
before_earliest (change ∷ changes) earliest (Some n) e = before_all (change ∷ changes) earliest n e

pub evicted_stands : (registry : Registry) (changes : List ℕ) (earliest : ℕ) (slot : Slot) (c : Connection) → IsEarliest changes earliest → StandsForConnection registry slot c
    → StandsForConnection registry (evicted_slot earliest slot) (evict_early changes c)
unfolding evict_early
evicted_stands registry changes earliest slot c e h = grind (arith, common_steps, before_earliest, began_alike)

pub marked_is : (earliest : ℕ) (slot gone : Slot) → gone ≡ slot → began_before_earliest earliest (stamp_of_slot slot) ≡ true → record gone { stage = stages.Lost } ≡ evicted_slot earliest slot
marked_is earliest slot gone same early = rw (same, early) refl

pub not_marked : (earliest : ℕ) (slot : Slot) → began_before_earliest earliest (stamp_of_slot slot) ≡ false → evicted_slot earliest slot ≡ slot
not_marked earliest slot early = rw early refl

-- ---- all of them

abbrev pub all_evicted : ℕ → List (ℕ × Slot) → List (ℕ × Slot)
all_evicted earliest es = map (λ e. (e.0, evicted_slot earliest e.1)) es

all_stand : (registry : Registry) (changes : List ℕ) (earliest : ℕ) → IsEarliest changes earliest → (es : List (ℕ × Slot)) (all : List Connection) → AllZip (StandsForConnection registry) (values_of es) all
    → AllZip (StandsForConnection registry) (values_of (all_evicted earliest es)) (map (evict_early changes) all)
all_stand registry changes earliest e [] [] z = tt
all_stand registry changes earliest e [] (c ∷ all) z = absurd z
all_stand registry changes earliest e (s ∷ es) [] z = absurd z
all_stand registry changes earliest e (s ∷ es) (c ∷ all) z = (evicted_stands registry changes earliest s.1 c e z.0, all_stand registry changes earliest e es all z.1)

pub table_evicts : (registry : Registry) (changes : List ℕ) (earliest : ℕ) (table : Table) (c : Connections) → IsEarliest changes earliest → StandsForConnections registry table c
    → StandsForConnections registry (record table { slots = all_evicted earliest table.slots }) (evict changes c)
table_evicts registry changes earliest table c e z = record { all = all_stand registry changes earliest e table.slots c.all z.all; next = z.next }

module _ (P : Slot → Type 0) (earliest : ℕ) (keeps : (slot : Slot) → P slot → P (evicted_slot earliest slot)) where
  pub all_keep : (es : List (ℕ × Slot)) → All P (values_of es) → All P (values_of (all_evicted earliest es))
  all_keep [] h = All-nil P
  all_keep (e ∷ es) h = All-cons P _ _ (keeps e.1 (All-head P e.1 (values_of es) h)) (all_keep es (All-tail P e.1 (values_of es) h))

pub lists_evicted : (registry : Registry) (earliest : ℕ) (slot : Slot) → CanContinueSlot registry slot → CanContinueSlot registry (evicted_slot earliest slot)
lists_evicted registry earliest slot told = grind arith

buffers_evicted : (tie earliest : ℕ) (slot : Slot) → HasBuffers tie slot → HasBuffers tie (evicted_slot earliest slot)
buffers_evicted tie earliest slot h = grind arith

charge_evicted : (earliest : ℕ) (slot : Slot) → charge (evicted_slot earliest slot) ≡ charge slot
charge_evicted earliest slot = grind arith

within_evicted : (earliest : ℕ) (slot : Slot) → IsWithin slot → IsWithin (evicted_slot earliest slot)
within_evicted earliest slot within = omega (arith, within, charge_evicted earliest slot)

held_evicted : (earliest : ℕ) (es : List (ℕ × Slot)) → held_in (values_of (all_evicted earliest es)) ≡ held_in (values_of es)
held_evicted earliest es = grind (arith, common_steps)

pub stays_evicted : (earliest : ℕ) (view now : Table) → view ≡ now → StaysTable now (record view { slots = all_evicted earliest view.slots })
stays_evicted earliest view now is = grind (arith, common_steps, all_keep IsWithin earliest (within_evicted earliest), within_evicted earliest)

number_evicted : (earliest : ℕ) (slot : Slot) → (evicted_slot earliest slot).number ≡ slot.number
number_evicted earliest slot = grind arith

any_numbered : (earliest number : ℕ) (es : List (ℕ × Slot)) → list_any (is_numbered number) (values_of (all_evicted earliest es)) ≡ list_any (is_numbered number) (values_of es)
any_numbered earliest number [] = refl
any_numbered earliest number (e ∷ es) = rw (number_evicted earliest e.1, any_numbered earliest number es) refl

numbered_evicted : (given earliest : ℕ) (es : List (ℕ × Slot)) → AreNumbered given (values_of es) → AreNumbered given (values_of (all_evicted earliest es))
numbered_evicted given earliest [] n = grind (arith, common_steps, number_evicted, any_numbered)
numbered_evicted given earliest (e ∷ es) n = grind (arith, common_steps, number_evicted, any_numbered, numbered_evicted given earliest es n.2)

pub length_evicted : (earliest : ℕ) (es : List (ℕ × Slot)) → length (all_evicted earliest es) ≡ length es
length_evicted earliest es = grind (arith, common_steps)

missing : (earliest key : ℕ) (es : List (ℕ × Slot)) → value_at es key ≡ None → value_at (all_evicted earliest es) key ≡ None
missing earliest key [] h = grind arith
missing earliest key (e ∷ es) h = grind (arith, missing earliest key es)

distinct_evicted : (earliest : ℕ) (es : List (ℕ × Slot)) → HasDistinctKeys es → HasDistinctKeys (all_evicted earliest es)
distinct_evicted earliest [] d = tt
distinct_evicted earliest (e ∷ es) d = (missing earliest e.0 es d.0, distinct_evicted earliest es d.1)

pub table_evicted : (slots : Pool Slot) (spare : Pool Buffers) (given conns held earliest : ℕ) → IsTable slots spare given conns held → IsTable (with_evicted earliest slots) spare given conns held
table_evicted slots spare given conns held earliest t = record {
  distinct = distinct_evicted earliest slots.entries t.distinct;
  spare_distinct = t.spare_distinct;
  room = rw (length_evicted earliest slots.entries) t.room;
  cap = t.cap;
  spare_cap = t.spare_cap;
  tie = t.tie;
  buffers = all_keep (HasBuffers slots.tie) earliest (buffers_evicted slots.tie earliest) slots.entries t.buffers;
  spare_buffers = t.spare_buffers;
  numbers = numbered_evicted given earliest slots.entries t.numbers;
  few = t.few;
  within = all_keep IsWithin earliest (within_evicted earliest) slots.entries t.within;
  is_held = t.is_held ∙ sym (held_evicted earliest slots.entries);
}

-- those that are left began later
pub later_evicted : (earliest : ℕ) (slots : List (ℕ × Slot)) → All (λ stamp. earliest ≤ stamp) (filter_map stamp_of_slot (values_of (all_evicted earliest slots)))
later_evicted earliest [] = grind arith
later_evicted earliest (e ∷ es) = grind (arith, later_evicted earliest es)

-- ---- the table as a whole

any_idle : (earliest id : ℕ) (es : List (ℕ × Slot)) → list_any (is_idle_slot id) (values_of es) ≡ true → list_any (is_idle_slot id) (values_of (all_evicted earliest es)) ≡ true
any_idle earliest id [] h = grind arith
any_idle earliest id (e ∷ es) h = grind (arith, any_idle earliest id es)

pub idle_evicted : (earliest id : ℕ) (table : Table) → has_idle id table ≡ true → has_idle id (record table { slots = all_evicted earliest table.slots }) ≡ true
unfolding has_idle
idle_evicted earliest id table h = any_idle earliest id table.slots h

free_alike : (earliest id : ℕ) (slot : Slot) → is_free_slot id (evicted_slot earliest slot) ≡ is_free_slot id slot
free_alike earliest id slot = grind arith

any_free : (earliest id : ℕ) (es : List (ℕ × Slot)) → list_any (is_free_slot id) (values_of (all_evicted earliest es)) ≡ list_any (is_free_slot id) (values_of es)
any_free earliest id [] = refl
any_free earliest id (e ∷ es) = rw (free_alike earliest id e.1, any_free earliest id es) refl

pub none_freed_by_eviction : (earliest : ℕ) (table : Table) → NoneIsFreed table (record table { slots = all_evicted earliest table.slots })
unfolding is_free
none_freed_by_eviction earliest table = λ id none. rw (any_free earliest id table.slots) none

-- ---- the oldest list

-- the lesser of a number and the least of some others is the least of all
least_of_more : (m : ℕ) (ns : List ℕ) (oldest : Option ℕ) → IsOldest ns oldest → IsOldest (m ∷ ns) (sooner_of (Some m) oldest)
least_of_more m ns None h = rw h ((0, omega arith, refl), All-cons (λ n. m ≤ n) m [] (omega arith) (All-nil (λ n. m ≤ n)))
least_of_more m ns (Some k) h = elim (cases_lt k m) [ inl less ↦ by_rest less | inr more ↦ by_first more ]
  where
    by_rest : k < m → IsOldest (m ∷ ns) (Some (min m k))
    by_rest less =
        let e : min m k ≡ k = omega (arith, less) in
        rw e ((suc h.0.0, omega (arith, h.0.1), h.0.2), All-cons (λ n. k ≤ n) m ns (omega (arith, less)) h.1)

    by_first : m ≤ k → IsOldest (m ∷ ns) (Some (min m k))
    by_first more =
        let e : min m k ≡ m = omega (arith, more) in
        rw e ((0, omega arith, refl), All-cons (λ n. m ≤ n) m ns (omega arith) (λ i d within. omega (arith, more, h.1 i d within)))

pub oldest_found : (slots : List Slot) → IsOldest (filter_map stamp_of_slot slots) (soonest_of (map stamp_of_slot slots))
oldest_found [] = refl
oldest_found (slot ∷ slots) = by_stamp (stamp_of_slot slot) refl (oldest_found slots)
  where
    by_stamp : (stamp : Option ℕ) → stamp_of_slot slot ≡ stamp → IsOldest (filter_map stamp_of_slot slots) (soonest_of (map stamp_of_slot slots))
        → IsOldest (filter_map stamp_of_slot (slot ∷ slots)) (soonest_of (map stamp_of_slot (slot ∷ slots)))
    by_stamp None e further = rw e further
    by_stamp (Some m) e further = rw e (least_of_more m (filter_map stamp_of_slot slots) _ further)
