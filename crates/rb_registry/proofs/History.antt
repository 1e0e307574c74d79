-- The slots that a registry keeps of the rows that ever were there.
use Rattle.std.proofs.Common.{◌≡◌, ℕ, ◌+◌, ◌≤◌, ◌<◌, max, Bool, true, false, not, cond, ◌&&◌, List, [], ◌∷◌, ◌++◌, map, length, Option, Some, None, refl, sym, ap, ◌∙◌, append_assoc, arith}
use Rattle.std.specs.Prelude.{filter, unwrap_or, min, IfSome, is_none, ◌==◌}
use Rattle.std.specs.List.{list_all}
use Rattle.std.specs.Map.{values_of}
use Rattle.std.proofs.lemmas.Bool.Decides.{nat_tests}
use Rattle.std.proofs.lemmas.List.{map-append}
use Rattle.std.proofs.lemmas.List.Elements.{filter-append}
use Rattle.rb_registry.specs.declared.row.Row.{Row}
use Rattle.rb_registry.specs.declared.slot.Slot.{Slot}
use Rattle.rb_address.specs.declared.who.Owner.{Owner}
use Rattle.rb_registry.specs.declared.row.Which.{Which}
use Rattle.rb_registry.specs.Rows.{Change, covers, rpcb_prog}
use Rattle.rb_registry.specs.Rows.Change.{Added, Removed}
use Rattle.rb_registry.specs.Slots.{slot_of, removed_by, is_dropped, removal_of, slots_by, all_slots, slots_from}
use Rattle.rb_registry.specs.Table.{IsStamped, AreStamped, entries_left}
use Rattle.rb_registry.proofs.Marked.{with_mark, entries_with_marks}
use Rattle.rb_registry.specs.Registry.{AreOwn}
use Rattle.rb_registry.proofs.Changes.{own_row, both}
use Rattle.rb_xdr.proofs.PoolLemmas.{values_of-push}
use Rattle.rb_registry.proofs.Finds.{values_of-filter}
use Rattle.rb_registry.proofs.Tables.{live_has_none}

-- ---- one slot at a change

abbrev next_removal : Bool → ℕ → Option ℕ → Option ℕ
next_removal covered number None = cond covered (Some number) None
next_removal covered number (Some removed) = Some removed

abbrev noted : ℕ → Change → Slot → Slot
noted number change slot = record slot { removed = next_removal (covers slot.row change) number slot.removed }

marked_noted : (stamp : ℕ) (change : Change) (slot : Slot) → IsStamped stamp slot → with_mark stamp change slot ≡ noted (stamp + 1) change slot
marked_noted stamp change slot h = rw (live_has_none stamp slot h) (by_removed slot.removed refl)
  where
    by_removed : (removed : Option ℕ) → slot.removed ≡ removed
        → cond (is_none removed && covers slot.row change) (record slot { removed = Some (stamp + 1) }) slot ≡ record slot { removed = next_removal (covers slot.row change) (stamp + 1) removed }
    by_removed None e = by_test (covers slot.row change)
      where
        by_test : (c : Bool) → cond c (record slot { removed = Some (stamp + 1) }) slot ≡ record slot { removed = cond c (Some (stamp + 1)) None }
        by_test true = refl
        by_test false = rw (← e) refl
    by_removed (Some r) e = rw (← e) refl

-- an accepted SET removes nothing
noted_added : (number : ℕ) (row : Row) (slots : List Slot) → map (noted number (Added row)) slots ≡ slots
unfolding covers
noted_added number row [] = refl
noted_added number row (slot ∷ slots) = rw (same slot.removed, noted_added number row slots) refl
  where
    same : (removed : Option ℕ) → next_removal false number removed ≡ removed
    same None = refl
    same (Some r) = refl

-- nobody removes an own row
noted_own : (number prog vers : ℕ) (which : Which) (owner : Owner) (own : List Row) → AreOwn own → map (noted number (Removed prog vers which owner)) (map (slot_of 0) own) ≡ map (slot_of 0) own
noted_own number prog vers which owner [] h = refl
noted_own number prog vers which owner (row ∷ own) h =
    let parts = both (row.prog == rpcb_prog) (list_all (λ (row : Row). row.prog == rpcb_prog) own) h in
    rw (own_row row prog vers which owner parts.0, noted_own number prog vers which owner own parts.1) refl

-- ---- one more change

removal_of-append : (count number : ℕ) (row : Row) (later : List Change) (change : Change) → number ≡ count + length later + 1
    → removal_of count row (later ++ change ∷ []) ≡ next_removal (covers row change) number (removal_of count row later)
removal_of-append count number row [] change e =
    let f : number ≡ count + 1 = omega (arith, e) in
    rw f refl
removal_of-append count number row (first ∷ later) change e = by_test (covers row first) (removal_of-append (count + 1) number row later change (omega (arith, e)))
  where
    by_test : (c : Bool) → removal_of (count + 1) row (later ++ change ∷ []) ≡ next_removal (covers row change) number (removal_of (count + 1) row later)
        → cond c (Some (count + 1)) (removal_of (count + 1) row (later ++ change ∷ [])) ≡ next_removal (covers row change) number (cond c (Some (count + 1)) (removal_of (count + 1) row later))
    by_test true further = refl
    by_test false further = further

slots_by-append : (count base : ℕ) (changes : List Change) (change : Change) → base ≡ count + length changes
    → slots_by count (changes ++ change ∷ []) ≡ map (noted (base + 1) change) (slots_by count changes) ++ slots_by base (change ∷ [])
slots_by-append count base [] change e =
    let f : base ≡ count = omega (arith, e) in
    rw f refl
slots_by-append count base (Added row ∷ later) change e =
    let here : removal_of (count + 1) row (later ++ change ∷ []) ≡ next_removal (covers row change) (base + 1) (removal_of (count + 1) row later) = removal_of-append (count + 1) (base + 1) row later change (omega (arith, e)) in
    rw (here, slots_by-append (count + 1) base later change (omega (arith, e))) refl
slots_by-append count base (Removed prog vers which owner ∷ later) change e = slots_by-append (count + 1) base later change (omega (arith, e))

all_slots-added : (own : List Row) (changes : List Change) (row : Row) → all_slots own (changes ++ Added row ∷ []) ≡ all_slots own changes ++ slot_of (length changes + 1) row ∷ []
all_slots-added own changes row =
    rw (slots_by-append 0 (length changes) changes (Added row) (omega arith), noted_added (length changes + 1) row (slots_by 0 changes))
    (sym (append_assoc (map (slot_of 0) own) (slots_by 0 changes) (slot_of (length changes + 1) row ∷ [])))

append_none : (slots : List Slot) → slots ++ [] ≡ slots
append_none [] = refl
append_none (slot ∷ slots) = ap (λ (ss : List Slot). slot ∷ ss) (append_none slots)

all_slots-removed : (own : List Row) (changes : List Change) (prog vers : ℕ) (which : Which) (owner : Owner) → AreOwn own
    → all_slots own (changes ++ Removed prog vers which owner ∷ []) ≡ map (noted (length changes + 1) (Removed prog vers which owner)) (all_slots own changes)
all_slots-removed own changes prog vers which owner h =
    let gone = Removed prog vers which owner in
    let later : slots_by 0 (changes ++ gone ∷ []) ≡ map (noted (length changes + 1) gone) (slots_by 0 changes) = slots_by-append 0 (length changes) changes gone (omega arith) ∙ append_none _ in
    rw (later, map-append (noted (length changes + 1) gone) (map (slot_of 0) own) (slots_by 0 changes), noted_own (length changes + 1) prog vers which owner own h) refl

-- ---- what is kept of them

abbrev still : ℕ → Slot → Bool
still floor slot = not (is_dropped (Some floor) slot)

still_noted : (floor number : ℕ) (change : Change) (slot : Slot) → floor < number → still floor (noted number change slot) ≡ still floor slot
unfolding is_dropped
still_noted floor number change slot lt = by_removed slot.removed (covers slot.row change)
  where
    by_removed : (removed : Option ℕ) (c : Bool) → not (removed_by (next_removal c number removed) (Some floor)) ≡ not (removed_by removed (Some floor))
    by_removed None true = grind (arith, nat_tests, lt)
    by_removed None false = refl
    by_removed (Some r) c = refl

filter_noted : (floor number : ℕ) (change : Change) (slots : List Slot) → floor < number → filter (still floor) (map (noted number change) slots) ≡ map (noted number change) (filter (still floor) slots)
filter_noted floor number change [] lt = refl
filter_noted floor number change (slot ∷ slots) lt = rw (still_noted floor number change slot lt, filter_noted floor number change slots lt) (by_test (still floor slot))
  where
    by_test : (b : Bool) → cond b (noted number change slot ∷ map (noted number change) (filter (still floor) slots)) (map (noted number change) (filter (still floor) slots))
        ≡ map (noted number change) (cond b (slot ∷ filter (still floor) slots) (filter (still floor) slots))
    by_test true = refl
    by_test false = refl

values_noted : (stamp : ℕ) (change : Change) (entries : List (ℕ × Slot)) → AreStamped stamp entries → values_of (entries_with_marks stamp change entries) ≡ map (noted (stamp + 1) change) (values_of entries)
values_noted stamp change [] h = refl
values_noted stamp change (e ∷ rest) h = rw (marked_noted stamp change e.1 h.0, values_noted stamp change rest h.1) refl

still_new : (floor added : ℕ) (row : Row) → still floor (slot_of added row) ≡ true
unfolding is_dropped
still_new floor added row = refl

-- ---- each call

pub slots-set : (floor stamp key : ℕ) (row : Row) (entries : List (ℕ × Slot)) (own : List Row) (changes : List Change) → stamp ≡ length changes
    → values_of entries ≡ slots_from floor own changes → values_of (entries ++ (key, slot_of (stamp + 1) row) ∷ []) ≡ slots_from floor own (changes ++ Added row ∷ [])
slots-set floor stamp key row entries own changes count same =
    values_of-push entries key (slot_of (stamp + 1) row)
    ∙ rw (same, all_slots-added own changes row, filter-append (still floor) (all_slots own changes) (slot_of (length changes + 1) row ∷ []), still_new floor (length changes + 1) row, count) refl

pub slots-unset : (floor stamp : ℕ) (prog vers : ℕ) (which : Which) (owner : Owner) (entries : List (ℕ × Slot)) (own : List Row) (changes : List Change) → floor ≤ stamp → AreStamped stamp entries → AreOwn own
    → stamp ≡ length changes → values_of entries ≡ slots_from floor own changes
    → values_of (entries_with_marks stamp (Removed prog vers which owner) entries) ≡ slots_from floor own (changes ++ Removed prog vers which owner ∷ [])
slots-unset floor stamp prog vers which owner entries own changes made stamped are_own count same =
    let gone = Removed prog vers which owner in
    let lt : floor < length changes + 1 = omega (arith, made, count) in
    let now : values_of (entries_with_marks stamp gone entries) ≡ map (noted (length changes + 1) gone) (slots_from floor own changes) = values_noted stamp gone entries stamped ∙ rw (same, count) refl in
    now ∙ sym (rw (all_slots-removed own changes prog vers which owner are_own) (filter_noted floor (length changes + 1) gone (all_slots own changes) lt))

-- a trim that names no stamp, or one to come, counts as one that names the present one
dropped_named : (stamp : ℕ) (oldest : Option ℕ) (slot : Slot) → IsStamped stamp slot → is_dropped oldest slot ≡ is_dropped (Some (min (unwrap_or oldest stamp) stamp)) slot
unfolding is_dropped
dropped_named stamp (Some o) slot h = by_removed slot.removed h.removed
  where
    by_removed : (removed : Option ℕ) → IfSome removed (λ r. r ≤ stamp) → removed_by removed (Some o) ≡ removed_by removed (Some (min o stamp))
    by_removed None p = refl
    by_removed (Some r) p = grind (arith, nat_tests, p)
dropped_named stamp None slot h = by_removed slot.removed h.removed
  where
    by_removed : (removed : Option ℕ) → IfSome removed (λ r. r ≤ stamp) → removed_by removed None ≡ removed_by removed (Some (min stamp stamp))
    by_removed None p = refl
    by_removed (Some r) p = grind (arith, nat_tests, p)

filter_named : (stamp : ℕ) (oldest : Option ℕ) (entries : List (ℕ × Slot)) → AreStamped stamp entries
    → filter (λ e. not (is_dropped oldest e.1)) entries ≡ filter (λ e. still (min (unwrap_or oldest stamp) stamp) e.1) entries
filter_named stamp oldest [] h = refl
filter_named stamp oldest (e ∷ rest) h = rw (dropped_named stamp oldest e.1 h.0, filter_named stamp oldest rest h.1) refl

still_both : (a b : ℕ) (slot : Slot) → (still a slot && still b slot) ≡ still (max a b) slot
unfolding is_dropped
still_both a b slot = by_removed slot.removed
  where
    by_removed : (removed : Option ℕ) → (not (removed_by removed (Some a)) && not (removed_by removed (Some b))) ≡ not (removed_by removed (Some (max a b)))
    by_removed None = refl
    by_removed (Some r) = grind (arith, nat_tests)

filter_both : (a b : ℕ) (slots : List Slot) → filter (still b) (filter (still a) slots) ≡ filter (still (max a b)) slots
filter_both a b [] = refl
filter_both a b (slot ∷ slots) = rw (← still_both a b slot, ← filter_both a b slots) (by_test (still a slot) (still b slot) refl)
  where
    by_test : (s t : Bool) → still b slot ≡ t → filter (still b) (cond s (slot ∷ filter (still a) slots) (filter (still a) slots)) ≡ cond (s && t) (slot ∷ filter (still b) (filter (still a) slots)) (filter (still b) (filter (still a) slots))
    by_test true t e = rw e refl
    by_test false t e = refl

pub slots-trim : (floor stamp : ℕ) (oldest : Option ℕ) (entries : List (ℕ × Slot)) (own : List Row) (changes : List Change) → AreStamped stamp entries
    → values_of entries ≡ slots_from floor own changes → values_of (entries_left oldest entries) ≡ slots_from (max floor (min (unwrap_or oldest stamp) stamp)) own changes
slots-trim floor stamp oldest entries own changes stamped same =
    ap (λ (es : List (ℕ × Slot)). values_of es) (filter_named stamp oldest entries stamped)
    ∙ values_of-filter (still (min (unwrap_or oldest stamp) stamp)) entries
    ∙ rw same (filter_both floor (min (unwrap_or oldest stamp) stamp) (all_slots own changes))

own_slots : (floor : ℕ) (own : List Row) → filter (still floor) (map (slot_of 0) own) ≡ map (slot_of 0) own
own_slots floor [] = refl
own_slots floor (row ∷ own) = rw (still_new floor 0 row, own_slots floor own) refl

pub slots-new : (floor : ℕ) (own : List Row) → slots_from floor own [] ≡ map (slot_of 0) own
slots-new floor own = rw (append_none (map (slot_of 0) own)) (own_slots floor own)
