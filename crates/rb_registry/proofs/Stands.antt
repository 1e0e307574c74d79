-- What a registry stands for after a call.
use Rattle.std.proofs.Common.{◌≡◌, ℕ, ◌+◌, ◌<◌, ◌≤◌, Bool, true, false, not, cond, List, [], ◌∷◌, ◌++◌, length, take, Option, sym, ap, ◌∙◌, append_assoc, length-append, refl, arith, inl, inr}
use Rattle.std.specs.Prelude.{filter}
use Rattle.std.specs.Map.{values_of}
use Rattle.std.proofs.lemmas.Bool.{cases_eq}
use Rattle.std.proofs.lemmas.List.{take-append-le, take_all, length-map}
use Rattle.std.proofs.lemmas.List.Elements.{filter-append}
use Rattle.std.proofs.lemmas.Map.Entries.{length-values_of}
use Rattle.rb_registry.specs.declared.row.Row.{Row}
use Rattle.rb_registry.specs.declared.slot.Slot.{Slot}
use Rattle.rb_address.specs.declared.who.Owner.{Owner}
use Rattle.rb_registry.specs.declared.row.Which.{Which}
use Rattle.rb_registry.specs.Rows.{Change, covers, left_by, live}
use Rattle.rb_registry.specs.Rows.Change.{Added, Removed}
use Rattle.rb_registry.specs.Slots.{slot_of, is_dropped, slots_from}
use Rattle.rb_registry.specs.Table.{AreStamped, entries_left}
use Rattle.rb_registry.proofs.Marked.{with_mark}
use Rattle.rb_registry.specs.Registry.{Registry, Reaches, StandsForChanges, slots_of, rows_of, rows_at, table_of, retained_count}
use Rattle.rb_registry.proofs.Changes.{left_by-added, left_by-removed, own_stay}
use Rattle.rb_xdr.proofs.PoolLemmas.{values_of-push}
use Rattle.rb_registry.proofs.Finds.{values_of-filter}
use Rattle.rb_registry.proofs.Tables.{set_before, set_now, marked_table_before, marked_table_after, live_and_retained, AreStamped-push, AreStamped-marked, AreStamped-filter}
use Rattle.rb_registry.proofs.Registries.{with_row, with_removal, trimmed, trimmed_at, trimmed_now}
use Rattle.rb_registry.proofs.History.{slots-set, slots-unset, slots-trim}

-- ---- any call

pub all_counted : (kept : Registry) → AreStamped kept.stamp kept.entries → length (rows_of kept) + retained_count kept ≡ length (slots_of kept)
all_counted kept stamped = live_and_retained kept.stamp kept.entries stamped ∙ sym (length-values_of kept.entries)

-- one more change
record OneMore (old new : Registry) (own : List Row) (changes : List Change) (change : Change) : Type 0 where
  floor : new.floor ≡ old.floor
  stamp : new.stamp ≡ old.stamp + 1
  limit : new.limit ≡ old.limit
  before : (n : ℕ) → n ≤ old.stamp → table_of new n ≡ table_of old n
  rows : rows_of new ≡ live own (changes ++ change ∷ [])
  slots : slots_of new ≡ slots_from old.floor own (changes ++ change ∷ [])
  stamped : AreStamped new.stamp new.entries
  within : length (slots_of new) ≤ old.limit

after_change : (old new : Registry) (own : List Row) (changes : List Change) (change : Change) → StandsForChanges old own changes
    → OneMore old new own changes change → StandsForChanges new own (changes ++ change ∷ [])
after_change old new own changes change h more = record {
  are_own = h.are_own;
  rows = more.rows;
  past = past;
  slots = rw more.floor more.slots;
  counted = all_counted new more.stamped;
  within = rw more.limit more.within;
  stamp = more.stamp ∙ rw h.stamp (sym (length-append changes (change ∷ [])));
}
  where
    whole : length (changes ++ change ∷ []) ≡ old.stamp + 1
    whole = length-append changes (change ∷ []) ∙ rw (← h.stamp) refl

    past : (n : ℕ) → Reaches new n → rows_at new n ≡ live own (take n (changes ++ change ∷ []))
    past n reached = elim (cases_eq n (old.stamp + 1)) [
      | inl e ↦
          let all : take n (changes ++ change ∷ []) ≡ changes ++ change ∷ [] = take_all n (changes ++ change ∷ []) (omega (arith, whole, e)) in
          let at : rows_at new n ≡ rows_of new = ap (λ (k : ℕ). rows_at new k) (e ∙ sym more.stamp) in
          rw all (at ∙ more.rows)
      | inr ne ↦
          let next = more.stamp in
          let f = reached.from_floor in
          let m = reached.made in
          let same_floor = more.floor in
          let within : n ≤ old.stamp = omega (arith, m, next, ne) in
          let fits : n ≤ length changes = omega (arith, within, h.stamp) in
          let before : take n (changes ++ change ∷ []) ≡ take n changes = take-append-le n changes (change ∷ []) fits in
          let floor : old.floor ≤ n = omega (arith, f, same_floor) in
          rw before (ap (λ (es : List (ℕ × Row)). values_of es) (more.before n within) ∙ h.past n (record { from_floor = floor; made = within }))
    ]

-- ---- SET

pub after_set : (kept : Registry) (key : ℕ) (row : Row) (own : List Row) (changes : List Change) → length row.addr ≤ 128 → AreStamped kept.stamp kept.entries → length kept.entries < kept.limit
    → StandsForChanges kept own changes → StandsForChanges (with_row kept key row) own (changes ++ Added row ∷ [])
after_set kept key row own changes few stamped room h =
    let now : rows_of (with_row kept key row) ≡ rows_of kept ++ row ∷ [] = ap (λ (es : List (ℕ × Row)). values_of es) (set_now kept.stamp key row kept.entries stamped) ∙ values_of-push (table_of kept kept.stamp) key row in
    let longer : length (kept.entries ++ (key, slot_of (kept.stamp + 1) row) ∷ []) ≡ length kept.entries + 1 = length-append kept.entries ((key, slot_of (kept.stamp + 1) row) ∷ []) in
    let as_many = length-values_of (with_row kept key row).entries in
    after_change kept (with_row kept key row) own changes (Added row) h (record {
      floor = refl;
      stamp = refl;
      limit = refl;
      before = λ n m. set_before kept.stamp n key row kept.entries m;
      rows = now ∙ rw (h.rows, left_by-added changes row) (append_assoc own (left_by changes) (row ∷ []));
      slots = slots-set kept.floor kept.stamp key row kept.entries own changes h.stamp h.slots;
      stamped = AreStamped-push kept.stamp key row kept.entries few stamped;
      within = omega (arith, room, longer, as_many);
    })

-- ---- UNSET

pub after_unset : (kept : Registry) (prog vers : ℕ) (which : Which) (owner : Owner) (own : List Row) (changes : List Change) → AreStamped kept.stamp kept.entries → kept.floor ≤ kept.stamp
    → StandsForChanges kept own changes → StandsForChanges (with_removal kept (Removed prog vers which owner)) own (changes ++ Removed prog vers which owner ∷ [])
after_unset kept prog vers which owner own changes stamped made h =
    let gone = Removed prog vers which owner in
    let now : rows_of (with_removal kept gone) ≡ filter (λ row. not (covers row gone)) (rows_of kept) =
    ap (λ (es : List (ℕ × Row)). values_of es) (marked_table_after kept.stamp gone kept.entries stamped) ∙ values_of-filter (λ (row : Row). not (covers row gone)) (table_of kept kept.stamp) in
    let as_long : length (with_removal kept gone).entries ≡ length kept.entries = length-map {B = ℕ × Slot} kept.entries (λ (e : ℕ × Slot). (e.0, with_mark kept.stamp gone e.1)) in
    let as_many = length-values_of (with_removal kept gone).entries in
    let as_many_before = length-values_of kept.entries in
    let within = h.within in
    after_change kept (with_removal kept gone) own changes gone h (record {
      floor = refl;
      stamp = refl;
      limit = refl;
      before = λ n m. marked_table_before kept.stamp n gone kept.entries stamped m;
      rows = now ∙ rw (h.rows, filter-append (λ (row : Row). not (covers row gone)) own (left_by changes), own_stay own prog vers which owner h.are_own, left_by-removed changes prog vers which owner) refl;
      slots = slots-unset kept.floor kept.stamp prog vers which owner kept.entries own changes made stamped h.are_own h.stamp h.slots;
      stamped = AreStamped-marked kept.stamp gone kept.entries stamped;
      within = omega (arith, as_long, as_many, as_many_before, within);
    })

-- ---- trim

length-filter_le : (test : ℕ × Slot → Bool) (entries : List (ℕ × Slot)) → length (filter test entries) ≤ length entries
length-filter_le test [] = omega arith
length-filter_le test (e ∷ rest) = by_test (test e) (length-filter_le test rest)
  where
    by_test : (b : Bool) → length (filter test rest) ≤ length rest → length (cond b (e ∷ filter test rest) (filter test rest)) ≤ length (e ∷ rest)
    by_test true h = omega (arith, h)
    by_test false h = omega (arith, h)

pub fewer_left : (oldest : Option ℕ) (entries : List (ℕ × Slot)) → length (entries_left oldest entries) ≤ length entries
fewer_left oldest entries = length-filter_le (λ (e : ℕ × Slot). not (is_dropped oldest e.1)) entries

pub after_trim : (kept : Registry) (oldest : Option ℕ) (own : List Row) (changes : List Change) → AreStamped kept.stamp kept.entries
    → StandsForChanges kept own changes → StandsForChanges (trimmed kept oldest) own changes
after_trim kept oldest own changes stamped h =
    let fewer = fewer_left oldest kept.entries in
    let as_many = length-values_of (trimmed kept oldest).entries in
    let as_many_before = length-values_of kept.entries in
    let within = h.within in
    record {
      are_own = h.are_own;
      rows = trimmed_now kept oldest stamped ∙ h.rows;
      past = λ n reached. let f = reached.from_floor in ap (λ (es : List (ℕ × Row)). values_of es) (trimmed_at kept oldest stamped n f) ∙ h.past n (record { from_floor = omega (arith, f); made = reached.made });
      slots = slots-trim kept.floor kept.stamp oldest kept.entries own changes stamped h.slots;
      counted = all_counted (trimmed kept oldest) (AreStamped-filter kept.stamp (λ e. not (is_dropped oldest e.1)) kept.entries stamped);
      within = omega (arith, fewer, as_many, as_many_before, within);
      stamp = h.stamp;
    }
