-- What each call leaves of the tables at earlier moments.
use Rattle.std.proofs.Common.{◌≡◌, ℕ, suc, ◌+◌, ◌≤◌, ◌<◌, Bool, true, false, not, cond, eqb, ◌&&◌, ◌||◌, List, [], ◌∷◌, ◌++◌, length, Option, Some, None, refl, sym, ap, ◌∙◌, append-nil, inl, inr, ◌⊎◌, subst, arith}
use Rattle.std.specs.Prelude.{filter, nat_le, nat_lt, unwrap_or, option_map, IsSome, IfSome, is_none, Contains, All, fold, min, ◌==◌}
use Rattle.std.specs.List.{list_any, list_all, cons_option}
use Rattle.std.specs.Map.{values_of}
use Rattle.std.proofs.lemmas.Bool.{cases_eq}
use Rattle.std.proofs.lemmas.List.Elements.{Contains-append_right, All-nil, All-cons}
use Rattle.std.proofs.lemmas.Bool.Decides.{nat_tests}
use Rattle.rb_xdr.specs.Pool.{value_at, HasDistinctKeys}
use Rattle.rb_xdr.specs.Places.{behind, count_to, to_come, count_passed}
use Rattle.rb_registry.specs.declared.row.Row.{Row}
use Rattle.rb_registry.specs.declared.slot.Slot.{Slot}
use Rattle.rb_registry.specs.Rows.{Change, covers, rpcb_prog}
use Rattle.rb_registry.specs.Slots.{is_live_at, stays_at, slot_of, removed_by, is_dropped}
use Rattle.rb_registry.specs.Table.{IsStamped, AreStamped, OwnAreOurs, lesser_of, least_of, IsLeast}
use Rattle.rb_registry.proofs.Marked.{goes, with_mark, entries_with_marks}
use Rattle.rb_registry.specs.Registry.{table_at, live_at, removals, AreOwn}

-- ---- one slot

-- a new row is live from its change on, and not before
pub not_yet : (n added : ℕ) (row : Row) → n < added → is_live_at n (slot_of added row) ≡ false
unfolding is_live_at
not_yet n added row h = grind (arith, nat_tests, h)

pub at_once : (added : ℕ) (row : Row) → is_live_at added (slot_of added row) ≡ true
unfolding is_live_at
at_once added row = grind (arith, nat_tests)

-- after the last change, a slot is live exactly if it was then
stays_past : (stamp n : ℕ) (removed : Option ℕ) → IfSome removed (λ r. r ≤ stamp) → stamp ≤ n → stays_at n removed ≡ stays_at stamp removed
stays_past stamp n None h le = refl
stays_past stamp n (Some r) h le = grind (arith, nat_tests, h, le)

pub live_on : (stamp n : ℕ) (slot : Slot) → IsStamped stamp slot → stamp ≤ n → is_live_at n slot ≡ is_live_at stamp slot
unfolding is_live_at
live_on stamp n slot h le =
    let a : slot.added ≤ stamp = h.added in
    let e : nat_le slot.added n ≡ true = grind (arith, nat_tests, a, le) in
    let f : nat_le slot.added stamp ≡ true = grind (arith, nat_tests, a) in
    rw (e, f) (stays_past stamp n slot.removed h.removed le)

-- a row that is live at the last change has no removal
no_removal : (stamp : ℕ) (removed : Option ℕ) → IfSome removed (λ r. r ≤ stamp) → stays_at stamp removed ≡ true → removed ≡ None
no_removal stamp None h t = refl
no_removal stamp (Some r) h t = absurd (grind (arith, nat_tests, h, t))

removed_later : (stamp : ℕ) (removed : Option ℕ) → IfSome removed (λ r. r ≤ stamp) → IfSome removed (λ r. r ≤ stamp + 1)
removed_later stamp None p = tt
removed_later stamp (Some r) p = omega (arith, p)

IsStamped-later : (stamp : ℕ) (slot : Slot) → IsStamped stamp slot → IsStamped (stamp + 1) slot
IsStamped-later stamp slot h = record { added = omega (arith, h.added); removed = removed_later stamp slot.removed h.removed; addr = h.addr; ours = h.ours }

both : (a b : Bool) → (a && b) ≡ true → (a ≡ true) × (b ≡ true)
both true b e = (refl, e)
both false b e = absurd cc

module _ (stamp : ℕ) (change : Change) (slot : Slot) (h : IsStamped stamp slot) where
  abbrev removed_next : Slot
  removed_next = record slot { removed = Some (stamp + 1) }

  next_before : (n : ℕ) → n ≤ stamp → is_live_at stamp slot ≡ true → is_live_at n removed_next ≡ is_live_at n slot
  unfolding is_live_at
  next_before n le live =
      let parts = both (nat_le slot.added stamp) (stays_at stamp slot.removed) live in
      let none : slot.removed ≡ None = no_removal stamp slot.removed h.removed parts.1 in
      let e : nat_lt n (stamp + 1) ≡ true = grind (arith, nat_tests, le) in
      rw (none, e) refl

  next_after : is_live_at (stamp + 1) removed_next ≡ false
  unfolding is_live_at
  next_after =
      let e : nat_lt (stamp + 1) (stamp + 1) ≡ false = grind (arith, nat_tests) in
      rw e (and_false (nat_le slot.added (stamp + 1)))
    where
      and_false : (b : Bool) → (b && false) ≡ false
      and_false true = refl
      and_false false = refl

  -- a removal changes nothing at the moments before it
  pub marked_before : (n : ℕ) → n ≤ stamp → is_live_at n (with_mark stamp change slot) ≡ is_live_at n slot
  marked_before n le = by_test (goes stamp change slot) refl
    where
      by_test : (b : Bool) → goes stamp change slot ≡ b → is_live_at n (cond b removed_next slot) ≡ is_live_at n slot
      by_test true t = next_before n le ((both (is_live_at stamp slot) (covers slot.row change) t).0)
      by_test false t = refl

  pub marked_row : (with_mark stamp change slot).row ≡ slot.row
  marked_row = elim (goes stamp change slot) as (λ b. (cond b removed_next slot).row ≡ slot.row) [ true ↦ refl | false ↦ refl ]

  -- after it those are live that were and that it does not cover
  pub marked_after : is_live_at (stamp + 1) (with_mark stamp change slot) ≡ (is_live_at stamp slot && not (covers slot.row change))
  marked_after = by_tests (is_live_at stamp slot) refl (covers slot.row change) (live_on stamp (stamp + 1) slot h (omega arith))
    where
      by_tests : (b : Bool) → is_live_at stamp slot ≡ b → (c : Bool) → is_live_at (stamp + 1) slot ≡ is_live_at stamp slot
          → is_live_at (stamp + 1) (cond (b && c) removed_next slot) ≡ (b && not c)
      by_tests true t true e = next_after
      by_tests true t false e = e ∙ t
      by_tests false t c e = e ∙ t

  pub IsStamped-marked : IsStamped (stamp + 1) (with_mark stamp change slot)
  IsStamped-marked = elim (goes stamp change slot) as (λ b. IsStamped (stamp + 1) (cond b removed_next slot)) [
    | true ↦ record { added = omega (arith, h.added); removed = omega arith; addr = h.addr; ours = h.ours }
    | false ↦ IsStamped-later stamp slot h
  ]

pub not_marked : (stamp : ℕ) (change : Change) (slot : Slot) → goes stamp change slot ≡ false → with_mark stamp change slot ≡ slot
not_marked stamp change slot stays = rw stays refl

-- what a trim drops was not live at the moments from its stamp on
abbrev pub IsPast : ℕ → Option ℕ → ℕ → Type 0
IsPast stamp oldest n = (r : ℕ) → r ≤ stamp → removed_by (Some r) oldest ≡ true → r ≤ n

pub past_named : (stamp : ℕ) (oldest : Option ℕ) (n : ℕ) → min (unwrap_or oldest stamp) stamp ≤ n → IsPast stamp oldest n
past_named stamp None n le r p t = omega (arith, p, le)
past_named stamp (Some o) n le r p t = grind (arith, nat_tests, t, le)

pub past_now : (stamp : ℕ) (oldest : Option ℕ) → IsPast stamp oldest stamp
past_now stamp oldest r p t = p

pub dropped_dead : (stamp n : ℕ) (oldest : Option ℕ) (slot : Slot) → IsStamped stamp slot → is_dropped oldest slot ≡ true → IsPast stamp oldest n → is_live_at n slot ≡ false
unfolding is_live_at is_dropped
dropped_dead stamp n oldest slot h t le =
    let e : stays_at n slot.removed ≡ false = by_removed slot.removed oldest h.removed t le in
    rw e (and_false (nat_le slot.added n))
  where
    and_false : (b : Bool) → (b && false) ≡ false
    and_false true = refl
    and_false false = refl

    by_removed : (removed oldest : Option ℕ) → IfSome removed (λ r. r ≤ stamp) → removed_by removed oldest ≡ true → IsPast stamp oldest n → stays_at n removed ≡ false
    by_removed None oldest p t past = absurd cc
    by_removed (Some r) oldest p t past = let le : r ≤ n = past r p t in grind (arith, nat_tests, le)

-- ---- a table of them

pub table_at-push : (n key : ℕ) (slot : Slot) (entries : List (ℕ × Slot)) → table_at n (entries ++ (key, slot) ∷ []) ≡ table_at n entries ++ table_at n ((key, slot) ∷ [])
table_at-push n key slot [] = refl
table_at-push n key slot (e ∷ rest) =
    let further : table_at n (rest ++ (key, slot) ∷ []) ≡ table_at n rest ++ table_at n ((key, slot) ∷ []) = table_at-push n key slot rest in
    rw further (append_if (is_live_at n e.1) (table_at n rest) (table_at n ((key, slot) ∷ [])))
  where
    append_if : (b : Bool) (xs ys : List (ℕ × Row)) → cond b ((e.0, e.1.row) ∷ (xs ++ ys)) (xs ++ ys) ≡ cond b ((e.0, e.1.row) ∷ xs) xs ++ ys
    append_if true xs ys = refl
    append_if false xs ys = refl

-- no row is added or removed between two moments
pub table_on : (stamp n : ℕ) (entries : List (ℕ × Slot)) → AreStamped stamp entries → stamp ≤ n → table_at n entries ≡ table_at stamp entries
table_on stamp n [] h le = refl
table_on stamp n (e ∷ rest) h le = rw (live_on stamp n e.1 h.0 le, table_on stamp n rest h.1 le) refl

pub marked_table_before : (stamp n : ℕ) (change : Change) (entries : List (ℕ × Slot)) → AreStamped stamp entries → n ≤ stamp
    → table_at n (entries_with_marks stamp change entries) ≡ table_at n entries
marked_table_before stamp n change [] h le = refl
marked_table_before stamp n change (e ∷ rest) h le =
    rw (marked_before stamp change e.1 h.0 n le, marked_row stamp change e.1 h.0, marked_table_before stamp n change rest h.1 le) refl

pub marked_table_after : (stamp : ℕ) (change : Change) (entries : List (ℕ × Slot)) → AreStamped stamp entries
    → table_at (stamp + 1) (entries_with_marks stamp change entries) ≡ filter (λ e. not (covers e.1 change)) (table_at stamp entries)
marked_table_after stamp change [] h = refl
marked_table_after stamp change (e ∷ rest) h =
    rw (marked_after stamp change e.1 h.0, marked_row stamp change e.1 h.0, marked_table_after stamp change rest h.1)
    (filter_if (is_live_at stamp e.1) (not (covers e.1.row change)) refl)
  where
    left : List (ℕ × Row)
    left = filter (λ e. not (covers e.1 change)) (table_at stamp rest)

    filter_if : (b c : Bool) → not (covers e.1.row change) ≡ c → cond (b && c) ((e.0, e.1.row) ∷ left) left ≡ filter (λ e. not (covers e.1 change)) (cond b ((e.0, e.1.row) ∷ table_at stamp rest) (table_at stamp rest))
    filter_if true c t = rw t refl
    filter_if false c t = refl

pub trimmed_table : (stamp n : ℕ) (oldest : Option ℕ) (entries : List (ℕ × Slot)) → AreStamped stamp entries → IsPast stamp oldest n
    → table_at n (filter (λ e. not (is_dropped oldest e.1)) entries) ≡ table_at n entries
trimmed_table stamp n oldest [] h le = refl
trimmed_table stamp n oldest (e ∷ rest) h le = by_test (is_dropped oldest e.1) refl (trimmed_table stamp n oldest rest h.1 le)
  where
    left : List (ℕ × Slot)
    left = filter (λ e. not (is_dropped oldest e.1)) rest

    by_test : (b : Bool) → is_dropped oldest e.1 ≡ b → table_at n left ≡ table_at n rest → table_at n (cond (not b) (e ∷ left) left) ≡ table_at n (e ∷ rest)
    by_test true t further = rw (dropped_dead stamp n oldest e.1 h.0 t le) further
    by_test false t further = rw further refl

-- ---- stamps

pub AreStamped-push : (stamp key : ℕ) (row : Row) (entries : List (ℕ × Slot)) → length row.addr ≤ 128 → AreStamped stamp entries → AreStamped (stamp + 1) (entries ++ (key, slot_of (stamp + 1) row) ∷ [])
AreStamped-push stamp key row [] few h = (record { added = omega arith; removed = tt; addr = few; ours = λ own. absurd (omega (arith, own)) }, tt)
AreStamped-push stamp key row (e ∷ rest) few h = (IsStamped-later stamp e.1 h.0, AreStamped-push stamp key row rest few h.1)

pub AreStamped-marked : (stamp : ℕ) (change : Change) (entries : List (ℕ × Slot)) → AreStamped stamp entries → AreStamped (stamp + 1) (entries_with_marks stamp change entries)
AreStamped-marked stamp change [] h = tt
AreStamped-marked stamp change (e ∷ rest) h = (IsStamped-marked stamp change e.1 h.0, AreStamped-marked stamp change rest h.1)

pub AreStamped-filter : (stamp : ℕ) (test : ℕ × Slot → Bool) (entries : List (ℕ × Slot)) → AreStamped stamp entries → AreStamped stamp (filter test entries)
AreStamped-filter stamp test [] h = tt
AreStamped-filter stamp test (e ∷ rest) h =
    elim (test e) as (λ b. AreStamped stamp (cond b (e ∷ filter test rest) (filter test rest)))
    [ true ↦ (h.0, AreStamped-filter stamp test rest h.1) | false ↦ AreStamped-filter stamp test rest h.1 ]

-- ---- keys

missing_at : (n key : ℕ) (entries : List (ℕ × Slot)) → value_at entries key ≡ None → value_at (table_at n entries) key ≡ None
missing_at n key [] h = refl
missing_at n key (e ∷ rest) h = by_tests (eqb e.0 key) refl (is_live_at n e.1) (missing_at n key rest)
  where
    by_tests : (t : Bool) → eqb e.0 key ≡ t → (b : Bool) → (value_at rest key ≡ None → value_at (table_at n rest) key ≡ None)
        → value_at (cond b ((e.0, e.1.row) ∷ table_at n rest) (table_at n rest)) key ≡ None
    by_tests true t b further = let clash : Some e.1 ≡ None = rw t at h in absurd cc
    by_tests false t true further = rw t (further (rw t at h))
    by_tests false t false further = further (rw t at h)

pub distinct_at : (n : ℕ) (entries : List (ℕ × Slot)) → HasDistinctKeys entries → HasDistinctKeys (table_at n entries)
distinct_at n [] d = tt
distinct_at n (e ∷ rest) d =
    elim (is_live_at n e.1) as (λ b. HasDistinctKeys (cond b ((e.0, e.1.row) ∷ table_at n rest) (table_at n rest)))
    [ true ↦ (missing_at n e.0 rest d.0, distinct_at n rest d.1) | false ↦ distinct_at n rest d.1 ]

-- a key that is in no entry is counted to by none
no_count : {T : Type 0} (entries : List (ℕ × T)) (key : ℕ) → value_at entries key ≡ None → count_to entries key ≡ None
no_count [] key h = refl
no_count {T} (e ∷ rest) key h = by_test (eqb e.0 key) refl (no_count rest key)
  where
    by_test : (t : Bool) → eqb e.0 key ≡ t → (value_at rest key ≡ None → count_to rest key ≡ None) → count_to (e ∷ rest) key ≡ None
    by_test true t further = let clash : Some e.1 ≡ None = rw t at h in absurd cc
    by_test false t further = rw (t, further (rw t at h)) refl

pub behind_at : (n key : ℕ) (entries : List (ℕ × Slot)) → HasDistinctKeys entries → IsSome (count_to (table_at n entries) key) → table_at n (behind entries key) ≡ behind (table_at n entries) key
behind_at n key [] d h = refl
behind_at n key (e ∷ rest) d h = by_tests (is_live_at n e.1) h (eqb e.0 key) refl (behind_at n key rest d.1)
  where
    some_of : (o : Option ℕ) → IsSome (option_map (λ m. m + 1) o) → IsSome o
    some_of None p = p
    some_of (Some m) p = refl

    by_tests : (b : Bool) → IsSome (count_to (cond b ((e.0, e.1.row) ∷ table_at n rest) (table_at n rest)) key) → (t : Bool) → eqb e.0 key ≡ t
        → (IsSome (count_to (table_at n rest) key) → table_at n (behind rest key) ≡ behind (table_at n rest) key)
        → table_at n (cond t rest (behind rest key)) ≡ behind (cond b ((e.0, e.1.row) ∷ table_at n rest) (table_at n rest)) key
    by_tests true h true t further = rw t refl
    by_tests true h false t further = rw t (further (some_of _ (rw t at h)))
    by_tests false h true t further =
        let same : e.0 ≡ key = grind (arith, nat_tests, t) in
        let none : value_at (table_at n rest) key ≡ None = rw (← same) (missing_at n e.0 rest d.0) in
        let clash = rw (no_count (table_at n rest) key none) at h in
        absurd cc
    by_tests false h false t further = further h

pub to_come_at : (n : ℕ) (place : Option ℕ) (entries : List (ℕ × Slot)) → HasDistinctKeys entries → IsSome (count_passed (table_at n entries) place)
    → table_at n (to_come entries place) ≡ to_come (table_at n entries) place
to_come_at n None entries d h = refl
to_come_at n (Some key) entries d h = behind_at n key entries d h

-- a key that was passed is there still
holds_key : (n key : ℕ) (entries : List (ℕ × Slot)) → IsSome (count_to (table_at n entries) key) → IsSome (value_at entries key)
holds_key n key [] h = h
holds_key n key (e ∷ rest) h = by_tests (is_live_at n e.1) h (eqb e.0 key) refl (holds_key n key rest)
  where
    some_of : (o : Option ℕ) → IsSome (option_map (λ m. m + 1) o) → IsSome o
    some_of None p = p
    some_of (Some m) p = refl

    by_tests : (b : Bool) → IsSome (count_to (cond b ((e.0, e.1.row) ∷ table_at n rest) (table_at n rest)) key) → (t : Bool) → eqb e.0 key ≡ t
        → (IsSome (count_to (table_at n rest) key) → IsSome (value_at rest key)) → IsSome (value_at (e ∷ rest) key)
    by_tests b h true t further = rw t refl
    by_tests true h false t further = rw t (further (some_of _ (rw t at h)))
    by_tests false h false t further = rw t (further h)

pub holds_at : (n : ℕ) (place : Option ℕ) (entries : List (ℕ × Slot)) → IsSome (count_passed (table_at n entries) place) → IfSome place (λ key. IsSome (value_at entries key))
holds_at n None entries h = tt
holds_at n (Some key) entries h = holds_key n key entries h

-- ---- a new row

pub set_before : (stamp n key : ℕ) (row : Row) (entries : List (ℕ × Slot)) → n ≤ stamp → table_at n (entries ++ (key, slot_of (stamp + 1) row) ∷ []) ≡ table_at n entries
set_before stamp n key row entries le =
    let dead : is_live_at n (slot_of (stamp + 1) row) ≡ false = not_yet n (stamp + 1) row (omega (arith, le)) in
    table_at-push n key (slot_of (stamp + 1) row) entries ∙ rw dead (append-nil (table_at n entries))

pub set_now : (stamp key : ℕ) (row : Row) (entries : List (ℕ × Slot)) → AreStamped stamp entries
    → table_at (stamp + 1) (entries ++ (key, slot_of (stamp + 1) row) ∷ []) ≡ table_at stamp entries ++ (key, row) ∷ []
set_now stamp key row entries stamped =
    table_at-push (stamp + 1) key (slot_of (stamp + 1) row) entries ∙ rw (at_once (stamp + 1) row, table_on stamp (stamp + 1) entries stamped (omega arith)) refl

-- an own row
pub own_now : (key : ℕ) (row : Row) (entries : List (ℕ × Slot)) → table_at 0 (entries ++ (key, slot_of 0 row) ∷ []) ≡ table_at 0 entries ++ (key, row) ∷ []
own_now key row entries = table_at-push 0 key (slot_of 0 row) entries ∙ rw (at_once 0 row) refl

pub AreStamped-own : (key : ℕ) (row : Row) (entries : List (ℕ × Slot)) → length row.addr ≤ 128 → (row.prog == rpcb_prog) ≡ true → AreStamped 0 entries → AreStamped 0 (entries ++ (key, slot_of 0 row) ∷ [])
AreStamped-own key row [] few own h = (record { added = omega arith; removed = tt; addr = few; ours = λ none. own }, tt)
AreStamped-own key row (e ∷ rest) few own h = (h.0, AreStamped-own key row rest few own h.1)

pub ours_if_own : (stamp : ℕ) (entries : List (ℕ × Slot)) → AreStamped stamp entries → OwnAreOurs entries
ours_if_own stamp [] h = tt
ours_if_own stamp (e ∷ rest) h = (h.0.ours, ours_if_own stamp rest h.1)

-- among the own rows is the one between these
pub own_among : (before : List Row) (row : Row) (later own : List Row) → before ++ (row ∷ later) ≡ own → AreOwn own → (row.prog == rpcb_prog) ≡ true
own_among before row later own stood are =
    all_pass before (subst (λ (rows : List Row). list_all (λ (r : Row). r.prog == rpcb_prog) rows ≡ true) (sym stood) are)
  where
    first : (a b : Bool) → (a && b) ≡ true → a ≡ true
    first true b e = refl
    first false b e = absurd cc

    second : (a b : Bool) → (a && b) ≡ true → b ≡ true
    second true b e = e
    second false b e = absurd cc

    all_pass : (rows : List Row) → list_all (λ (r : Row). r.prog == rpcb_prog) (rows ++ (row ∷ later)) ≡ true → (row.prog == rpcb_prog) ≡ true
    all_pass [] e = first _ _ e
    all_pass (r ∷ rows) e = all_pass rows (second (r.prog == rpcb_prog) _ e)

-- ---- live and retained rows

-- at the last change a slot is live if and only if it has no removal
pub live_has_none : (stamp : ℕ) (slot : Slot) → IsStamped stamp slot → is_live_at stamp slot ≡ is_none slot.removed
unfolding is_live_at
live_has_none stamp slot h =
    let a : slot.added ≤ stamp = h.added in
    let e : nat_le slot.added stamp ≡ true = grind (arith, nat_tests, a) in
    rw e (by_removed slot.removed h.removed)
  where
    by_removed : (removed : Option ℕ) → IfSome removed (λ r. r ≤ stamp) → stays_at stamp removed ≡ is_none removed
    by_removed None p = refl
    by_removed (Some r) p = grind (arith, nat_tests, p)

pub live_and_retained : (stamp : ℕ) (entries : List (ℕ × Slot)) → AreStamped stamp entries → length (values_of (table_at stamp entries)) + length (removals entries) ≡ length entries
live_and_retained stamp [] h = refl
live_and_retained stamp (e ∷ rest) h = rw (live_has_none stamp e.1 h.0) (by_removed e.1.removed (live_and_retained stamp rest h.1))
  where
    by_removed : (removed : Option ℕ) → length (values_of (table_at stamp rest)) + length (removals rest) ≡ length rest
        → length (values_of (cond (is_none removed) ((e.0, e.1.row) ∷ table_at stamp rest) (table_at stamp rest))) + length (cons_option removed (removals rest)) ≡ suc (length rest)
    by_removed None further = omega (arith, further)
    by_removed (Some r) further = omega (arith, further)

-- the live rows are among all rows
pub live_within : (n : ℕ) (entries : List (ℕ × Slot)) → length (live_at n entries) ≤ length (values_of entries)
live_within n [] = omega arith
live_within n (e ∷ rest) = by_test (is_live_at n e.1) (live_within n rest)
  where
    by_test : (b : Bool) → length (live_at n rest) ≤ length (values_of rest) → length (values_of (cond b ((e.0, e.1.row) ∷ table_at n rest) (table_at n rest))) ≤ suc (length (values_of rest))
    by_test true further = omega (arith, further)
    by_test false further = omega (arith, further)

pub removals-push : (key added : ℕ) (row : Row) (entries : List (ℕ × Slot)) → removals (entries ++ (key, slot_of added row) ∷ []) ≡ removals entries
removals-push key added row [] = refl
removals-push key added row (e ∷ rest) = ap (λ (ns : List ℕ). cons_option e.1.removed ns) (removals-push key added row rest)

pub as_many_marked : (stamp : ℕ) (change : Change) (entries : List (ℕ × Slot)) → length (values_of (entries_with_marks stamp change entries)) ≡ length (values_of entries)
as_many_marked stamp change [] = refl
as_many_marked stamp change (e ∷ rest) = ap (λ n. suc n) (as_many_marked stamp change rest)

pub removals_within : (entries : List (ℕ × Slot)) → length (removals entries) ≤ length entries
removals_within [] = omega arith
removals_within (e ∷ rest) = by_removed e.1.removed (removals_within rest)
  where
    by_removed : (removed : Option ℕ) → length (removals rest) ≤ length rest → length (cons_option removed (removals rest)) ≤ suc (length rest)
    by_removed None further = omega (arith, further)
    by_removed (Some r) further = omega (arith, further)

-- some live row is covered if and only if some slot goes
pub any_goes : (stamp : ℕ) (change : Change) (entries : List (ℕ × Slot)) → list_any (goes stamp change) (values_of entries) ≡ list_any (λ row. covers row change) (values_of (table_at stamp entries))
any_goes stamp change [] = refl
any_goes stamp change (e ∷ rest) = by_test (is_live_at stamp e.1) (any_goes stamp change rest)
  where
    by_test : (b : Bool) → list_any (goes stamp change) (values_of rest) ≡ list_any (λ row. covers row change) (values_of (table_at stamp rest))
        → ((b && covers e.1.row change) || list_any (goes stamp change) (values_of rest)) ≡ list_any (λ row. covers row change) (values_of (cond b ((e.0, e.1.row) ∷ table_at stamp rest) (table_at stamp rest)))
    by_test true further = rw further refl
    by_test false further = further

-- if none goes, none is marked
pub none_marked : (stamp : ℕ) (change : Change) (entries : List (ℕ × Slot)) → list_any (goes stamp change) (values_of entries) ≡ false → entries_with_marks stamp change entries ≡ entries
none_marked stamp change [] h = refl
none_marked stamp change (e ∷ rest) h =
    let parts = neither (goes stamp change e.1) (list_any (goes stamp change) (values_of rest)) h in
    rw (not_marked stamp change e.1 parts.0, none_marked stamp change rest parts.1) refl
  where
    neither : (a b : Bool) → (a || b) ≡ false → (a ≡ false) × (b ≡ false)
    neither true b t = absurd cc
    neither false b t = (refl, t)

-- a trim drops of the retained rows those that it names
pub trimmed_removals : (oldest : Option ℕ) (entries : List (ℕ × Slot)) → removals (filter (λ e. not (is_dropped oldest e.1)) entries) ≡ filter (λ r. not (removed_by (Some r) oldest)) (removals entries)
unfolding is_dropped
trimmed_removals oldest [] = refl
trimmed_removals oldest (e ∷ rest) = by_removed e.1.removed refl (trimmed_removals oldest rest)
  where
    left : List (ℕ × Slot)
    left = filter (λ e. not (removed_by e.1.removed oldest)) rest

    by_removed : (removed : Option ℕ) → e.1.removed ≡ removed → removals left ≡ filter (λ r. not (removed_by (Some r) oldest)) (removals rest)
        → removals (cond (not (removed_by removed oldest)) (e ∷ left) left) ≡ filter (λ r. not (removed_by (Some r) oldest)) (cons_option removed (removals rest))
    by_removed None t further = rw t further
    by_removed (Some r) t further = by_test (removed_by (Some r) oldest) refl
      where
        by_test : (d : Bool) → removed_by (Some r) oldest ≡ d → removals (cond (not d) (e ∷ left) left) ≡ cond (not (removed_by (Some r) oldest)) (r ∷ filter (λ r. not (removed_by (Some r) oldest)) (removals rest)) (filter (λ r. not (removed_by (Some r) oldest)) (removals rest))
        by_test true d = rw d further
        by_test false d = rw (d, t) (ap (λ (ns : List ℕ). r ∷ ns) further)

missing-marked : (stamp : ℕ) (change : Change) (key : ℕ) (entries : List (ℕ × Slot)) → value_at entries key ≡ None → value_at (entries_with_marks stamp change entries) key ≡ None
missing-marked stamp change key [] h = refl
missing-marked stamp change key (e ∷ rest) h = by_test (eqb e.0 key) refl (missing-marked stamp change key rest)
  where
    by_test : (t : Bool) → eqb e.0 key ≡ t → (value_at rest key ≡ None → value_at (entries_with_marks stamp change rest) key ≡ None) → value_at (entries_with_marks stamp change (e ∷ rest)) key ≡ None
    by_test true t further = let clash : Some e.1 ≡ None = rw t at h in absurd cc
    by_test false t further = rw t (further (rw t at h))

pub distinct-marked : (stamp : ℕ) (change : Change) (entries : List (ℕ × Slot)) → HasDistinctKeys entries → HasDistinctKeys (entries_with_marks stamp change entries)
distinct-marked stamp change [] d = tt
distinct-marked stamp change (e ∷ rest) d = (missing-marked stamp change e.0 rest d.0, distinct-marked stamp change rest d.1)

-- ---- the least of some numbers

-- what is left of the least of a first number and others
record LeastSome (first : ℕ) (numbers : List ℕ) : Type 0 where
  least : ℕ
  is : fold (λ least number. Some (lesser_of least number)) (Some first) numbers ≡ Some least
  low : least ≤ first
  all : All (λ number. least ≤ number) numbers
  one : (least ≡ first) ⊎ Contains numbers least

least_some : (numbers : List ℕ) (first : ℕ) → LeastSome first numbers
least_some [] first = record { least = first; is = refl; low = omega arith; all = All-nil (λ number. first ≤ number); one = inl refl }
least_some (number ∷ numbers) first =
    let further = least_some numbers (min first number) in
    let low : further.least ≤ min first number = further.low in
    record {
      least = further.least;
      is = further.is;
      low = omega (arith, low);
      all = All-cons (λ n. further.least ≤ n) number numbers (omega (arith, low)) further.all;
      one = by_case further.least low further.one;
    }
  where
    by_case : (least : ℕ) → least ≤ min first number → (least ≡ min first number) ⊎ Contains numbers least → (least ≡ first) ⊎ Contains (number ∷ numbers) least
    by_case least low (inl e) = elim (cases_eq least first) [ inl a ↦ inl a | inr a ↦ inr (0, omega arith, omega (arith, e, a)) ]
    by_case least low (inr h) = inr (Contains-append_right (number ∷ []) numbers least h)

pub least_is : (numbers : List ℕ) → IsLeast numbers (least_of numbers)
least_is [] = record { none = λ e. refl; one = λ some. absurd (some refl); all = All-nil (λ number. 0 ≤ number) }
least_is (number ∷ numbers) =
    let whole = least_some numbers number in
    record {
      none = λ e. absurd cc;
      one = λ some. rw whole.is (by_case whole.least whole.one);
      all = rw whole.is (All-cons (λ n. whole.least ≤ n) number numbers whole.low whole.all);
    }
  where
    by_case : (least : ℕ) → (least ≡ number) ⊎ Contains numbers least → Contains (number ∷ numbers) least
    by_case least (inl e) = (0, omega arith, sym e)
    by_case least (inr h) = Contains-append_right (number ∷ []) numbers least h
