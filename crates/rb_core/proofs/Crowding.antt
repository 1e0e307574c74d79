-- Room for a row: the rows that are kept for lists, by what is held.
use Rattle.std.specs.Prelude.{All, filter_map}
use Rattle.std.specs.List.{list_any}
use Rattle.std.specs.Map.{values_of}
use Rattle.std.proofs.Common.{◌≡◌, ◌≤◌, ◌<◌, ℕ, zero, suc, Bool, true, false, cond, nat_lt, nat_le, not, ◌||◌, List, [], ◌∷◌, length, filter, max, slice_index_or, Option, Some, None, refl, sym, ap, subst, ◌∙◌, arith}
use Rattle.std.proofs.lemmas.Bool.{lt-ltb, le-ltb, ltb-true, ltb-false}
use Rattle.std.proofs.lemmas.Bool.Decides.{nat_tests}
use Rattle.std.proofs.lemmas.List.Elements.{All-head, All-tail, All-contains}
use Rattle.rb_registry.specs.declared.slot.Slot.{Slot as RowSlot}
use Rattle.rb_registry.specs.Registry.{Registry, removals_of}
use Rattle.rb_registry.specs.Table.{stamp_named, later_than, IsLeast}
use Rattle.rb_registry.specs.Slots.{is_dropped, removed_by, all_slots}
use Rattle.rb_answers.specs.declared.context.Context.{Context}
use Rattle.rb_answers.specs.declared.call.Call.{Call}
use Rattle.rb_proto.specs.declared.books.Books.{Books}
use Rattle.rb_answers.specs.Ledger.{Ledger}
use Rattle.rb_proto.specs.Ledger.{StandsForLedger}
use Rattle.rb_proto.specs.Books.{removals_after}
use Rattle.rb_proto.proofs.Removals.{removals_kept}
use Rattle.rb_model.specs.declared.message.Message.{Message}
use Rattle.rb_model.specs.declared.message.Message.TheVariants as says
use Rattle.rb_model.specs.State.{Connections}
use Rattle.rb_model.specs.Losses.{list_stamps, is_needed_for, removals_by, needed_removals}
use Rattle.rb_connections.specs.StandsFor.{Table, StandsForConnections}
use Rattle.rb_connections.specs.Listings.{CanContinueAll, stamps_of, IsOldest, IsEarliest}
use Rattle.rb_connections.proofs.ListsGoOn.{stamps_reach, stamps_low, begins_alike}
use Rattle.rb_serving.specs.Serving.{HasRoom}

-- ---- the rows that are kept

abbrev Same : ℕ → List RowSlot → Type 0
Same k slots = filter_map (λ (slot : RowSlot). slot.removed) (filter (λ slot. not (is_dropped (Some k) slot)) slots)
    ≡ filter (λ change. nat_lt k change) (filter_map (λ (slot : RowSlot). slot.removed) slots)

not_dropped : (k : ℕ) (slots : List RowSlot) → Same k slots
unfolding is_dropped
not_dropped k [] = refl
not_dropped k (slot ∷ slots) = by_removed slot.removed refl (not_dropped k slots)
  where
    by_removed : (removed : Option ℕ) → slot.removed ≡ removed → Same k slots → Same k (slot ∷ slots)
    by_removed None is further = rw is further
    by_removed (Some r) is further = by_test (nat_lt k r) refl
      where
        by_test : (b : Bool) → nat_lt k r ≡ b → Same k (slot ∷ slots)
        by_test true t = let low : nat_le r k ≡ false = grind (arith, nat_tests) in rw (is, low, t) (ap (λ (xs : List ℕ). r ∷ xs) further)
        by_test false t = let low : nat_le r k ≡ true = grind (arith, nat_tests) in rw (is, low, t) further

retained_by_oldest : (stamps : List ℕ) (k change : ℕ) → IsOldest stamps (Some k) → is_needed_for stamps change ≡ nat_lt k change
retained_by_oldest stamps k change least = by_test (nat_lt k change) refl
  where
    some_below : (ns : List ℕ) (i : ℕ) → i < length ns → slice_index_or ns i k ≡ k → k < change → list_any (λ n. nat_lt n change) ns ≡ true
    some_below [] i within is early = absurd (omega (arith, within))
    some_below (n ∷ ns) zero within is early = let here : nat_lt n change ≡ true = lt-ltb n change (omega (arith, is, early)) in rw here refl
    some_below (n ∷ ns) (suc i) within is early =
        let later = some_below ns i (omega (arith, within)) is early in
        elim (nat_lt n change) as (λ b. (b || list_any (λ m. nat_lt m change) ns) ≡ true) [ true ↦ refl | false ↦ later ]

    none_below : (ns : List ℕ) → All (λ n. k ≤ n) ns → change ≤ k → list_any (λ n. nat_lt n change) ns ≡ false
    none_below [] low late = refl
    none_below (n ∷ ns) low late =
        let first : k ≤ n = All-head (λ m. k ≤ m) n ns low in
        let here : nat_lt n change ≡ false = le-ltb n change (omega (arith, first, late)) in
        rw here (none_below ns (All-tail (λ m. k ≤ m) n ns low) late)

    by_test : (b : Bool) → nat_lt k change ≡ b → is_needed_for stamps change ≡ b
    by_test true t = some_below stamps least.0.0 least.0.1 least.0.2 (ltb-true k change t)
    by_test false t = none_below stamps least.1 (ltb-false k change t)

filter_alike : (p q : ℕ → Bool) (xs : List ℕ) → ((x : ℕ) → p x ≡ q x) → filter p xs ≡ filter q xs
filter_alike p q [] same = refl
filter_alike p q (x ∷ xs) same = rw (same x, filter_alike p q xs same) refl

none_pass : (xs : List ℕ) → filter (is_needed_for []) xs ≡ []
none_pass [] = refl
none_pass (x ∷ xs) = none_pass xs

none_later : (xs : List ℕ) → later_than None xs ≡ []
none_later [] = refl
none_later (x ∷ xs) = none_later xs

-- after a trim to the oldest list, the retained rows are those that a list needs
pub kept_are : (registry : Registry) (table : Table) (c : Connections) (books : Books) (l : Ledger) (oldest : Option ℕ) (before : List ℕ)
    → CanContinueAll registry table → StandsForConnections registry table c → IsOldest (stamps_of table) oldest → StandsForLedger books l
    → books.registry.floor ≡ max registry.floor (stamp_named registry oldest) → removals_of books.registry ≡ later_than oldest before
    → removals_of books.registry ≡ needed_removals c.all l
unfolding needed_removals
kept_are registry table c books l None before t z none h floor dropped =
    dropped ∙ none_later before ∙ sym (ap (λ (ns : List ℕ). filter (is_needed_for ns) (removals_by l)) (begins_alike registry (values_of table.slots) c.all z.all ∙ none) ∙ none_pass (removals_by l))
kept_are registry table c books l (Some k) before t z least h floor dropped =
    let reach : (registry.floor ≤ k) × (k ≤ registry.stamp) =
    All-contains (λ n. (registry.floor ≤ n) × (n ≤ registry.stamp)) (stamps_of table) k (stamps_reach registry (values_of table.slots) t) least.0 in
    let floor_is : books.registry.floor ≡ k = omega (arith, floor, reach.0, reach.1) in
    removals_kept books l h
    ∙ ap (λ (n : ℕ). removals_after n l) floor_is
    ∙ not_dropped k (all_slots l.own l.changes)
    ∙ sym (ap (λ (ns : List ℕ). filter (is_needed_for ns) (removals_by l)) (begins_alike registry (values_of table.slots) c.all z.all)
    ∙ filter_alike (is_needed_for (stamps_of table)) (λ change. nat_lt k change) (removals_by l) (λ change. retained_by_oldest (stamps_of table) k change least))

filter_fewer : (p q : ℕ → Bool) (xs : List ℕ) → ((x : ℕ) → p x ≡ true → q x ≡ true) → length (filter p xs) ≤ length (filter q xs)
filter_fewer p q [] also = omega arith
filter_fewer p q (x ∷ xs) also = by_test (p x) refl (q x) refl (filter_fewer p q xs also)
  where
    by_test : (a : Bool) → p x ≡ a → (b : Bool) → q x ≡ b → length (filter p xs) ≤ length (filter q xs) → length (filter p (x ∷ xs)) ≤ length (filter q (x ∷ xs))
    by_test true e true f fewer = rw (e, f) (omega (arith, fewer))
    by_test true e false f fewer = let clash : true ≡ false = sym (also x e) ∙ f in absurd cc
    by_test false e true f fewer = rw (e, f) (omega (arith, fewer))
    by_test false e false f fewer = rw (e, f) fewer

-- what some list began before is above what none began before
retained_above : (floor change : ℕ) (stamps : List ℕ) → All (λ n. floor ≤ n) stamps → is_needed_for stamps change ≡ true → nat_lt floor change ≡ true
retained_above floor change [] low is = absurd cc
retained_above floor change (n ∷ stamps) low is = by_test (nat_lt n change) refl (retained_above floor change stamps (All-tail (λ m. floor ≤ m) n stamps low))
  where
    by_test : (b : Bool) → nat_lt n change ≡ b → (is_needed_for stamps change ≡ true → nat_lt floor change ≡ true) → nat_lt floor change ≡ true
    by_test true t further =
        let first : floor ≤ n = All-head (λ m. floor ≤ m) n stamps low in
        let early = ltb-true n change t in
        lt-ltb floor change (omega (arith, first, early))
    by_test false t further = further (rw t at is)

-- the rows that lists need are among the retained ones
pub kept_few : (registry : Registry) (table : Table) (c : Connections) (books : Books) (l : Ledger)
    → CanContinueAll registry table → StandsForConnections registry table c → StandsForLedger books l → books.registry.floor ≡ registry.floor
    → length (needed_removals c.all l) ≤ length (removals_of books.registry)
unfolding needed_removals
kept_few registry table c books l t z h floor =
    let dead : removals_of books.registry ≡ filter (λ change. nat_lt books.registry.floor change) (removals_by l) =
    removals_kept books l h ∙ not_dropped books.registry.floor (all_slots l.own l.changes) in
    let kept : filter (is_needed_for (list_stamps c.all)) (removals_by l) ≡ filter (is_needed_for (stamps_of table)) (removals_by l) =
    ap (λ (ns : List ℕ). filter (is_needed_for ns) (removals_by l)) (begins_alike registry (values_of table.slots) c.all z.all) in
    let low : All (λ n. books.registry.floor ≤ n) (stamps_of table) = subst (λ (k : ℕ). All (λ n. k ≤ n) (stamps_of table)) (sym floor) (stamps_low registry table t) in
    let fewer = filter_fewer (is_needed_for (stamps_of table)) (λ change. nat_lt books.registry.floor change) (removals_by l) (λ change. retained_above books.registry.floor change (stamps_of table) low) in
    omega (arith, fewer, ap (λ (xs : List ℕ). length xs) dead, ap (λ (xs : List ℕ). length xs) kept)

pub no_call_has_room : (context : Context) (message : Message) (books : Books) → ((call : Call) → message ≡ says.Asked call → ⊥) → HasRoom context message books
no_call_has_room context says.NoCall books other = tt
no_call_has_room context (says.Refused head) books other = tt
no_call_has_room context (says.Garbage head) books other = tt
no_call_has_room context (says.Asked call) books other = absurd (other call refl)

-- ---- one row fewer

no_more : (p : ℕ → Bool) (xs : List ℕ) → length (filter p xs) ≤ length xs
no_more p [] = omega arith
no_more p (x ∷ xs) = let further = no_more p xs in elim (p x) as (λ b. length (cond b (x ∷ filter p xs) (filter p xs)) ≤ suc (length xs)) [ true ↦ omega (arith, further) | false ↦ omega (arith, further) ]

one_fewer : (p : ℕ → Bool) (xs : List ℕ) (x i : ℕ) → i < length xs → slice_index_or xs i x ≡ x → p x ≡ false → length (filter p xs) < length xs
one_fewer p [] x i within is out = absurd (omega (arith, within))
one_fewer p (y ∷ ys) x zero within is out =
    let here : p y ≡ false = ap p is ∙ out in
    let rest = no_more p ys in
    rw here (omega (arith, rest))
one_fewer p (y ∷ ys) x (suc i) within is out =
    let rest = one_fewer p ys x i (omega (arith, within)) is out in
    elim (p y) as (λ b. length (cond b (y ∷ filter p ys) (filter p ys)) < suc (length ys)) [ true ↦ omega (arith, rest) | false ↦ omega (arith, rest) ]

-- if each list that is left began at the earliest removal or after it, a trim drops the row that was removed by it
pub room_is_made : (removals after stamps : List ℕ) (earliest : ℕ) (oldest : Option ℕ) → IsEarliest removals earliest → All (λ stamp. earliest ≤ stamp) stamps → IsOldest stamps oldest
    → after ≡ later_than oldest removals → length after < length removals
room_is_made removals after stamps earliest None first low none is =
    let some = first.one.1 in
    omega (arith, some, ap (λ (xs : List ℕ). length xs) (is ∙ none_later removals))
room_is_made removals after stamps earliest (Some k) first low least is =
    let late : earliest ≤ k = All-contains (λ n. earliest ≤ n) stamps k low least.0 in
    let gone : not (nat_le earliest k) ≡ false = grind (arith, nat_tests) in
    let fewer = one_fewer (λ number. not (removed_by (Some number) (Some k))) removals earliest first.one.0 first.one.1 first.one.2 gone in
    omega (arith, fewer, ap (λ (xs : List ℕ). length xs) is)

pub earliest_of : (removals : List ℕ) (earliest : ℕ) → IsLeast removals earliest → 0 < length removals → IsEarliest removals earliest
earliest_of removals earliest least some = record {
  one = least.one (λ none. omega (arith, some, ap (λ (xs : List ℕ). length xs) none));
  all = least.all;
}
