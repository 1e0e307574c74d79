-- The entries of the table before and after a write.
use Rattle.std.proofs.Common.{◌≡◌, ℕ, ◌+◌, ◌<◌, ◌≤◌, Bool, true, false, cond, eqb, ◌&&◌, ◌||◌, List, [], ◌∷◌, ◌++◌, length, map, Option, Some, None, refl, sym, ap, ◌∙◌, eq-eqb, arith, length-append}
use Rattle.std.specs.Prelude.{filter, find, is_none, is_some}
use Rattle.std.specs.List.{list_any}
use Rattle.std.specs.Map.{values_of}
use Rattle.std.specs.Option.{option_map}
use Rattle.std.proofs.lemmas.Bool.{eqb-true}
use Rattle.std.proofs.lemmas.List.{length-map}
use Rattle.std.proofs.lemmas.List.Elements.{filter-append}
use Rattle.std.proofs.lemmas.Map.Entries.{length-values_of}
use Rattle.rb_xdr.specs.Pool.{Pool, value_at, with_value, HasDistinctKeys}
use Rattle.rb_xdr.proofs.PoolLemmas.{distinct-with, values_of-push}
use Rattle.rb_xdr.proofs.Walks.{distinct-push}
use Rattle.rb_stats.specs.declared.key.Version.{Version}
use Rattle.rb_stats.specs.declared.key.Version.TheVariants.{Two, Three, Four}
use Rattle.rb_stats.specs.declared.key.Info.{Info}
use Rattle.rb_stats.specs.declared.key.Info.TheVariants.{Addr, Rmt}
use Rattle.rb_stats.specs.declared.key.Key.{Key}
use Rattle.rb_stats.specs.declared.item.Item.{Item}
use Rattle.rb_stats.specs.Statistics.{Count, is_version, is_key, is_in, info_of, greatest_list}
use Rattle.rb_stats.specs.Table.{item_after, after_count, new_item, is_item, items_in, IsTable}
use Rattle.rb_stats.proofs.Keys.{by_test, key_same, in_place}
use Rattle.rb_stats.proofs.Items.{filter-bumped, none_bumped}

module _ {T : Type 0} where
  abbrev place_in : (T → Bool) → List (ℕ × T) → Option ℕ
  place_in test entries = option_map (λ e. e.0) (find (λ e. test e.1) entries)

  -- a place that is found has a value
  pub has_value : (test : T → Bool) (entries : List (ℕ × T)) (place : ℕ) → place_in test entries ≡ Some place → value_at entries place ≡ None → ⊥
  has_value test [] place found missing = cc
  has_value test (e ∷ rest) place found missing = by_tests (test e.1) refl (eqb e.0 place) refl (has_value test rest place)
    where
      by_tests : (b : Bool) → test e.1 ≡ b → (t : Bool) → eqb e.0 place ≡ t → (place_in test rest ≡ Some place → value_at rest place ≡ None → ⊥) → ⊥
      by_tests b is true here further = let clash : Some e.1 ≡ None = rw here at missing in cc
      by_tests true is false other further =
          let first : Some e.0 ≡ Some place = rw is at found in
          let same : e.0 ≡ place = cc in
          let clash : true ≡ false = sym (eq-eqb e.0 place same) ∙ other in
          cc
      by_tests false is false other further = further (rw is at found) (rw other at missing)

  pub any-found : (test : T → Bool) (entries : List (ℕ × T)) (place : ℕ) → place_in test entries ≡ Some place → list_any test (values_of entries) ≡ true
  any-found test [] place found = absurd cc
  any-found test (e ∷ rest) place found = by_cases (test e.1) refl (any-found test rest place)
    where
      by_cases : (b : Bool) → test e.1 ≡ b → (place_in test rest ≡ Some place → list_any test (values_of rest) ≡ true) → (test e.1 || list_any test (values_of rest)) ≡ true
      by_cases true is further = rw is refl
      by_cases false is further = rw is (further (rw is at found))

  pub none-found : (test : T → Bool) (entries : List (ℕ × T)) → find (λ e. test e.1) entries ≡ None → list_any test (values_of entries) ≡ false
  none-found test [] missing = refl
  none-found test (e ∷ rest) missing = by_cases (test e.1) refl (none-found test rest)
    where
      by_cases : (b : Bool) → test e.1 ≡ b → (find (λ e. test e.1) rest ≡ None → list_any test (values_of rest) ≡ false) → (test e.1 || list_any test (values_of rest)) ≡ false
      by_cases true is further = let clash : Some e ≡ None = rw is at missing in absurd cc
      by_cases false is further = rw is (further (rw is at missing))

-- ---- a write at the key's item

module _ (c : Count) where
  abbrev is_own : Item → Bool
  is_own item = is_item c.key item

  none_own : (items : List Item) → length (filter is_own items) ≡ 0 → list_any is_own items ≡ false
  none_own [] h = refl
  none_own (item ∷ items) h =
      by_test (λ b. length (cond b (item ∷ filter is_own items) (filter is_own items)) ≡ 0 → (b || list_any is_own items) ≡ false) (is_own item)
      (λ own h. absurd (omega arith))
      (λ other h. none_own items h)
      h

  pub values-with : (entries : List (ℕ × Item)) (place : ℕ) (item : Item) → HasDistinctKeys entries → place_in is_own entries ≡ Some place → value_at entries place ≡ Some item
      → length (filter is_own (values_of entries)) ≤ 1 → values_of (with_value entries place (item_after c.passed c.indirect item)) ≡ map (after_count c) (values_of entries)
  values-with [] place item d found there once = absurd cc
  values-with (e ∷ rest) place item d found there once = by_cases (is_own e.1) refl (values-with rest place item d.1)
    where
      not_here : (b : Bool) → eqb e.0 place ≡ b → place_in is_own rest ≡ Some place → eqb e.0 place ≡ false
      not_here true here further =
          let same : e.0 ≡ place = eqb-true e.0 place here in
          absurd (has_value is_own rest place further (rw (← same) d.0))
      not_here false other further = other

      by_cases : (b : Bool) → is_own e.1 ≡ b
          → (place_in is_own rest ≡ Some place → value_at rest place ≡ Some item → length (filter is_own (values_of rest)) ≤ 1
          → values_of (with_value rest place (item_after c.passed c.indirect item)) ≡ map (after_count c) (values_of rest))
          → values_of (with_value (e ∷ rest) place (item_after c.passed c.indirect item)) ≡ cond (is_own e.1) (item_after c.passed c.indirect e.1) e.1 ∷ map (after_count c) (values_of rest)
      by_cases true is further =
          let first : Some e.0 ≡ Some place = rw is at found in
          let same : e.0 ≡ place = cc in
          let test : eqb e.0 place ≡ true = eq-eqb e.0 place same in
          let value : Some e.1 ≡ Some item = rw test at there in
          let item_is : e.1 ≡ item = cc in
          let few : length (e.1 ∷ filter is_own (values_of rest)) ≤ 1 = rw is at once in
          let later : map (after_count c) (values_of rest) ≡ values_of rest = none_bumped c (values_of rest) (none_own (values_of rest) (omega arith)) in
          rw (test, is, later, item_is) refl
      by_cases false is further =
          let found_later : place_in is_own rest ≡ Some place = rw is at found in
          let other : eqb e.0 place ≡ false = not_here (eqb e.0 place) refl found_later in
          let few : length (filter is_own (values_of rest)) ≤ 1 = rw is at once in
          rw (other, is) (ap (λ (is : List Item). e.1 ∷ is) (further found_later (rw other at there) few))

  pub table-with : (old : Pool Item) (place : ℕ) (item : Item) → IsTable old → place_in is_own old.entries ≡ Some place → value_at old.entries place ≡ Some item
      → IsTable (record old { entries = with_value old.entries place (item_after c.passed c.indirect item) })
  unfolding items_in
  table-with old place item t found there =
      let values = values-with old.entries place item t.distinct found there (t.once c.key) in
      record {
        distinct = distinct-with old.entries place (item_after c.passed c.indirect item) t.distinct;
        cap = t.cap;
        once = λ key. rw (values, filter-bumped c (λ (k : Key). is_key k key) (values_of old.entries), length-map) (t.once key);
        few = λ version info. rw (values, filter-bumped c (is_in version info) (values_of old.entries), length-map) (t.few version info);
      }

-- ---- a new item

-- each item is in one of six lists
pub in_six : (items : List Item)
    → length items ≡ length (items_in Two Addr items) + length (items_in Two Rmt items) + length (items_in Three Addr items) + length (items_in Three Rmt items) + length (items_in Four Addr items) + length (items_in Four Rmt items)
unfolding items_in is_in
in_six [] = refl
in_six (item ∷ items) = by_place item.key.version item.key.proc (in_six items)
  where
    len : Version → Info → Version → Option ℕ → ℕ
    len version Addr v proc = length (cond (is_version v version && is_none proc) (item ∷ items_in version Addr items) (items_in version Addr items))
    len version Rmt v proc = length (cond (is_version v version && is_some proc) (item ∷ items_in version Rmt items) (items_in version Rmt items))

    by_place : (v : Version) (proc : Option ℕ)
        → length items ≡ length (items_in Two Addr items) + length (items_in Two Rmt items) + length (items_in Three Addr items) + length (items_in Three Rmt items) + length (items_in Four Addr items) + length (items_in Four Rmt items)
        → length (item ∷ items) ≡ len Two Addr v proc + len Two Rmt v proc + len Three Addr v proc + len Three Rmt v proc + len Four Addr v proc + len Four Rmt v proc
    by_place Two None h = omega (arith, h)
    by_place Two (Some n) h = omega (arith, h)
    by_place Three None h = omega (arith, h)
    by_place Three (Some n) h = omega (arith, h)
    by_place Four None h = omega (arith, h)
    by_place Four (Some n) h = omega (arith, h)

module _ (c : Count) (old : Pool Item) (t : IsTable old) where
  abbrev all : List Item
  all = values_of old.entries

  -- if one list has room, so has the table
  pub room_left : length (items_in c.key.version (info_of c.key.proc) all) < greatest_list → length old.entries < old.cap
  room_left room = rw t.cap (by_place c.key.version c.key.proc room)
    where
      by_place : (version : Version) (proc : Option ℕ) → length (items_in version (info_of proc) all) < greatest_list → length old.entries < 192
      by_place Two None room = omega (arith, in_six all, length-values_of old.entries, t.few Two Rmt, t.few Three Addr, t.few Three Rmt, t.few Four Addr, t.few Four Rmt)
      by_place Two (Some n) room = omega (arith, in_six all, length-values_of old.entries, t.few Two Addr, t.few Three Addr, t.few Three Rmt, t.few Four Addr, t.few Four Rmt)
      by_place Three None room = omega (arith, in_six all, length-values_of old.entries, t.few Two Addr, t.few Two Rmt, t.few Three Rmt, t.few Four Addr, t.few Four Rmt)
      by_place Three (Some n) room = omega (arith, in_six all, length-values_of old.entries, t.few Two Addr, t.few Two Rmt, t.few Three Addr, t.few Four Addr, t.few Four Rmt)
      by_place Four None room = omega (arith, in_six all, length-values_of old.entries, t.few Two Addr, t.few Two Rmt, t.few Three Addr, t.few Three Rmt, t.few Four Rmt)
      by_place Four (Some n) room = omega (arith, in_six all, length-values_of old.entries, t.few Two Addr, t.few Two Rmt, t.few Three Addr, t.few Three Rmt, t.few Four Addr)

  none_there : (key : Key) (items : List Item) → list_any (is_item key) items ≡ false → filter (is_item key) items ≡ []
  none_there key [] h = refl
  none_there key (item ∷ items) h =
      by_test (λ b. (b || list_any (is_item key) items) ≡ false → cond b (item ∷ filter (is_item key) items) (filter (is_item key) items) ≡ []) (is_item key item)
      (λ own h. absurd cc)
      (λ other h. none_there key items h)
      h

  abbrev item : Item
  item = item_after c.passed c.indirect (new_item c.key)

  module _ (place : ℕ) where
    pub table-push : list_any (is_item c.key) all ≡ false → length (items_in c.key.version (info_of c.key.proc) all) < greatest_list → value_at old.entries place ≡ None
        → IsTable (record old { entries = old.entries ++ (place, item) ∷ [] })
    unfolding items_in
    table-push missing room fresh =
        let values = values_of-push old.entries place item in
        record {
          distinct = distinct-push old.entries place item t.distinct fresh;
          cap = t.cap;
          once = λ key. rw (values, filter-append (is_item key) all (item ∷ [])) (at_most_one key (is_key c.key key) refl);
          few = λ version info. rw (values, filter-append (λ (i : Item). is_in version info i.key) all (item ∷ [])) (at_most_all version info (is_in version info c.key) refl);
        }
      where
        at_most_one : (key : Key) (b : Bool) → is_key c.key key ≡ b → length (filter (is_item key) all ++ cond (is_key c.key key) (item ∷ []) []) ≤ 1
        at_most_one key true same =
            let e : c.key ≡ key = key_same c.key key same in
            let empty : filter (is_item key) all ≡ [] = rw (← e) (none_there c.key all missing) in
            rw (same, empty) (omega arith)
        at_most_one key false other = rw other (omega (arith, t.once key, length-append (filter (is_item key) all) []))

        at_most_all : (version : Version) (info : Info) (b : Bool) → is_in version info c.key ≡ b
            → length (filter (λ (i : Item). is_in version info i.key) all ++ cond (is_in version info c.key) (item ∷ []) []) ≤ greatest_list
        at_most_all version info true own =
            let p = in_place version info c.key own in
            let few : length (filter (λ (i : Item). is_in version info i.key) all) < greatest_list = rw (p.0, p.1) at room in
            rw own (omega (arith, few, length-append (filter (λ (i : Item). is_in version info i.key) all) (item ∷ [])))
        at_most_all version info false other = rw other (omega (arith, t.few version info, length-append (filter (λ (i : Item). is_in version info i.key) all) []))

pub most_items : (items : Pool Item) → IsTable items → length items.entries ≤ 192
most_items items t =
    omega (arith, in_six (values_of items.entries), length-values_of items.entries, t.few Two Addr, t.few Two Rmt, t.few Three Addr, t.few Three Rmt, t.few Four Addr, t.few Four Rmt)

-- a table with nothing in it
pub empty_table : (items : Pool Item) → items.entries ≡ [] → items.cap ≡ 192 → IsTable items
unfolding items_in
empty_table items none_in cap = record {
  distinct = rw none_in tt;
  cap = cap;
  once = λ key. rw none_in (omega arith);
  few = λ version info. rw none_in (omega arith);
}
