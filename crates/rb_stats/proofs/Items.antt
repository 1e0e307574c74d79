-- What one more count does to the items.
use Rattle.std.proofs.Common.{◌≡◌, ◌+◌, ◌<◌, ◌≤◌, Bool, true, false, not, cond, ◌&&◌, ◌||◌, List, [], ◌∷◌, ◌++◌, length, take, map, refl, sym, ap, ◌∙◌, arith, length-append, append-nil}
use Rattle.std.specs.Prelude.{filter, count_by, min}
use Rattle.std.specs.List.{list_any}
use Rattle.std.proofs.lemmas.List.{length-map, map-append}
use Rattle.std.proofs.lemmas.List.Elements.{filter-append}
use Rattle.std.proofs.lemmas.List.Sums.{length-filter}
use Rattle.rb_stats.specs.declared.key.Version.{Version}
use Rattle.rb_stats.specs.declared.key.Info.{Info}
use Rattle.rb_stats.specs.declared.key.Key.{Key}
use Rattle.rb_stats.specs.declared.item.Item.{Item}
use Rattle.rb_stats.specs.Statistics.{Count, is_key, is_in, distinct_keys, keys_of, items_of, item_of, info_of, counts_in, number_of, one_more, greatest_int, greatest_list}
use Rattle.rb_stats.specs.Table.{item_after, after_count, new_item, is_item, items_in, Holds}
use Rattle.rb_stats.proofs.Keys.{by_test, key_same, key_itself, in_place, first-found, first-new, first-full, not-first}

-- ---- numbers

module _ {A : Type 0} (test : A → Bool) where
  one_by : (b : Bool) (x : A) → length (cond b (x ∷ []) []) ≡ cond b 1 0
  one_by true x = refl
  one_by false x = refl

  pub count_by-push : (xs : List A) (x : A) → count_by test (xs ++ x ∷ []) ≡ count_by test xs + cond (test x) 1 0
  count_by-push xs x =
      sym (length-filter test (xs ++ x ∷ [])) ∙ ap (λ (ys : List A). length ys) (filter-append test xs (x ∷ []))
      ∙ length-append (filter test xs) (cond (test x) (x ∷ []) []) ∙ rw (length-filter test xs, one_by (test x) x) refl

  pub number_of-push : (xs : List A) (x : A) → number_of test (xs ++ x ∷ []) ≡ cond (test x) (one_more (number_of test xs)) (number_of test xs)
  unfolding number_of
  number_of-push xs x =
      rw (count_by-push xs x)
      (elim (test x) as (λ b. min (count_by test xs + cond b 1 0) greatest_int ≡ cond b (min (min (count_by test xs) greatest_int + 1) greatest_int) (min (count_by test xs) greatest_int))
      [ true ↦ omega arith | false ↦ omega arith ])

module _ {A : Type 0} (test : A → Bool) (xs more : List A) where
  pub greatest_stays : number_of test xs ≡ greatest_int → number_of test (xs ++ more) ≡ greatest_int
  unfolding number_of
  greatest_stays full =
      let sum : count_by test (xs ++ more) ≡ count_by test xs + count_by test more =
      sym (length-filter test (xs ++ more)) ∙ ap (λ (ys : List A). length ys) (filter-append test xs more)
      ∙ length-append (filter test xs) (filter test more) ∙ rw (length-filter test xs, length-filter test more) refl in
      omega (arith, sum)

either_false : (a b : Bool) → (a || b) ≡ false → b ≡ false
either_false true b h = absurd cc
either_false false b h = h

-- ---- one item

module _ (c : Count) where
  abbrev pub bumped : Item → Item
  bumped = after_count c

  pub item_of-push : (counts : List Count) (key : Key) → item_of (counts ++ c ∷ []) key ≡ bumped (item_of counts key)
  item_of-push counts key =
      rw (
        number_of-push (λ (count : Count). is_key key count.key && count.passed) counts c,
        number_of-push (λ (count : Count). is_key key count.key && not count.passed) counts c,
        number_of-push (λ (count : Count). is_key key count.key && count.indirect) counts c,
      )
      (by_tests (is_key key c.key) c.passed c.indirect (item_of counts key))
    where
      by_tests : (b p i : Bool) (item : Item)
          → record { key = item.key; success = cond (b && p) (one_more item.success) item.success; failure = cond (b && not p) (one_more item.failure) item.failure; indirect = cond (b && i) (one_more item.indirect) item.indirect }
          ≡ cond b (item_after p i item) item
      by_tests true true true item = refl
      by_tests true true false item = refl
      by_tests true false true item = refl
      by_tests true false false item = refl
      by_tests false p i item = refl

  -- the items of the same keys
  pub bumped_items : (counts : List Count) (keys : List Key) → map (item_of (counts ++ c ∷ [])) keys ≡ map bumped (map (item_of counts) keys)
  bumped_items counts [] = refl
  bumped_items counts (key ∷ keys) = ap (λ (item : Item). item ∷ map (item_of (counts ++ c ∷ [])) keys) (item_of-push counts key) ∙ ap (λ (items : List Item). bumped (item_of counts key) ∷ items) (bumped_items counts keys)

  -- if no item is of the key, none changes
  pub none_bumped : (items : List Item) → list_any (is_item c.key) items ≡ false → map bumped items ≡ items
  none_bumped [] h = refl
  none_bumped (item ∷ items) h =
      by_test (λ b. (b || list_any (is_item c.key) items) ≡ false → cond b (item_after c.passed c.indirect item) item ∷ map bumped items ≡ item ∷ items) (is_key item.key c.key)
      (λ same h. absurd cc)
      (λ other h. ap (λ (is : List Item). item ∷ is) (none_bumped items h))
      h

  pub key-bumped : (item : Item) → (bumped item).key ≡ item.key
  key-bumped item = elim (is_key item.key c.key) as (λ b. (cond b (item_after c.passed c.indirect item) item).key ≡ item.key) [ true ↦ refl | false ↦ refl ]

  -- what is told by the key alone does not change
  pub filter-bumped : (test : Key → Bool) (items : List Item) → filter (λ (item : Item). test item.key) (map bumped items) ≡ map bumped (filter (λ (item : Item). test item.key) items)
  filter-bumped test [] = refl
  filter-bumped test (item ∷ items) =
      ap (λ key. cond (test key) (bumped item ∷ filter (λ (i : Item). test i.key) (map bumped items)) (filter (λ (i : Item). test i.key) (map bumped items))) (key-bumped item)
      ∙ ap (λ (is : List Item). cond (test item.key) (bumped item ∷ is) is) (filter-bumped test items)
      ∙ elim (test item.key) as (λ b. cond b (bumped item ∷ map bumped (filter (λ (i : Item). test i.key) items)) (map bumped (filter (λ (i : Item). test i.key) items)) ≡ map bumped (cond b (item ∷ filter (λ (i : Item). test i.key) items) (filter (λ (i : Item). test i.key) items)))
      [ true ↦ refl | false ↦ refl ]

  -- ---- a list of items

  any-item_of : (counts : List Count) (keys : List Key) → list_any (is_item c.key) (map (item_of counts) keys) ≡ list_any (λ (key : Key). is_key key c.key) keys
  any-item_of counts [] = refl
  any-item_of counts (key ∷ keys) = ap (λ b. is_key key c.key || b) (any-item_of counts keys)

  map_keys : (counts : List Count) → map (λ (count : Count). count.key) (counts ++ c ∷ []) ≡ map (λ (count : Count). count.key) counts ++ c.key ∷ []
  map_keys counts = map-append (λ (count : Count). count.key) counts (c ∷ [])

  pub items-found : (counts : List Count) → list_any (is_item c.key) (items_of counts) ≡ true → items_of (counts ++ c ∷ []) ≡ map bumped (items_of counts)
  unfolding items_of keys_of
  items-found counts found =
      let keys : List Key = map (λ (count : Count). count.key) counts in
      let there : list_any (λ (key : Key). is_key key c.key) (take greatest_list (distinct_keys keys)) ≡ true = sym (any-item_of counts (take greatest_list (distinct_keys keys))) ∙ found in
      ap (λ (ks : List Key). map (item_of (counts ++ c ∷ [])) (take greatest_list (distinct_keys ks))) (map_keys counts)
      ∙ ap (map (item_of (counts ++ c ∷ []))) (first-found c.key keys there)
      ∙ bumped_items counts (take greatest_list (distinct_keys keys))

  pub items-full : (counts : List Count) → greatest_list ≤ length (items_of counts) → items_of (counts ++ c ∷ []) ≡ map bumped (items_of counts)
  unfolding items_of keys_of
  items-full counts full =
      let keys : List Key = map (λ (count : Count). count.key) counts in
      ap (λ (ks : List Key). map (item_of (counts ++ c ∷ [])) (take greatest_list (distinct_keys ks))) (map_keys counts)
      ∙ ap (map (item_of (counts ++ c ∷ []))) (first-full c.key keys (rw length-map at full))
      ∙ bumped_items counts (take greatest_list (distinct_keys keys))

  -- ---- a new item

  abbrev pub blank : Item
  blank = new_item c.key

  not_counted : (test : Count → Bool) (counts : List Count) → list_any (λ (key : Key). is_key key c.key) (map (λ (count : Count). count.key) counts) ≡ false
      → number_of (λ (count : Count). is_key c.key count.key && test count) counts ≡ 0
  unfolding number_of
  not_counted test counts h = ap (λ n. min n greatest_int) (sym (length-filter (λ (count : Count). is_key c.key count.key && test count) counts) ∙ ap (λ (cs : List Count). length cs) (none_counted counts h))
    where
      none_counted : (counts : List Count) → list_any (λ (key : Key). is_key key c.key) (map (λ (count : Count). count.key) counts) ≡ false
          → filter (λ (count : Count). is_key c.key count.key && test count) counts ≡ []
      none_counted [] h = refl
      none_counted (count ∷ counts) h =
          by_test (λ b. cond (b && test count) (count ∷ filter (λ (count : Count). is_key c.key count.key && test count) counts) (filter (λ (count : Count). is_key c.key count.key && test count) counts) ≡ [])
          (is_key c.key count.key)
          (λ same. let e : c.key ≡ count.key = key_same c.key count.key same in let t : is_key count.key c.key ≡ true = rw (← e) (key_itself c.key) in let clash : true ≡ false = rw t at h in absurd cc)
          (λ other. none_counted counts (either_false (is_key count.key c.key) _ h))

  none_passed : (counts : List Count) → list_any (λ (key : Key). is_key key c.key) (map (λ (count : Count). count.key) counts) ≡ false → item_of counts c.key ≡ blank
  none_passed counts h = rw (not_counted (λ (count : Count). count.passed) counts h, not_counted (λ (count : Count). not count.passed) counts h, not_counted (λ (count : Count). count.indirect) counts h) refl

  pub items-new : (counts : List Count) → list_any (is_item c.key) (items_of counts) ≡ false → length (items_of counts) < greatest_list
      → items_of (counts ++ c ∷ []) ≡ items_of counts ++ item_after c.passed c.indirect blank ∷ []
  unfolding items_of keys_of
  items-new counts missing few =
      let keys : List Key = map (λ (count : Count). count.key) counts in
      let firsts : List Key = take greatest_list (distinct_keys keys) in
      let missed : list_any (λ (key : Key). is_key key c.key) firsts ≡ false = sym (any-item_of counts firsts) ∙ missing in
      let fewer : length firsts < greatest_list = rw length-map at few in
      let none_there : list_any (λ (key : Key). is_key key c.key) keys ≡ false = not-first c.key keys missed fewer in
      let same : map (item_of (counts ++ c ∷ [])) firsts ≡ map (item_of counts) firsts = bumped_items counts firsts ∙ none_bumped (map (item_of counts) firsts) missing in
      let here : item_of (counts ++ c ∷ []) c.key ≡ item_after c.passed c.indirect blank =
      item_of-push counts c.key ∙ rw (key_itself c.key) (ap (item_after c.passed c.indirect) (none_passed counts none_there)) in
      ap (λ (ks : List Key). map (item_of (counts ++ c ∷ [])) (take greatest_list (distinct_keys ks))) (map_keys counts)
      ∙ ap (map (item_of (counts ++ c ∷ []))) (first-new c.key keys missed fewer)
      ∙ map-append (item_of (counts ++ c ∷ [])) firsts (c.key ∷ [])
      ∙ ap (λ (is : List Item). is ++ item_of (counts ++ c ∷ []) c.key ∷ []) same
      ∙ ap (λ (i : Item). map (item_of counts) firsts ++ i ∷ []) here

-- ---- all lists

module _ (c : Count) (items : List Item) (counts : List Count) (h : Holds items counts) where
  abbrev more : List Count
  more = counts ++ c ∷ []

  counts_in-push : (version : Version) (info : Info) → counts_in version info more ≡ counts_in version info counts ++ cond (is_in version info c.key) (c ∷ []) []
  counts_in-push version info = filter-append (λ (count : Count). is_in version info count.key) counts (c ∷ [])

  -- a key has an item in the list that is its own, or none
  any_in : (version : Version) (info : Info) (is : List Item) → is_in version info c.key ≡ true → list_any (is_item c.key) (items_in version info is) ≡ list_any (is_item c.key) is
  unfolding items_in
  any_in version info [] own = refl
  any_in version info (item ∷ is) own =
      by_test (λ b. list_any (is_item c.key) (cond b (item ∷ items_in version info is) (items_in version info is)) ≡ (is_key item.key c.key || list_any (is_item c.key) is)) (is_in version info item.key)
      (λ here. ap (λ b. is_key item.key c.key || b) (any_in version info is own))
      (λ elsewhere. rw (not_same (is_key item.key c.key) refl elsewhere) (any_in version info is own))
    where
      not_same : (b : Bool) → is_key item.key c.key ≡ b → is_in version info item.key ≡ false → is_key item.key c.key ≡ false
      not_same true same elsewhere =
          let e : item.key ≡ c.key = key_same item.key c.key same in
          let clash : true ≡ false = sym own ∙ rw e at elsewhere in
          absurd cc
      not_same false other elsewhere = other

  none_in : (version : Version) (info : Info) (is : List Item) → is_in version info c.key ≡ false → list_any (is_item c.key) (items_in version info is) ≡ false
  unfolding items_in
  none_in version info [] other = refl
  none_in version info (item ∷ is) other =
      by_test (λ b. list_any (is_item c.key) (cond b (item ∷ items_in version info is) (items_in version info is)) ≡ false) (is_in version info item.key)
      (λ here. rw (not_same (is_key item.key c.key) refl here) (none_in version info is other))
      (λ elsewhere. none_in version info is other)
    where
      not_same : (b : Bool) → is_key item.key c.key ≡ b → is_in version info item.key ≡ true → is_key item.key c.key ≡ false
      not_same true same here =
          let e : item.key ≡ c.key = key_same item.key c.key same in
          let clash : true ≡ false = sym here ∙ rw (← e) at other in
          absurd cc
      not_same false differs here = differs

  items_in-bumped : (version : Version) (info : Info) → items_in version info (map (bumped c) items) ≡ map (bumped c) (items_in version info items)
  unfolding items_in
  items_in-bumped version info = filter-bumped c (is_in version info) items

  -- other lists have no item of the key
  elsewhere : (version : Version) (info : Info) → is_in version info c.key ≡ false → items_of (counts_in version info more) ≡ items_of (counts_in version info counts)
  elsewhere version info other = ap items_of (counts_in-push version info ∙ rw other (append-nil (counts_in version info counts)))

  here : (version : Version) (info : Info) → is_in version info c.key ≡ true → counts_in version info more ≡ counts_in version info counts ++ c ∷ []
  here version info own = counts_in-push version info ∙ rw own refl

  pub holds-found : list_any (is_item c.key) items ≡ true → Holds (map (bumped c) items) more
  holds-found found version info =
      items_in-bumped version info
      ∙ by_test (λ b. map (bumped c) (items_in version info items) ≡ items_of (counts_in version info more)) (is_in version info c.key)
      (λ own.
      let there : list_any (is_item c.key) (items_of (counts_in version info counts)) ≡ true = rw (← h version info) (any_in version info items own ∙ found) in
      ap (map (bumped c)) (h version info) ∙ sym (items-found c (counts_in version info counts) there) ∙ ap items_of (sym (here version info own)))
      (λ other.
      none_bumped c (items_in version info items) (none_in version info items other) ∙ h version info ∙ sym (elsewhere version info other))

  module _ (missing : list_any (is_item c.key) items ≡ false) where
    missed : (version : Version) (info : Info) → is_in version info c.key ≡ true → list_any (is_item c.key) (items_of (counts_in version info counts)) ≡ false
    missed version info own = rw (← h version info) (any_in version info items own ∙ missing)

    own_list : (version : Version) (info : Info) → is_in version info c.key ≡ true → length (items_of (counts_in version info counts)) ≡ length (items_in c.key.version (info_of c.key.proc) items)
    own_list version info own = let p = in_place version info c.key own in rw (p.0, p.1, ← h version info) refl

    items_in-new : (version : Version) (info : Info) (item : Item) → item.key ≡ c.key → items_in version info (items ++ item ∷ []) ≡ items_in version info items ++ cond (is_in version info c.key) (item ∷ []) []
    unfolding items_in
    items_in-new version info item is =
        filter-append (λ (i : Item). is_in version info i.key) items (item ∷ []) ∙ ap (λ (key : Key). filter (λ (i : Item). is_in version info i.key) items ++ cond (is_in version info key) (item ∷ []) []) is

    pub holds-new : length (items_in c.key.version (info_of c.key.proc) items) < greatest_list → Holds (items ++ item_after c.passed c.indirect (blank c) ∷ []) more
    holds-new few version info =
        items_in-new version info (item_after c.passed c.indirect (blank c)) refl
        ∙ by_test (λ b. items_in version info items ++ cond b (item_after c.passed c.indirect (blank c) ∷ []) [] ≡ items_of (counts_in version info more)) (is_in version info c.key)
        (λ own.
        let fewer : length (items_of (counts_in version info counts)) < greatest_list = rw (own_list version info own) few in
        ap (λ (is : List Item). is ++ item_after c.passed c.indirect (blank c) ∷ []) (h version info)
        ∙ sym (items-new c (counts_in version info counts) (missed version info own) fewer) ∙ ap items_of (sym (here version info own)))
        (λ other. append-nil (items_in version info items) ∙ h version info ∙ sym (elsewhere version info other))

    pub holds-full : greatest_list ≤ length (items_in c.key.version (info_of c.key.proc) items) → Holds items more
    holds-full full version info =
        by_test (λ b. items_in version info items ≡ items_of (counts_in version info more)) (is_in version info c.key)
        (λ own.
        let fuller : greatest_list ≤ length (items_of (counts_in version info counts)) = rw (own_list version info own) full in
        h version info ∙ sym (none_bumped c (items_of (counts_in version info counts)) (missed version info own)) ∙ sym (items-full c (counts_in version info counts) fuller)
        ∙ ap items_of (sym (here version info own)))
        (λ other. h version info ∙ sym (elsewhere version info other))
