-- The rows of one version that a cursor has not passed.
use Rattle.std.proofs.Common.{◌≡◌, ℕ, zero, suc, ◌+◌, ◌*◌, ◌<◌, ◌≤◌, Bool, true, false, cond, eqb, ◌&&◌, List, [], ◌∷◌, ◌++◌, length, drop, Option, Some, None, refl, sym, ap, ◌∙◌, subst, eq-eqb, length-append, inl, inr, arith}
use Rattle.std.specs.Prelude.{filter, is_none, option_map, IsSome, ◌^◌}
use Rattle.std.specs.Map.{values_of}
use Rattle.std.proofs.lemmas.Map.Entries.{length-values_of}
use Rattle.std.proofs.lemmas.Bool.{cases_lt, eqb-true}
use Rattle.rb_xdr.specs.Ordered.{looks}
use Rattle.rb_xdr.specs.Pool.{value_at, HasDistinctKeys}
use Rattle.rb_xdr.specs.Places.{behind, count_to, to_come, count_passed}
use Rattle.rb_xdr.proofs.Ordering.{looks_few}
use Rattle.rb_xdr.proofs.Walks.{apart, passed}
use Rattle.rb_address.specs.declared.netid.Netid.{Netid}
use Rattle.rb_address.specs.declared.netid.Netid.TheVariants.{Tcp, Udp, Tcp6, Udp6, Local}
use Rattle.rb_registry.specs.declared.row.Row.{Row}
use Rattle.rb_registry.specs.declared.slot.Slot.{Slot}
use Rattle.rb_registry.specs.Rows.{is_on, is_row, is_of_version}
use Rattle.rb_address.specs.Netids.{is_netid}
use Rattle.rb_registry.specs.Registry.{Registry, table_of, rows_at, rows_of, rows_passed, table_at}
use Rattle.rb_registry.specs.Table.{AreStamped}
use Rattle.rb_registry.specs.Index.{rank, rank_of, ranks, AreRanked, IsIndexed}
use Rattle.rb_registry.specs.Cursors.{StandsIn}
use Rattle.rb_registry.specs.Versions.{versions_in, versions_left, VersionsAreFew, PassesMore}
use Rattle.rb_registry.proofs.Removing.{passed-to_come}
use Rattle.rb_registry.proofs.Finds.{values_of-filter}
use Rattle.rb_registry.proofs.Tables.{distinct_at, to_come_at}
use Rattle.rb_registry.proofs.Cursors.{length-passed, counted}
use Rattle.rb_registry.proofs.Ranks.{same_rank}
use Rattle.rb_registry.proofs.NextOf.{versions_table, in_behind, distinct_to_come}

-- ---- entries

module _ {T : Type 0} where
  drop_values : (front later : List (ℕ × T)) → drop (length front) (values_of (front ++ later)) ≡ values_of later
  drop_values [] later = refl
  drop_values (e ∷ front) later = drop_values front later

  -- the first that passes a test is there
  first_there : (test : ℕ × T → Bool) (entries : List (ℕ × T)) (key : ℕ) (value : T) (later : List (ℕ × T)) → HasDistinctKeys entries → filter test entries ≡ (key, value) ∷ later → value_at entries key ≡ Some value
  first_there test [] key value later d is = absurd (cc)
  first_there test (e ∷ rest) key value later d is = by_test (test e) is (first_there test rest key value later d.1)
    where
      by_test : (b : Bool) → cond b (e ∷ filter test rest) (filter test rest) ≡ (key, value) ∷ later → (filter test rest ≡ (key, value) ∷ later → value_at rest key ≡ Some value)
          → value_at (e ∷ rest) key ≡ Some value
      by_test true is further =
          let same : e ≡ (key, value) = cc in
          let here : eqb e.0 key ≡ true = eq-eqb e.0 key (ap (λ (x : ℕ × T). x.0) same) in
          rw here (ap (λ (x : ℕ × T). Some x.1) same)
      by_test false is further =
          let there = further is in
          let other : eqb e.0 key ≡ false = apart rest e.0 key value d.0 there in
          rw other there

  counted_there : (entries : List (ℕ × T)) (key : ℕ) (value : T) → value_at entries key ≡ Some value → IsSome (count_to entries key)
  counted_there [] key value there = absurd (cc)
  counted_there (e ∷ rest) key value there = by_test (eqb e.0 key) there (counted_there rest key value)
    where
      more : (o : Option ℕ) → IsSome o → IsSome (option_map (λ m. m + 1) o)
      more None some = some
      more (Some m) some = refl

      by_test : (b : Bool) → cond b (Some e.1) (value_at rest key) ≡ Some value → (value_at rest key ≡ Some value → IsSome (count_to rest key))
          → IsSome (cond b (Some 1) (option_map (λ m. m + 1) (count_to rest key)))
      by_test true there further = refl
      by_test false there further = more (count_to rest key) (further there)

  shorter_behind : (entries : List (ℕ × T)) (key : ℕ) (value : T) → value_at entries key ≡ Some value → length (behind entries key) + 1 ≤ length entries
  shorter_behind [] key value there = absurd (cc)
  shorter_behind (e ∷ rest) key value there = by_test (eqb e.0 key) there (shorter_behind rest key value)
    where
      by_test : (b : Bool) → cond b (Some e.1) (value_at rest key) ≡ Some value → (value_at rest key ≡ Some value → length (behind rest key) + 1 ≤ length rest)
          → length (cond b rest (behind rest key)) + 1 ≤ length (e ∷ rest)
      by_test true there further = omega arith
      by_test false there further = let less = further there in omega (arith, less)

-- what comes after a place has its stamps
stamped_to_come : (stamp : ℕ) (entries : List (ℕ × Slot)) (place : Option ℕ) → AreStamped stamp entries → AreStamped stamp (to_come entries place)
stamped_to_come stamp entries None h = h
stamped_to_come stamp [] (Some key) h = tt
stamped_to_come stamp (e ∷ rest) (Some key) h =
    elim (eqb e.0 key) as (λ b. AreStamped stamp (cond b rest (behind rest key))) [ true ↦ h.1 | false ↦ stamped_to_come stamp rest (Some key) h.1 ]

-- ---- a cursor

-- a cursor that stands there splits the rows
module _ (kept : Registry) (d : HasDistinctKeys kept.entries) (cursor : Option ℕ) (h : StandsIn kept kept.stamp cursor) where
  here : count_passed (table_of kept kept.stamp) cursor ≡ Some (rows_passed kept kept.stamp cursor)
  here = counted (count_passed (table_of kept kept.stamp) cursor) h.place

  split : passed (table_of kept kept.stamp) cursor ++ to_come (table_of kept kept.stamp) cursor ≡ table_of kept kept.stamp
  split = passed-to_come (table_of kept kept.stamp) cursor

  as_many : length (passed (table_of kept kept.stamp) cursor) ≡ rows_passed kept kept.stamp cursor
  as_many = length-passed (table_of kept kept.stamp) cursor (rows_passed kept kept.stamp cursor) here

  rows_behind_it : drop (rows_passed kept kept.stamp cursor) (rows_of kept) ≡ values_of (to_come (table_of kept kept.stamp) cursor)
  rows_behind_it =
      let there : drop (length (passed (table_of kept kept.stamp) cursor)) (values_of (table_of kept kept.stamp)) ≡ values_of (to_come (table_of kept kept.stamp) cursor) =
      rw split at (drop_values (passed (table_of kept kept.stamp) cursor) (to_come (table_of kept kept.stamp) cursor)) in
      rw (← as_many) there

  whole_length : rows_passed kept kept.stamp cursor + length (to_come (table_of kept kept.stamp) cursor) ≡ length (rows_of kept)
  whole_length =
      let sum = length-append (passed (table_of kept kept.stamp) cursor) (to_come (table_of kept kept.stamp) cursor) in
      let all : length (passed (table_of kept kept.stamp) cursor ++ to_come (table_of kept kept.stamp) cursor) ≡ length (table_of kept kept.stamp) = ap (λ (es : List (ℕ × Row)). length es) split in
      omega (arith, sum, all, as_many, length-values_of (table_of kept kept.stamp))

-- `inside` are the fields of the registry, and `place` the cursor's
module _ (kept inside : Registry) (cursor place : Option ℕ) (same : inside ≡ kept) (at : place ≡ cursor) (prog vers : ℕ) (distinct : HasDistinctKeys inside.entries) (are_stamped : AreStamped inside.stamp inside.entries) (h : StandsIn kept kept.stamp cursor) where
  d : HasDistinctKeys kept.entries
  d = subst (λ (r : Registry). HasDistinctKeys r.entries) same distinct

  stamped : AreStamped kept.stamp kept.entries
  stamped = subst (λ (r : Registry). AreStamped r.stamp r.entries) same are_stamped

  come : versions_in prog vers (to_come kept.entries place) ≡ filter (λ e. is_of_version prog vers e.1) (to_come (table_of kept kept.stamp) cursor)
  come =
      let there : versions_in prog vers (to_come kept.entries cursor) ≡ filter (λ e. is_of_version prog vers e.1) (to_come (table_of kept kept.stamp) cursor) =
      versions_table kept.stamp prog vers (to_come kept.entries cursor) (stamped_to_come kept.stamp kept.entries cursor stamped)
      ∙ ap (filter (λ e. is_of_version prog vers e.1)) (to_come_at kept.stamp cursor kept.entries d h.place) in
      ap (λ (p : Option ℕ). versions_in prog vers (to_come kept.entries p)) at ∙ there

  left_is : versions_left prog vers kept cursor ≡ values_of (versions_in prog vers (to_come kept.entries place))
  left_is =
      ap (filter (is_of_version prog vers)) (rows_behind_it kept d cursor h)
      ∙ sym (values_of-filter (is_of_version prog vers) (to_come (table_of kept kept.stamp) cursor))
      ∙ ap (λ (es : List (ℕ × Row)). values_of es) (sym come)

  pub none_left : versions_in prog vers (to_come kept.entries place) ≡ [] → versions_left prog vers kept cursor ≡ []
  none_left none = left_is ∙ ap (λ (es : List (ℕ × Row)). values_of es) none

  module _ (key : ℕ) (row : Row) (found : versions_in prog vers (to_come kept.entries place) ≡ (key, row) ∷ versions_in prog vers (behind kept.entries key)) (behind_it : Option ℕ) (is_key : behind_it ≡ Some key) where
    after_it : value_at (to_come (table_of kept kept.stamp) cursor) key ≡ Some row
    after_it = first_there (λ e. is_of_version prog vers e.1) (to_come (table_of kept kept.stamp) cursor) key row _ (distinct_to_come (table_of kept kept.stamp) cursor (distinct_at kept.stamp kept.entries d)) (sym come ∙ found)

    there : (value_at (table_of kept kept.stamp) key ≡ Some row) × (behind (to_come (table_of kept kept.stamp) cursor) key ≡ behind (table_of kept kept.stamp) key)
    there = in_behind (table_of kept kept.stamp) cursor key row (distinct_at kept.stamp kept.entries d) after_it

    pub stands_there : StandsIn kept kept.stamp behind_it
    stands_there = record { reached = h.reached; place = rw is_key (counted_there (table_of kept kept.stamp) key row there.0) }

    pub passes_more : PassesMore kept cursor behind_it
    passes_more =
        let before = whole_length kept d cursor h in
        let now = whole_length kept d behind_it stands_there in
        let fewer = shorter_behind (to_come (table_of kept kept.stamp) cursor) key row after_it in
        let left : length (behind (to_come (table_of kept kept.stamp) cursor) key) ≡ length (to_come (table_of kept kept.stamp) behind_it) = rw is_key (ap (λ (es : List (ℕ × Row)). length es) there.1) in
        omega (arith, before, now, fewer, left)

    pub is_within : rows_passed kept kept.stamp behind_it ≤ length (rows_at kept kept.stamp)
    is_within = omega (arith, whole_length kept d behind_it stands_there)

-- the versions that are left are this row and those that the next cursor leaves
pub row_and_left : (kept inside : Registry) (cursor place : Option ℕ) (same : inside ≡ kept) (at : place ≡ cursor) (prog vers : ℕ) (distinct : HasDistinctKeys inside.entries) (are_stamped : AreStamped inside.stamp inside.entries) (h : StandsIn kept kept.stamp cursor)
    → (key : ℕ) (row : Row) → versions_in prog vers (to_come kept.entries place) ≡ (key, row) ∷ versions_in prog vers (behind kept.entries key) → (behind_it : Option ℕ) → behind_it ≡ Some key
    → versions_left prog vers kept cursor ≡ row ∷ versions_left prog vers kept behind_it
row_and_left kept inside cursor place same at prog vers distinct are_stamped h key row found behind_it is_key =
    let stands = stands_there kept inside cursor place same at prog vers distinct are_stamped h key row found behind_it is_key in
    left_is kept inside cursor place same at prog vers distinct are_stamped h
    ∙ ap (λ (es : List (ℕ × Row)). values_of es) found
    ∙ ap (λ (rows : List Row). row ∷ rows) (sym (left_is kept inside behind_it (Some key) same (sym is_key) prog vers distinct are_stamped stands))

-- ---- five at most

-- how many live rows of the version there are on a netid
abbrev count_on : ℕ → ℕ → Netid → List (ℕ × Slot) → ℕ
count_on prog vers netid [] = 0
count_on prog vers netid (e ∷ rest) = cond (is_none e.1.removed && is_row prog vers netid e.1.row) 1 0 + count_on prog vers netid rest

module _ (prog vers : ℕ) (small : vers < 2 ^ 32) where
  module _ (netid : Netid) where
    none_on : (entries : List (ℕ × Slot)) → AreRanked entries → value_at (ranks entries) (rank prog netid vers) ≡ None → count_on prog vers netid entries ≡ 0
    none_on [] ranked none = refl
    none_on (e ∷ rest) ranked none =
        rw (same_rank prog vers netid e.1.row ranked.0 small)
        (by_tests (is_none e.1.removed) (eqb (rank_of e.1.row) (rank prog netid vers)) refl none (none_on rest ranked.1))
      where
        by_tests : (a b : Bool) → eqb (rank_of e.1.row) (rank prog netid vers) ≡ b → value_at (cond a ((rank_of e.1.row, e.0) ∷ ranks rest) (ranks rest)) (rank prog netid vers) ≡ None
            → (value_at (ranks rest) (rank prog netid vers) ≡ None → count_on prog vers netid rest ≡ 0) → cond (a && b) 1 0 + count_on prog vers netid rest ≡ 0
        by_tests true true t none further = let clash : Some e.0 ≡ None = rw t at none in absurd (cc)
        by_tests true false t none further = let others = further (rw t at none) in omega (arith, others)
        by_tests false b t none further = let others = further none in omega (arith, others)

    one_on : (entries : List (ℕ × Slot)) → AreRanked entries → HasDistinctKeys (ranks entries) → count_on prog vers netid entries ≤ 1
    one_on [] ranked keys = omega arith
    one_on (e ∷ rest) ranked keys =
        rw (same_rank prog vers netid e.1.row ranked.0 small)
        (by_tests (is_none e.1.removed) (eqb (rank_of e.1.row) (rank prog netid vers)) refl keys (one_on rest ranked.1))
      where
        by_tests : (a b : Bool) → eqb (rank_of e.1.row) (rank prog netid vers) ≡ b → HasDistinctKeys (cond a ((rank_of e.1.row, e.0) ∷ ranks rest) (ranks rest))
            → (HasDistinctKeys (ranks rest) → count_on prog vers netid rest ≤ 1) → cond (a && b) 1 0 + count_on prog vers netid rest ≤ 1
        by_tests true true t keys further =
            let same : rank_of e.1.row ≡ rank prog netid vers = eqb-true _ _ t in
            let none : value_at (ranks rest) (rank prog netid vers) ≡ None = rw same at keys.0 in
            let others = none_on rest ranked.1 none in
            omega (arith, others)
        by_tests true false t keys further = let others = further keys.1 in omega (arith, others)
        by_tests false b t keys further = let others = further keys in omega (arith, others)

  -- each row of the version is on one of the netids
  on_one : (row : Row) → is_of_version prog vers row ≡ true
      → 1 ≤ cond (is_row prog vers Tcp row) 1 0 + cond (is_row prog vers Udp row) 1 0 + cond (is_row prog vers Tcp6 row) 1 0 + cond (is_row prog vers Udp6 row) 1 0 + cond (is_row prog vers Local row) 1 0
  unfolding is_row is_on is_netid
  on_one row is = by_parts (eqb row.prog prog) (eqb row.vers vers) is row.netid
    where
      by_parts : (a b : Bool) → (a && b) ≡ true → (netid : Netid)
          → 1 ≤ cond ((a && is_netid netid Tcp) && b) 1 0 + cond ((a && is_netid netid Udp) && b) 1 0 + cond ((a && is_netid netid Tcp6) && b) 1 0 + cond ((a && is_netid netid Udp6) && b) 1 0 + cond ((a && is_netid netid Local) && b) 1 0
      by_parts true true is Tcp = omega arith
      by_parts true true is Udp = omega arith
      by_parts true true is Tcp6 = omega arith
      by_parts true true is Udp6 = omega arith
      by_parts true true is Local = omega arith
      by_parts true false is netid = absurd (cc)
      by_parts false b is netid = absurd (cc)

  abbrev count_all : List (ℕ × Slot) → ℕ
  count_all entries =
      count_on prog vers Tcp entries + count_on prog vers Udp entries + count_on prog vers Tcp6 entries + count_on prog vers Udp6 entries + count_on prog vers Local entries

  few_in : (entries : List (ℕ × Slot)) → length (versions_in prog vers entries) ≤ count_all entries
  few_in [] = omega arith
  few_in (e ∷ rest) = by_tests (is_none e.1.removed) (is_of_version prog vers e.1.row) refl (few_in rest)
    where
      by_tests : (a b : Bool) → is_of_version prog vers e.1.row ≡ b → length (versions_in prog vers rest) ≤ count_all rest
          → length (cond (a && b) ((e.0, e.1.row) ∷ versions_in prog vers rest) (versions_in prog vers rest))
          ≤ (cond (a && is_row prog vers Tcp e.1.row) 1 0 + count_on prog vers Tcp rest) + (cond (a && is_row prog vers Udp e.1.row) 1 0 + count_on prog vers Udp rest) + (cond (a && is_row prog vers Tcp6 e.1.row) 1 0 + count_on prog vers Tcp6 rest) + (cond (a && is_row prog vers Udp6 e.1.row) 1 0 + count_on prog vers Udp6 rest) + (cond (a && is_row prog vers Local e.1.row) 1 0 + count_on prog vers Local rest)
      by_tests true true t further = omega (arith, further, on_one e.1.row t)
      by_tests true false t further = omega (arith, further)
      by_tests false b t further = omega (arith, further)

  five_in : (entries : List (ℕ × Slot)) → AreRanked entries → HasDistinctKeys (ranks entries) → length (versions_in prog vers entries) ≤ 5
  five_in entries ranked keys =
      omega (arith, few_in entries, one_on Tcp entries ranked keys, one_on Udp entries ranked keys, one_on Tcp6 entries ranked keys, one_on Udp6 entries ranked keys, one_on Local entries ranked keys)

fewer_left : (test : Row → Bool) (n : ℕ) (rows : List Row) → length (filter test (drop n rows)) ≤ length (filter test rows)
fewer_left test zero rows = omega arith
fewer_left test (suc n) [] = omega arith
fewer_left test (suc n) (row ∷ rows) =
    let later = fewer_left test n rows in
    elim (test row) as (λ b. length (filter test (drop n rows)) ≤ length (cond b (row ∷ filter test rows) (filter test rows))) [ true ↦ omega (arith, later) | false ↦ later ]

pub versions_are_few : (kept inside : Registry) (index : List (ℕ × ℕ)) → inside ≡ kept → AreStamped inside.stamp inside.entries → IsIndexed inside.entries index → VersionsAreFew kept
versions_are_few kept inside index same stamped indexed prog vers cursor small =
    let table = versions_table inside.stamp prog vers inside.entries stamped in
    let five = five_in prog vers small inside.entries indexed.ranked indexed.distinct in
    let rows : values_of (versions_in prog vers inside.entries) ≡ filter (is_of_version prog vers) (rows_of inside) =
    ap (λ (es : List (ℕ × Row)). values_of es) table ∙ values_of-filter (is_of_version prog vers) (table_at inside.stamp inside.entries) in
    let as_long : length (values_of (versions_in prog vers inside.entries)) ≡ length (filter (is_of_version prog vers) (rows_of inside)) = ap (λ (rs : List Row). length rs) rows in
    let whole : length (filter (is_of_version prog vers) (rows_of inside)) ≤ 5 = omega (arith, as_long, five, length-values_of (versions_in prog vers inside.entries)) in
    let all : length (filter (is_of_version prog vers) (rows_of kept)) ≤ 5 = rw same at whole in
    let fewer = fewer_left (is_of_version prog vers) (rows_passed kept kept.stamp cursor) (rows_of kept) in
    omega (arith, fewer, all)

-- ---- when searches are fewer than walks

-- among 256 rows or more, live or retained, to find five rows of a version costs less than a walk
pub long_enough : (count slots : ℕ) → 256 ≤ slots → slots < 2 ^ 56 → count ≤ slots → 5 * looks count + 10 + 6 * 28 ≤ 2 * slots
long_enough count slots many few within =
    elim (cases_lt 256 slots) [
      | inr upto ↦ let looked = looks_few count 8 (omega (arith, upto, within)) in omega (arith, looked, many)
      | inl more ↦ elim (cases_lt 512 slots) [
        | inr upto ↦ let looked = looks_few count 9 (omega (arith, upto, within)) in omega (arith, looked, more)
        | inl past ↦ elim (cases_lt 4096 slots) [
          | inr upto ↦ let looked = looks_few count 12 (omega (arith, upto, within)) in omega (arith, looked, past)
          | inl far ↦ let looked = looks_few count 56 (omega (arith, few, within)) in omega (arith, looked, far)
        ]
      ]
    ]
