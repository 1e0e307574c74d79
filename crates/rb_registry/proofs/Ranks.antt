-- The index of the live rows, by rank.
use Rattle.std.proofs.Common.{◌≡◌, ℕ, ◌+◌, ◌-◌, ◌*◌, ◌<◌, ◌≤◌, Bool, true, false, cond, eqb, ◌&&◌, ◌||◌, List, [], ◌∷◌, ◌++◌, length-append, Option, Some, None, is_some, refl, sym, ap, ◌∙◌, eq-eqb, arith}
use Rattle.std.specs.Prelude.{filter, find, is_none, nat_le, not, fold, map, max, option_map, ◌^◌}
use Rattle.std.specs.List.{list_any}
use Rattle.std.specs.Map.{values_of}
use Rattle.std.specs.Option.{option_or}
use Rattle.std.proofs.lemmas.Bool.{eqb-true}
use Rattle.std.proofs.lemmas.Bool.Decides.{nat_tests}
use Rattle.rb_xdr.specs.Pool.{value_at, HasDistinctKeys}
use Rattle.rb_xdr.specs.Search.{key_of}
use Rattle.rb_xdr.specs.Ordered.{IsRising, last_upto, with_number}
use Rattle.rb_xdr.proofs.Ordering.{value_at-with_number, length-with_number, last_greatest, last_there}
use Rattle.rb_xdr.proofs.Walks.{distinct-push}
use Rattle.rb_address.specs.declared.netid.Netid.{Netid}
use Rattle.rb_address.specs.declared.netid.Netid.TheVariants.{Tcp, Udp, Tcp6, Udp6, Local}
use Rattle.rb_registry.specs.declared.row.Row.{Row}
use Rattle.rb_registry.specs.declared.slot.Slot.{Slot}
use Rattle.rb_registry.specs.Rows.{is_on, is_row, is_of_key, are_distinct, find_exact, find_row, versions, greatest}
use Rattle.rb_address.specs.Netids.{is_netid}
use Rattle.rb_registry.specs.Slots.{is_live_at, slot_of, is_dropped, removed_by}
use Rattle.rb_registry.specs.Registry.{table_at, live_at}
use Rattle.rb_registry.specs.Table.{AreStamped, entries_left}
use Rattle.rb_registry.specs.Index.{netid_number, rank, rank_of, ranks, AreRanked, IsIndexed, key_from, newest_key, row_under}
use Rattle.rb_registry.proofs.Tables.{live_has_none}
use Rattle.rb_registry.proofs.Searching.{is_live_row, none_found, row_found}
use Rattle.rb_registry.proofs.FoundLaws.{version_upto, greatest_there}

-- ---- ranks

netid_below : (netid : Netid) → netid_number netid < 8
netid_below Tcp = omega arith
netid_below Udp = omega arith
netid_below Tcp6 = omega arith
netid_below Udp6 = omega arith
netid_below Local = omega arith

same_netid : (a b : Netid) → is_netid a b ≡ eqb (netid_number a) (netid_number b)
unfolding is_netid
same_netid Tcp Tcp = refl
same_netid Tcp Udp = refl
same_netid Tcp Tcp6 = refl
same_netid Tcp Udp6 = refl
same_netid Tcp Local = refl
same_netid Udp Tcp = refl
same_netid Udp Udp = refl
same_netid Udp Tcp6 = refl
same_netid Udp Udp6 = refl
same_netid Udp Local = refl
same_netid Tcp6 Tcp = refl
same_netid Tcp6 Udp = refl
same_netid Tcp6 Tcp6 = refl
same_netid Tcp6 Udp6 = refl
same_netid Tcp6 Local = refl
same_netid Udp6 Tcp = refl
same_netid Udp6 Udp = refl
same_netid Udp6 Tcp6 = refl
same_netid Udp6 Udp6 = refl
same_netid Udp6 Local = refl
same_netid Local Tcp = refl
same_netid Local Udp = refl
same_netid Local Tcp6 = refl
same_netid Local Udp6 = refl
same_netid Local Local = refl

-- three numbers are two by two the same if and only if the sums are
same_sums : (p q m n v w : ℕ) → m < 8 → n < 8 → v < 2 ^ 32 → w < 2 ^ 32 → ((eqb p q && eqb m n) && eqb v w) ≡ eqb ((p * 8 + m) * 2 ^ 32 + v) ((q * 8 + n) * 2 ^ 32 + w)
same_sums p q m n v w a b c d = by_test (eqb ((p * 8 + m) * 2 ^ 32 + v) ((q * 8 + n) * 2 ^ 32 + w)) refl
  where
    by_parts : (x y z : Bool) → eqb p q ≡ x → eqb m n ≡ y → eqb v w ≡ z → eqb ((p * 8 + m) * 2 ^ 32 + v) ((q * 8 + n) * 2 ^ 32 + w) ≡ false → ((x && y) && z) ≡ false
    by_parts true true true e f g differ =
        let p_same = eqb-true p q e in
        let m_same = eqb-true m n f in
        let v_same = eqb-true v w g in
        let whole : (p * 8 + m) * 2 ^ 32 + v ≡ (q * 8 + n) * 2 ^ 32 + w = rw (p_same, m_same, v_same) refl in
        let clash : true ≡ false = sym (eq-eqb _ _ whole) ∙ differ in
        absurd (cc)
    by_parts true true false e f g differ = refl
    by_parts true false z e f g differ = refl
    by_parts false y z e f g differ = refl

    by_test : (b : Bool) → eqb ((p * 8 + m) * 2 ^ 32 + v) ((q * 8 + n) * 2 ^ 32 + w) ≡ b → ((eqb p q && eqb m n) && eqb v w) ≡ b
    by_test true same =
        let whole = eqb-true ((p * 8 + m) * 2 ^ 32 + v) ((q * 8 + n) * 2 ^ 32 + w) same in
        let v_same : v ≡ w = omega arith in
        let p_same : p ≡ q = omega arith in
        let m_same : m ≡ n = omega arith in
        rw (eq-eqb p q p_same, eq-eqb m n m_same, eq-eqb v w v_same) refl
    by_test false differ = by_parts (eqb p q) (eqb m n) (eqb v w) refl refl refl differ

-- a row is of a program's version on a netid if and only if it has that rank
pub same_rank : (prog vers : ℕ) (netid : Netid) (row : Row) → row.vers < 2 ^ 32 → vers < 2 ^ 32 → is_row prog vers netid row ≡ eqb (rank_of row) (rank prog netid vers)
unfolding is_row is_on rank
same_rank prog vers netid row a b =
    rw (same_netid row.netid netid) (same_sums row.prog prog (netid_number row.netid) (netid_number netid) row.vers vers (netid_below row.netid) (netid_below netid) a b)

-- ---- the keys under the ranks

module _ (n prog vers : ℕ) (netid : Netid) (small : vers < 2 ^ 32) where
  pub key_under : (entries : List (ℕ × Slot)) → AreStamped n entries → AreRanked entries → value_at (ranks entries) (rank prog netid vers) ≡ key_of (is_live_row n prog vers netid) entries
  unfolding is_live_row
  key_under [] stamped ranked = refl
  key_under (e ∷ rest) stamped ranked =
      rw (same_rank prog vers netid e.1.row ranked.0 small, live_has_none n e.1 stamped.0)
      (by_tests (is_none e.1.removed) (eqb (rank_of e.1.row) (rank prog netid vers)) refl (key_under rest stamped.1 ranked.1))
    where
      by_tests : (b c : Bool) → eqb (rank_of e.1.row) (rank prog netid vers) ≡ c
          → value_at (ranks rest) (rank prog netid vers) ≡ key_of (λ slot. is_row prog vers netid slot.row && is_live_at n slot) rest
          → value_at (cond b ((rank_of e.1.row, e.0) ∷ ranks rest) (ranks rest)) (rank prog netid vers)
          ≡ option_map (λ (e : ℕ × Slot). e.0) (cond (c && b) (Some e) (find (λ (e : ℕ × Slot). is_row prog vers netid e.1.row && is_live_at n e.1) rest))
      by_tests true true t further = rw t refl
      by_tests true false t further = rw t further
      by_tests false true t further = further
      by_tests false false t further = further

  pub any_under : (entries : List (ℕ × Slot)) → AreStamped n entries → AreRanked entries → list_any (is_row prog vers netid) (live_at n entries) ≡ is_some (value_at (ranks entries) (rank prog netid vers))
  any_under [] stamped ranked = refl
  any_under (e ∷ rest) stamped ranked =
      rw (live_has_none n e.1 stamped.0) (by_tests (is_none e.1.removed) (eqb (rank_of e.1.row) (rank prog netid vers)) refl (same_rank prog vers netid e.1.row ranked.0 small) (any_under rest stamped.1 ranked.1))
    where
      by_tests : (b c : Bool) → eqb (rank_of e.1.row) (rank prog netid vers) ≡ c → is_row prog vers netid e.1.row ≡ eqb (rank_of e.1.row) (rank prog netid vers)
          → list_any (is_row prog vers netid) (live_at n rest) ≡ is_some (value_at (ranks rest) (rank prog netid vers))
          → list_any (is_row prog vers netid) (values_of (cond b ((e.0, e.1.row) ∷ table_at n rest) (table_at n rest)))
          ≡ is_some (value_at (cond b ((rank_of e.1.row, e.0) ∷ ranks rest) (ranks rest)) (rank prog netid vers))
      by_tests true true t same further = rw (same, t) refl
      by_tests true false t same further = rw (same, t) further
      by_tests false c t same further = further

-- a key under a rank has a value
pub valued : (entries : List (ℕ × Slot)) (number key : ℕ) → value_at (ranks entries) number ≡ Some key → is_some (value_at entries key) ≡ true
valued [] number key is = absurd (cc)
valued (e ∷ rest) number key is = by_tests (is_none e.1.removed) (eqb (rank_of e.1.row) number) refl is (eqb e.0 key) refl (valued rest number key)
  where
    by_tests : (b c : Bool) → eqb (rank_of e.1.row) number ≡ c → value_at (cond b ((rank_of e.1.row, e.0) ∷ ranks rest) (ranks rest)) number ≡ Some key
        → (t : Bool) → eqb e.0 key ≡ t → (value_at (ranks rest) number ≡ Some key → is_some (value_at rest key) ≡ true) → is_some (cond t (Some e.1) (value_at rest key)) ≡ true
    by_tests b c u is true t further = refl
    by_tests true true u is false t further =
        let found : Some e.0 ≡ Some key = rw u at is in
        let same : e.0 ≡ key = cc in
        let clash : true ≡ false = sym (eq-eqb e.0 key same) ∙ t in
        absurd (cc)
    by_tests true false u is false t further = further (rw u at is)
    by_tests false c u is false t further = further is

-- ---- versions

versions_below : (n prog : ℕ) (netid : Netid) (entries : List (ℕ × Slot)) (least : ℕ) → least < 2 ^ 32 → AreRanked entries
    → fold max least (map (λ (row : Row). row.vers) (filter (is_on prog netid) (live_at n entries))) < 2 ^ 32
versions_below n prog netid [] least small ranked = small
versions_below n prog netid (e ∷ rest) least small ranked =
    by_tests (is_live_at n e.1) (is_on prog netid e.1.row) refl (versions_below n prog netid rest least small ranked.1) (versions_below n prog netid rest (max least e.1.row.vers) (let here : e.1.row.vers < 2 ^ 32 = ranked.0 in omega arith) ranked.1)
  where
    by_tests : (b c : Bool) → is_on prog netid e.1.row ≡ c
        → fold max least (map (λ (row : Row). row.vers) (filter (is_on prog netid) (live_at n rest))) < 2 ^ 32
        → fold max (max least e.1.row.vers) (map (λ (row : Row). row.vers) (filter (is_on prog netid) (live_at n rest))) < 2 ^ 32
        → fold max least (map (λ (row : Row). row.vers) (filter (is_on prog netid) (values_of (cond b ((e.0, e.1.row) ∷ table_at n rest) (table_at n rest))))) < 2 ^ 32
    by_tests true true t same more = rw t more
    by_tests true false t same more = rw t same
    by_tests false c t same more = same

versions_small : (n prog : ℕ) (netid : Netid) (entries : List (ℕ × Slot)) → AreRanked entries → greatest (versions prog netid (live_at n entries)) < 2 ^ 32
unfolding greatest versions
versions_small n prog netid entries ranked = versions_below n prog netid entries 0 (omega arith) ranked

rank_upto : (prog : ℕ) (netid : Netid) (v w : ℕ) → v ≤ w → rank prog netid v ≤ rank prog netid w
unfolding rank
rank_upto prog netid v w le = omega arith

rank_least : (prog : ℕ) (netid : Netid) (v number : ℕ) → rank prog netid v ≤ number → v ≤ number - rank prog netid 0
unfolding rank
rank_least prog netid v number le = omega arith

rank_between : (prog : ℕ) (netid : Netid) (number : ℕ) → rank prog netid 0 ≤ number → number ≤ rank prog netid (2 ^ 32 - 1)
    → (number - rank prog netid 0 < 2 ^ 32) × (rank prog netid (number - rank prog netid 0) ≡ number)
unfolding rank
rank_between prog netid number from upto = (omega arith, omega arith)

-- ---- the row that is found

module _ (n prog : ℕ) (netid : Netid) (entries : List (ℕ × Slot)) (distinct : HasDistinctKeys entries) (stamped : AreStamped n entries) (index : List (ℕ × ℕ)) (indexed : IsIndexed entries index) where
  pub exact_under : (vers : ℕ) → vers < 2 ^ 32 → row_under entries (value_at index (rank prog netid vers)) ≡ find_exact prog vers netid (live_at n entries)
  exact_under vers small =
      by_key (value_at index (rank prog netid vers)) (indexed.same (rank prog netid vers) ∙ key_under n prog vers netid small entries stamped indexed.ranked)
    where
      by_key : (o : Option ℕ) → o ≡ key_of (is_live_row n prog vers netid) entries → row_under entries o ≡ find_exact prog vers netid (live_at n entries)
      by_key None is = none_found n prog vers netid entries is
      by_key (Some key) is = row_found n prog vers netid entries key distinct is

  -- a key in the index has a value
  pub has_value : (number key : ℕ) → value_at index number ≡ Some key → is_some (value_at entries key) ≡ true
  has_value number key is = valued entries number key (sym (indexed.same number) ∙ is)

  -- the rank of the greatest version is in the index if that of any version is
  greatest_in : (vers : ℕ) → vers < 2 ^ 32 → is_some (value_at index (rank prog netid vers)) ≡ true
      → (vers ≤ greatest (versions prog netid (live_at n entries))) × (is_some (value_at index (rank prog netid (greatest (versions prog netid (live_at n entries))))) ≡ true)
  greatest_in vers small there =
      let rows = live_at n entries in
      let any : list_any (is_row prog vers netid) rows ≡ true = any_under n prog vers netid small entries stamped indexed.ranked ∙ ap (λ (o : Option ℕ). is_some o) (sym (indexed.same (rank prog netid vers))) ∙ there in
      let top = greatest_there prog vers netid rows any in
      let g = greatest (versions prog netid rows) in
      let g_small = versions_small n prog netid entries indexed.ranked in (
        version_upto prog vers netid rows any,
        ap (λ (o : Option ℕ). is_some o) (indexed.same (rank prog netid g)) ∙ sym (any_under n prog g netid g_small entries stamped indexed.ranked) ∙ top,
      )

  pub newest_under : IsRising index → row_under entries (newest_key prog netid index) ≡ find_exact prog (greatest (versions prog netid (live_at n entries))) netid (live_at n entries)
  newest_under rising = by_last (last_upto (rank prog netid (2 ^ 32 - 1)) index) refl
    where
      g : ℕ
      g = greatest (versions prog netid (live_at n entries))

      g_small : g < 2 ^ 32
      g_small = versions_small n prog netid entries indexed.ranked

      -- the greatest version is the last that is in the index
      upto_last : (k : ℕ) → value_at index (rank prog netid g) ≡ Some k → (e : ℕ × ℕ) × (last_upto (rank prog netid (2 ^ 32 - 1)) index ≡ Some e) × (rank prog netid g ≤ e.0)
      upto_last k is = last_greatest (rank prog netid (2 ^ 32 - 1)) (rank prog netid g) k 0 index rising is (rank_upto prog netid g (2 ^ 32 - 1) (omega (arith, g_small)))

      -- if none is on the netid, there is no greatest version
      none_there : ((e : ℕ × ℕ) → last_upto (rank prog netid (2 ^ 32 - 1)) index ≡ Some e → rank prog netid 0 ≤ e.0 → ⊥) → None ≡ find_exact prog g netid (live_at n entries)
      none_there none = ap (row_under entries) (by_value (value_at index (rank prog netid g)) refl) ∙ exact_under g g_small
        where
          by_value : (o : Option ℕ) → value_at index (rank prog netid g) ≡ o → None ≡ value_at index (rank prog netid g)
          by_value None is = sym is
          by_value (Some k) is =
              let last = upto_last k is in
              absurd (none last.0 last.1 (omega (arith, rank_upto prog netid 0 g (omega arith), last.2)))

      by_key : (e : ℕ × ℕ) → last_upto (rank prog netid (2 ^ 32 - 1)) index ≡ Some e → (b : Bool) → nat_le (rank prog netid 0) e.0 ≡ b
          → row_under entries (cond b (Some e.1) None) ≡ find_exact prog g netid (live_at n entries)
      by_key e is false below = none_there (λ o last upto. let same : o ≡ e = cc in let same_number : o.0 ≡ e.0 = ap (λ (x : ℕ × ℕ). x.0) same in grind (arith, nat_tests))
      by_key e is true least =
          let there = last_there (rank prog netid (2 ^ 32 - 1)) 0 index e rising is in
          let upto : e.0 ≤ rank prog netid (2 ^ 32 - 1) = there.0 in
          let from : rank prog netid 0 ≤ e.0 = grind (arith, nat_tests) in
          let vers = e.0 - rank prog netid 0 in
          let is_rank = rank_between prog netid e.0 from upto in
          let small : vers < 2 ^ 32 = is_rank.0 in
          let here : value_at index (rank prog netid vers) ≡ Some e.1 = rw is_rank.1 there.1 in
          let top = greatest_in vers small (ap (λ (o : Option ℕ). is_some o) here) in
          let below : g ≤ vers = by_value (value_at index (rank prog netid g)) refl top.1 e is in
          let same : vers ≡ g = let most : vers ≤ g = top.0 in omega (arith, most, below) in
          ap (row_under entries) (sym here) ∙ exact_under vers small ∙ ap (λ (v : ℕ). find_exact prog v netid (live_at n entries)) same
        where
          by_value : (o : Option ℕ) → value_at index (rank prog netid g) ≡ o → is_some (value_at index (rank prog netid g)) ≡ true → (e : ℕ × ℕ) → last_upto (rank prog netid (2 ^ 32 - 1)) index ≡ Some e → g ≤ e.0 - rank prog netid 0
          by_value None is some e last = let clash : false ≡ true = rw is at some in absurd (cc)
          by_value (Some k) is some e last =
              let top = upto_last k is in
              let same : top.0 ≡ e = cc (top.1, last) in
              let same_number : top.0.0 ≡ e.0 = ap (λ (x : ℕ × ℕ). x.0) same in
              rank_least prog netid g e.0 (omega (arith, top.2, same_number))

      by_last : (o : Option (ℕ × ℕ)) → last_upto (rank prog netid (2 ^ 32 - 1)) index ≡ o → row_under entries (key_from (rank prog netid 0) o) ≡ find_exact prog g netid (live_at n entries)
      by_last None is = none_there (λ e last upto. let clash : None ≡ Some e = sym is ∙ last in cc)
      by_last (Some e) is = by_key e is (nat_le (rank prog netid 0) e.0) refl

  -- the row of that version, else of the greatest
  pub found_under : IsRising index → (vers : ℕ) → vers < 2 ^ 32 → row_under entries (option_or (value_at index (rank prog netid vers)) (newest_key prog netid index)) ≡ find_row prog vers netid (live_at n entries)
  unfolding find_row
  found_under rising vers small = by_key (value_at index (rank prog netid vers)) refl (exact_under vers small) (newest_under rising)
    where
      rows : List Row
      rows = live_at n entries

      g : ℕ
      g = greatest (versions prog netid (live_at n entries))

      by_slot : (o : Option Slot) → is_some o ≡ true → option_map (λ (slot : Slot). slot.row) o ≡ find_exact prog vers netid (live_at n entries)
          → option_map (λ (slot : Slot). slot.row) o ≡ option_or (find_exact prog vers netid (live_at n entries)) (find_exact prog g netid (live_at n entries))
      by_slot None some is = absurd (cc)
      by_slot (Some slot) some is = rw (← is) refl

      by_key : (o : Option ℕ) → value_at index (rank prog netid vers) ≡ o → row_under entries (value_at index (rank prog netid vers)) ≡ find_exact prog vers netid (live_at n entries)
          → row_under entries (newest_key prog netid index) ≡ find_exact prog g netid (live_at n entries)
          → row_under entries (option_or o (newest_key prog netid index)) ≡ option_or (find_exact prog vers netid (live_at n entries)) (find_exact prog g netid (live_at n entries))
      by_key None is exact newest =
          let none : None ≡ find_exact prog vers netid (live_at n entries) = ap (row_under entries) (sym is) ∙ exact in
          rw (← none) newest
      by_key (Some key) is exact newest = by_slot (value_at entries key) (has_value (rank prog netid vers) key is) (ap (row_under entries) (sym is) ∙ exact)

-- ---- what calls leave

value_at-push : (es : List (ℕ × ℕ)) (k v m : ℕ) → value_at es k ≡ None → value_at (es ++ (k, v) ∷ []) m ≡ cond (eqb k m) (Some v) (value_at es m)
value_at-push [] k v m missing = refl
value_at-push (e ∷ rest) k v m missing = by_tests (eqb e.0 k) refl missing (eqb e.0 m) refl (value_at-push rest k v m)
  where
    by_tests : (b : Bool) → eqb e.0 k ≡ b → cond b (Some e.1) (value_at rest k) ≡ None → (t : Bool) → eqb e.0 m ≡ t
        → (value_at rest k ≡ None → value_at (rest ++ (k, v) ∷ []) m ≡ cond (eqb k m) (Some v) (value_at rest m))
        → cond t (Some e.1) (value_at (rest ++ (k, v) ∷ []) m) ≡ cond (eqb k m) (Some v) (cond t (Some e.1) (value_at rest m))
    by_tests true same missing t here further = absurd (cc)
    by_tests false differ missing true here further = let other : eqb k m ≡ false = grind (arith, nat_tests) in rw other refl
    by_tests false differ missing false here further = further missing

ranks-push : (key added : ℕ) (row : Row) (entries : List (ℕ × Slot)) → ranks (entries ++ (key, slot_of added row) ∷ []) ≡ ranks entries ++ (rank_of row, key) ∷ []
ranks-push key added row [] = refl
ranks-push key added row (e ∷ rest) = by_removed (is_none e.1.removed) (ranks-push key added row rest)
  where
    by_removed : (b : Bool) → ranks (rest ++ (key, slot_of added row) ∷ []) ≡ ranks rest ++ (rank_of row, key) ∷ []
        → cond b ((rank_of e.1.row, e.0) ∷ ranks (rest ++ (key, slot_of added row) ∷ [])) (ranks (rest ++ (key, slot_of added row) ∷ [])) ≡ cond b ((rank_of e.1.row, e.0) ∷ ranks rest) (ranks rest) ++ (rank_of row, key) ∷ []
    by_removed true further = rw further refl
    by_removed false further = further

AreRanked-push : (key added : ℕ) (row : Row) (entries : List (ℕ × Slot)) → row.vers < 2 ^ 32 → AreRanked entries → AreRanked (entries ++ (key, slot_of added row) ∷ [])
AreRanked-push key added row [] small ranked = (small, tt)
AreRanked-push key added row (e ∷ rest) small ranked = (ranked.0, AreRanked-push key added row rest small ranked.1)

pub IsIndexed-none : IsIndexed [] []
IsIndexed-none = record { ranked = tt; distinct = tt; same = λ m. refl; count = refl }

-- one row more
pub IsIndexed-push : (key added : ℕ) (row : Row) (entries : List (ℕ × Slot)) (index : List (ℕ × ℕ)) → IsIndexed entries index → row.vers < 2 ^ 32 → value_at index (rank_of row) ≡ None
    → IsIndexed (entries ++ (key, slot_of added row) ∷ []) (with_number index (rank_of row) key)
IsIndexed-push key added row entries index indexed small missing =
    let none : value_at (ranks entries) (rank_of row) ≡ None = sym (indexed.same (rank_of row)) ∙ missing in
    let more = length-with_number (rank_of row) key index in
    let more_ranks = length-append (ranks entries) ((rank_of row, key) ∷ []) in
    record {
      ranked = AreRanked-push key added row entries small indexed.ranked;
      distinct = rw (ranks-push key added row entries) (distinct-push (ranks entries) (rank_of row) key indexed.distinct none);
      same = λ m. value_at-with_number (rank_of row) key m index missing ∙ rw (indexed.same m, ranks-push key added row entries) (sym (value_at-push (ranks entries) (rank_of row) key m none));
      count = rw (ranks-push key added row entries) (omega (arith, more, more_ranks, indexed.count));
    }

-- a trim drops no live row
pub IsIndexed-left : (oldest : Option ℕ) (entries : List (ℕ × Slot)) (index : List (ℕ × ℕ)) → IsIndexed entries index → IsIndexed (entries_left oldest entries) index
unfolding is_dropped
IsIndexed-left oldest entries index indexed = record {
  ranked = AreRanked-left entries indexed.ranked;
  distinct = rw (ranks-left entries) indexed.distinct;
  same = λ m. rw (ranks-left entries) (indexed.same m);
  count = rw (ranks-left entries) indexed.count;
}
  where
    AreRanked-left : (entries : List (ℕ × Slot)) → AreRanked entries → AreRanked (filter (λ e. not (is_dropped oldest e.1)) entries)
    AreRanked-left [] ranked = tt
    AreRanked-left (e ∷ rest) ranked =
        elim (is_dropped oldest e.1) as (λ b. AreRanked (cond (not b) (e ∷ filter (λ e. not (is_dropped oldest e.1)) rest) (filter (λ e. not (is_dropped oldest e.1)) rest)))
        [ true ↦ AreRanked-left rest ranked.1 | false ↦ (ranked.0, AreRanked-left rest ranked.1) ]

    ranks-left : (entries : List (ℕ × Slot)) → ranks (filter (λ e. not (is_dropped oldest e.1)) entries) ≡ ranks entries
    ranks-left [] = refl
    ranks-left (e ∷ rest) = by_removed e.1.removed refl (ranks-left rest)
      where
        left : List (ℕ × Slot)
        left = filter (λ e. not (removed_by e.1.removed oldest)) rest

        by_removed : (removed : Option ℕ) → e.1.removed ≡ removed → ranks left ≡ ranks rest
            → ranks (cond (not (removed_by removed oldest)) (e ∷ left) left) ≡ cond (is_none removed) ((rank_of e.1.row, e.0) ∷ ranks rest) (ranks rest)
        by_removed None is further = rw is (rw further refl)
        by_removed (Some r) is further =
            elim (removed_by (Some r) oldest) as (λ b. ranks (cond (not b) (e ∷ left) left) ≡ ranks rest)
            [ true ↦ further | false ↦ rw is further ]

-- a row of the key is there if and only if its rank is in the index
pub any_indexed : (n : ℕ) (row : Row) (entries : List (ℕ × Slot)) (index : List (ℕ × ℕ)) (found : Bool) → IsIndexed entries index → AreStamped n entries → row.vers < 2 ^ 32
    → found ≡ is_some (value_at index (rank_of row)) → found ≡ list_any (is_of_key row) (live_at n entries)
any_indexed n row entries index found indexed stamped small is =
    is ∙ ap (λ (o : Option ℕ). is_some o) (indexed.same (rank_of row)) ∙ sym (any_under n row.prog row.vers row.netid small entries stamped indexed.ranked)

pub none_found_there : (index : List (ℕ × ℕ)) (number : ℕ) → false ≡ is_some (value_at index number) → value_at index number ≡ None
none_found_there index number none = by_value (value_at index number) none
  where
    by_value : (o : Option ℕ) → false ≡ is_some o → o ≡ None
    by_value None none = refl
    by_value (Some k) none = absurd (cc)

-- ---- own rows

eqb-sym : (m n : ℕ) → eqb m n ≡ eqb n m
eqb-sym m n = grind (arith, nat_tests)

same_key : (a b : Row) → is_of_key a b ≡ is_of_key b a
unfolding is_row is_on
same_key a b =
    rw (same_netid b.netid a.netid, same_netid a.netid b.netid, eqb-sym b.prog a.prog, eqb-sym (netid_number b.netid) (netid_number a.netid), eqb-sym b.vers a.vers) refl

-- of distinct rows, one is not of the key of another before it
pub apart : (rows : List Row) (row : Row) (later : List Row) → are_distinct (rows ++ row ∷ later) ≡ true → list_any (is_of_key row) rows ≡ false
apart [] row later distinct = refl
apart (first ∷ rows) row later distinct =
    let parts = both (not (list_any (is_of_key first) (rows ++ row ∷ later))) (are_distinct (rows ++ row ∷ later)) distinct in
    let none : list_any (is_of_key first) (rows ++ row ∷ later) ≡ false = not_true (list_any (is_of_key first) (rows ++ row ∷ later)) parts.0 in
    let other : is_of_key first row ≡ false = behind (is_of_key first) rows row later none in
    let differ : is_of_key row first ≡ false = same_key row first ∙ other in
    rw (differ, apart rows row later parts.1) refl
  where
    both : (a b : Bool) → (a && b) ≡ true → (a ≡ true) × (b ≡ true)
    both true b e = (refl, e)
    both false b e = absurd (cc)

    not_true : (a : Bool) → not a ≡ true → a ≡ false
    not_true true e = absurd (cc)
    not_true false e = refl

    behind : (test : Row → Bool) (rows : List Row) (row : Row) (later : List Row) → list_any test (rows ++ row ∷ later) ≡ false → test row ≡ false
    behind test [] row later none = front (test row) (list_any test later) none
      where
        front : (a b : Bool) → (a || b) ≡ false → a ≡ false
        front true b e = absurd (cc)
        front false b e = refl
    behind test (first ∷ rows) row later none = behind test rows row later (back (test first) (list_any test (rows ++ row ∷ later)) none)
      where
        back : (a b : Bool) → (a || b) ≡ false → b ≡ false
        back true b e = absurd (cc)
        back false b e = e

-- an own row that comes after those that are there
pub own_missing : (before : List Row) (row : Row) (later own : List Row) (entries : List (ℕ × Slot)) (index : List (ℕ × ℕ)) → IsIndexed entries index → AreStamped 0 entries → row.vers < 2 ^ 32
    → live_at 0 entries ≡ before → before ++ row ∷ later ≡ own → are_distinct own ≡ true → value_at index (rank_of row) ≡ None
own_missing before row later own entries index indexed stamped small rows whole distinct =
    let other : list_any (is_of_key row) before ≡ false = apart before row later (rw whole distinct) in
    let none : list_any (is_of_key row) (live_at 0 entries) ≡ false = rw rows other in
    none_found_there index (rank_of row) (sym none ∙ any_under 0 row.prog row.vers row.netid small entries stamped indexed.ranked ∙ ap (λ (o : Option ℕ). is_some o) (sym (indexed.same (rank_of row))))
