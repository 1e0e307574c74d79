-- The rows of one version, and how the index leads from one to the next.
use Rattle.std.proofs.Common.{◌≡◌, ℕ, zero, suc, ◌+◌, ◌≤◌, ◌<◌, Bool, true, false, cond, eqb, ◌&&◌, ◌||◌, List, [], ◌∷◌, ◌++◌, length, get_or, Option, Some, None, refl, sym, ap, ◌∙◌, eq-eqb, arith}
use Rattle.std.specs.Prelude.{filter, find, map, is_none, nat_lt, option_map, ◌^◌, ◌==◌}
use Rattle.std.specs.List.{list_any}
use Rattle.std.specs.Map.{values_of}
use Rattle.std.proofs.lemmas.Bool.{eqb-true}
use Rattle.std.proofs.lemmas.List.{get_or-map}
use Rattle.std.proofs.lemmas.Bool.Decides.{nat_tests}
use Rattle.rb_xdr.specs.Pool.{value_at, HasDistinctKeys}
use Rattle.rb_xdr.specs.Places.{behind, to_come}
use Rattle.rb_xdr.specs.Search.{key_of}
use Rattle.rb_address.specs.declared.netid.Netid.{Netid}
use Rattle.rb_address.specs.declared.netid.Netid.TheVariants.{Tcp}
use Rattle.rb_address.specs.Netids.{is_netid}
use Rattle.rb_registry.specs.declared.row.Row.{Row}
use Rattle.rb_registry.specs.declared.slot.Slot.{Slot}
use Rattle.rb_registry.specs.declared.versions.Version.{Version}
use Rattle.rb_registry.specs.Rows.{is_on, is_row, is_of_version, rpcb_prog}
use Rattle.rb_registry.specs.Registry.{table_at}
use Rattle.rb_registry.specs.Table.{AreStamped, IsOursIfOwn, OwnAreOurs}
use Rattle.rb_registry.specs.Index.{rank, rank_of, ranks, AreRanked}
use Rattle.rb_registry.specs.Order.{number_after, AreInOrder}
use Rattle.rb_registry.specs.Versions.{is_version_now, versions_in, is_own_version, is_later_version, is_later_on, place_of, first_place, place_on, later_of, later_at, later_than, earlier_of, added_at}
use Rattle.rb_registry.proofs.InOrder.{after_more}
use Rattle.rb_xdr.proofs.Walks.{apart, nothing_behind}
use Rattle.rb_registry.proofs.Tables.{live_has_none}
use Rattle.rb_registry.proofs.Ranks.{same_rank}
use Rattle.rb_registry.proofs.Marks.{behind_first, netids, is_one, any-push}

and_parts : (a b : Bool) → (a && b) ≡ true → (a ≡ true) × (b ≡ true)
and_parts true b e = (refl, e)
and_parts false b e = absurd (cc)

and_false : (b : Bool) → (b && false) ≡ false
and_false true = refl
and_false false = refl

-- ---- those that are there

-- they are the live rows of the version
pub versions_table : (stamp prog vers : ℕ) (entries : List (ℕ × Slot)) → AreStamped stamp entries
    → versions_in prog vers entries ≡ filter (λ e. is_of_version prog vers e.1) (table_at stamp entries)
versions_table stamp prog vers [] stamped = refl
versions_table stamp prog vers (e ∷ rest) stamped =
    rw (live_has_none stamp e.1 stamped.0, versions_table stamp prog vers rest stamped.1) (by_tests (is_none e.1.removed) (is_of_version prog vers e.1.row) refl)
  where
    left : List (ℕ × Row)
    left = table_at stamp rest

    by_tests : (a b : Bool) → is_of_version prog vers e.1.row ≡ b
        → cond (a && b) ((e.0, e.1.row) ∷ filter (λ e. is_of_version prog vers e.1) left) (filter (λ e. is_of_version prog vers e.1) left)
        ≡ filter (λ e. is_of_version prog vers e.1) (cond a ((e.0, e.1.row) ∷ left) left)
    by_tests true true t = rw t refl
    by_tests true false t = rw t refl
    by_tests false b t = refl

-- the first of them
module _ (prog vers : ℕ) where
  pub none_in : (entries : List (ℕ × Slot)) → find (λ e. is_version_now prog vers e.1) entries ≡ None → versions_in prog vers entries ≡ []
  none_in [] none = refl
  none_in (e ∷ rest) none = by_test (is_version_now prog vers e.1) none (none_in rest)
    where
      by_test : (b : Bool) → cond b (Some e) (find (λ e. is_version_now prog vers e.1) rest) ≡ None
          → (find (λ e. is_version_now prog vers e.1) rest ≡ None → versions_in prog vers rest ≡ [])
          → cond b ((e.0, e.1.row) ∷ versions_in prog vers rest) (versions_in prog vers rest) ≡ []
      by_test true none further = absurd (cc)
      by_test false none further = further none

  pub first_in : (entries : List (ℕ × Slot)) (first : ℕ × Slot) → HasDistinctKeys entries → find (λ e. is_version_now prog vers e.1) entries ≡ Some first
      → (versions_in prog vers entries ≡ (first.0, first.1.row) ∷ versions_in prog vers (behind entries first.0)) × (value_at entries first.0 ≡ Some first.1)
  first_in [] first d is = absurd (cc)
  first_in (e ∷ rest) first d is = by_test (is_version_now prog vers e.1) refl (first_in rest first d.1)
    where
      by_test : (b : Bool) → is_version_now prog vers e.1 ≡ b
          → (find (λ e. is_version_now prog vers e.1) rest ≡ Some first
          → (versions_in prog vers rest ≡ (first.0, first.1.row) ∷ versions_in prog vers (behind rest first.0)) × (value_at rest first.0 ≡ Some first.1))
          → (versions_in prog vers (e ∷ rest) ≡ (first.0, first.1.row) ∷ versions_in prog vers (behind (e ∷ rest) first.0)) × (value_at (e ∷ rest) first.0 ≡ Some first.1)
      by_test true t further =
          let found : Some e ≡ Some first = rw t at is in
          let same : e ≡ first = cc in
          let here : eqb e.0 first.0 ≡ true = eq-eqb _ _ (ap (λ (x : ℕ × Slot). x.0) same) in
          rw (t, here, ← same) (refl, refl)
      by_test false t further =
          let later = further (rw t at is) in
          let other : eqb e.0 first.0 ≡ false = apart rest e.0 first.0 first.1 d.0 later.1 in
          rw (t, other) later

-- ---- a row on a netid, by its rank

-- what was added later than a change, of what any change added
later_found : (after : ℕ) (entries : List (ℕ × Slot)) (found : Option ℕ) → later_than after (later_at 0 entries found) ≡ later_at after entries found
later_found after entries None = refl
later_found after entries (Some key) = by_value (value_at entries key)
  where
    by_number : (n : ℕ) → later_than after (cond (nat_lt 0 n) (Some (n, key)) None) ≡ cond (nat_lt after n) (Some (n, key)) None
    by_number zero = let no : nat_lt after 0 ≡ false = grind (arith, nat_tests) in rw no refl
    by_number (suc n) = let yes : nat_lt 0 (suc n) ≡ true = grind (arith, nat_tests) in rw yes refl

    by_value : (o : Option Slot) → later_than after (later_of 0 key o) ≡ later_of after key o
    by_value None = refl
    by_value (Some slot) = by_number slot.added

module _ (prog vers after : ℕ) (netid : Netid) (small : vers < 2 ^ 32) where
  test_is : (slot : Slot) → slot.row.vers < 2 ^ 32
      → is_later_on prog vers after netid slot ≡ ((is_none slot.removed && eqb (rank_of slot.row) (rank prog netid vers)) && nat_lt after slot.added)
  unfolding is_row is_on
  test_is slot ranked =
      rw (← same_rank prog vers netid slot.row ranked small)
      (moved (is_none slot.removed) (eqb slot.row.prog prog) (eqb slot.row.vers vers) (nat_lt after slot.added) (is_netid slot.row.netid netid))
    where
      moved : (a b c d e : Bool) → (((a && (b && c)) && d) && e) ≡ ((a && ((b && e) && c)) && d)
      moved true true true true true = refl
      moved true true true true false = refl
      moved true true true false true = refl
      moved true true true false false = refl
      moved true true false d true = refl
      moved true true false d false = refl
      moved true false c d e = refl
      moved false b c d e = refl

  pub later_under : (entries : List (ℕ × Slot)) → AreRanked entries → HasDistinctKeys entries → HasDistinctKeys (ranks entries)
      → first_place (is_later_on prog vers after netid) entries ≡ later_at after entries (value_at (ranks entries) (rank prog netid vers))
  later_under [] ranked d keys = refl
  later_under (e ∷ rest) ranked d keys =
      by_tests (is_none e.1.removed) refl (eqb (rank_of e.1.row) (rank prog netid vers)) refl (test_is e.1 ranked.0) keys (later_under rest ranked.1 d.1)
    where
      further_on : value_at (ranks rest) (rank prog netid vers) ≡ value_at (ranks rest) (rank prog netid vers)
          → later_at after (e ∷ rest) (value_at (ranks rest) (rank prog netid vers)) ≡ later_at after rest (value_at (ranks rest) (rank prog netid vers))
      further_on same = by_key (value_at (ranks rest) (rank prog netid vers)) refl
        where
          by_key : (o : Option ℕ) → value_at (ranks rest) (rank prog netid vers) ≡ o → later_at after (e ∷ rest) o ≡ later_at after rest o
          by_key None is = refl
          by_key (Some key) is = let other : eqb e.0 key ≡ false = behind_first (rank prog netid vers) key e rest d.0 is in rw other refl

      by_tests : (a : Bool) → is_none e.1.removed ≡ a → (b : Bool) → eqb (rank_of e.1.row) (rank prog netid vers) ≡ b
          → is_later_on prog vers after netid e.1 ≡ ((a && b) && nat_lt after e.1.added)
          → HasDistinctKeys (cond a ((rank_of e.1.row, e.0) ∷ ranks rest) (ranks rest))
          → (HasDistinctKeys (ranks rest) → first_place (is_later_on prog vers after netid) rest ≡ later_at after rest (value_at (ranks rest) (rank prog netid vers)))
          → option_map place_of (cond (is_later_on prog vers after netid e.1) (Some e) (find (λ e. is_later_on prog vers after netid e.1) rest))
          ≡ later_at after (e ∷ rest) (value_at (cond a ((rank_of e.1.row, e.0) ∷ ranks rest) (ranks rest)) (rank prog netid vers))
      by_tests true s true t is keys further = rw (is, t, eq-eqb e.0 e.0 refl) (by_number (nat_lt after e.1.added))
        where
          none_behind : first_place (is_later_on prog vers after netid) rest ≡ None
          none_behind =
              let same : rank_of e.1.row ≡ rank prog netid vers = eqb-true _ _ t in
              let none : value_at (ranks rest) (rank prog netid vers) ≡ None = rw same at keys.0 in
              further keys.1 ∙ ap (later_at after rest) none

          by_number : (b : Bool) → option_map place_of (cond b (Some e) (find (λ e. is_later_on prog vers after netid e.1) rest)) ≡ cond b (Some (e.1.added, e.0)) None
          by_number true = refl
          by_number false = none_behind
      by_tests true s false t is keys further = rw (is, t) (further keys.1 ∙ sym (further_on refl))
      by_tests false s b t is keys further = rw is (further keys ∙ sym (further_on refl))

  -- the place that was found, if its row was added later
  pub place_later : (entries : List (ℕ × Slot)) → AreRanked entries → HasDistinctKeys entries → HasDistinctKeys (ranks entries)
      → later_than after (place_on prog vers entries netid) ≡ first_place (is_later_on prog vers after netid) entries
  place_later entries ranked d keys =
      later_found after entries (value_at (ranks entries) (rank prog netid vers)) ∙ sym (later_under entries ranked d keys)

-- the place on a netid, of those that were found
pub found_on : (version : Version) (entries : List (ℕ × Slot)) (i : ℕ) (other : Option (ℕ × ℕ)) → version.places ≡ map (place_on version.prog version.vers entries) netids → i < length netids
    → get_or version.places i other ≡ place_on version.prog version.vers entries (get_or netids i Tcp)
found_on version entries i other found within =
    ap (λ (places : List (Option (ℕ × ℕ))). get_or places i other) found ∙ get_or-map (place_on version.prog version.vers entries) netids i Tcp other within

-- ---- the earlier of two

first_least : (test : Slot → Bool) (least : ℕ) (entries : List (ℕ × Slot)) (first : ℕ × Slot) → AreInOrder least entries → find (λ e. test e.1) entries ≡ Some first → least ≤ first.1.added
first_least test least [] first h is = absurd (cc)
first_least test least (e ∷ rest) first h is = by_test (test e.1) is (first_least test (number_after e.1.added) rest first h.1)
  where
    by_test : (b : Bool) → cond b (Some e) (find (λ e. test e.1) rest) ≡ Some first → (find (λ e. test e.1) rest ≡ Some first → number_after e.1.added ≤ first.1.added) → least ≤ first.1.added
    by_test true is further = let same : e ≡ first = cc in rw (← same) h.0
    by_test false is further = let later = further is in let more = after_more e.1.added in omega (arith, later, more, h.0)

later_number : (number other : ℕ) → 0 < number → number_after number ≤ other → number < other
later_number zero other some le = absurd (omega (arith, some))
later_number (suc number) other some le = omega (arith, le)

-- tests that no own row passes
module _ (p q : Slot → Bool) (p_set : (slot : Slot) → p slot ≡ true → 0 < slot.added) (q_set : (slot : Slot) → q slot ≡ true → 0 < slot.added) where
  pub earlier_first : (least : ℕ) (entries : List (ℕ × Slot)) → AreInOrder least entries
      → earlier_of (first_place p entries) (first_place q entries) ≡ first_place (λ slot. p slot || q slot) entries
  earlier_first least [] h = refl
  earlier_first least (e ∷ rest) h = by_tests (p e.1) refl (q e.1) refl (earlier_first (number_after e.1.added) rest h.1)
    where
      -- what comes later is not before this one
      first_stays : 0 < e.1.added → (o : Option (ℕ × Slot)) → find (λ e. q e.1) rest ≡ o → earlier_of (Some (place_of e)) (option_map place_of o) ≡ Some (place_of e)
      first_stays some None is = refl
      first_stays some (Some other) is =
          let least_other = first_least q (number_after e.1.added) rest other h.1 is in
          let later = later_number e.1.added other.1.added some least_other in
          let no : nat_lt other.1.added e.1.added ≡ false = grind (arith, nat_tests, later) in
          rw no refl

      first_comes : 0 < e.1.added → (o : Option (ℕ × Slot)) → find (λ e. p e.1) rest ≡ o → earlier_of (option_map place_of o) (Some (place_of e)) ≡ Some (place_of e)
      first_comes some None is = refl
      first_comes some (Some other) is =
          let least_other = first_least p (number_after e.1.added) rest other h.1 is in
          let later = later_number e.1.added other.1.added some least_other in
          let yes : nat_lt e.1.added other.1.added ≡ true = grind (arith, nat_tests, later) in
          rw yes refl

      same_stays : earlier_of (Some (place_of e)) (Some (place_of e)) ≡ Some (place_of e)
      same_stays = elim (nat_lt e.1.added e.1.added) as (λ b. cond b (Some (place_of e)) (Some (place_of e)) ≡ Some (place_of e)) [ true ↦ refl | false ↦ refl ]

      by_tests : (a : Bool) → p e.1 ≡ a → (b : Bool) → q e.1 ≡ b
          → earlier_of (first_place p rest) (first_place q rest) ≡ first_place (λ slot. p slot || q slot) rest
          → earlier_of (first_place p (e ∷ rest)) (first_place q (e ∷ rest)) ≡ first_place (λ slot. p slot || q slot) (e ∷ rest)
      by_tests true s true t further = rw (s, t) same_stays
      by_tests true s false t further = rw (s, t) (first_stays (p_set e.1 s) (find (λ e. q e.1) rest) refl)
      by_tests false s true t further = rw (s, t) (first_comes (q_set e.1 t) (find (λ e. p e.1) rest) refl)
      by_tests false s false t further = rw (s, t) further

pub same_first : (p q : Slot → Bool) (entries : List (ℕ × Slot)) → ((slot : Slot) → p slot ≡ q slot) → first_place p entries ≡ first_place q entries
same_first p q [] same = refl
same_first p q (e ∷ rest) same =
    rw (same e.1)
    (elim (q e.1) as (λ b. option_map place_of (cond b (Some e) (find (λ e. p e.1) rest)) ≡ option_map place_of (cond b (Some e) (find (λ e. q e.1) rest)))
    [ true ↦ refl | false ↦ same_first p q rest same ])

pub none_first : (entries : List (ℕ × Slot)) → first_place (λ slot. false) entries ≡ None
none_first [] = refl
none_first (e ∷ rest) = none_first rest

pub key_first : (test : Slot → Bool) (entries : List (ℕ × Slot)) → option_map (λ (place : ℕ × ℕ). place.1) (first_place test entries) ≡ key_of test entries
key_first test entries = by_found (find (λ e. test e.1) entries)
  where
    by_found : (o : Option (ℕ × Slot)) → option_map (λ (place : ℕ × ℕ). place.1) (option_map place_of o) ≡ option_map (λ e. e.0) o
    by_found None = refl
    by_found (Some e) = refl

-- ---- netid by netid

module _ (prog vers after : ℕ) where
  abbrev pub on_netids : List Netid → Slot → Bool
  on_netids netids slot = is_later_version prog vers after slot && list_any (λ n. is_netid slot.row.netid n) netids

  is_set : (slot : Slot) (b : Bool) → (is_later_version prog vers after slot && b) ≡ true → 0 < slot.added
  is_set slot b e =
      let later : nat_lt after slot.added ≡ true = (and_parts (is_version_now prog vers slot) _ (and_parts (is_later_version prog vers after slot) b e).0).1 in
      grind (arith, nat_tests, later)

  -- on none yet
  pub none_yet : (entries : List (ℕ × Slot)) → None ≡ first_place (on_netids []) entries
  none_yet entries = sym (same_first (on_netids []) (λ slot. false) entries (λ slot. and_false (is_later_version prog vers after slot)) ∙ none_first entries)

  -- one netid more
  pub one_netid_more : (entries : List (ℕ × Slot)) (yielded : List Netid) (netid : Netid) (best other : Option (ℕ × ℕ)) → AreInOrder 0 entries
      → best ≡ first_place (on_netids yielded) entries → other ≡ first_place (is_later_on prog vers after netid) entries
      → earlier_of best other ≡ first_place (on_netids (yielded ++ netid ∷ [])) entries
  one_netid_more entries yielded netid best other h is other_is =
      ap (λ (o : Option (ℕ × ℕ)). earlier_of o other) is
      ∙ ap (λ (o : Option (ℕ × ℕ)). earlier_of (first_place (on_netids yielded) entries) o) other_is
      ∙ earlier_first (on_netids yielded) (is_later_on prog vers after netid) (λ slot e. is_set slot _ e) (λ slot e. is_set slot _ e) 0 entries h
      ∙ same_first _ _ entries joined
    where
      both : (a b c : Bool) → ((a && b) || (a && c)) ≡ (a && (b || c))
      both true b c = refl
      both false b c = refl

      joined : (slot : Slot) → (on_netids yielded slot || is_later_on prog vers after netid slot) ≡ on_netids (yielded ++ netid ∷ []) slot
      joined slot =
          rw (any-push (λ (n : Netid). is_netid slot.row.netid n) yielded netid)
          (both (is_later_version prog vers after slot) (list_any (λ n. is_netid slot.row.netid n) yielded) (is_netid slot.row.netid netid))

  -- on all of them
  pub all_netids : (entries : List (ℕ × Slot)) (yielded : List Netid) (best : Option (ℕ × ℕ)) → yielded ≡ netids → best ≡ first_place (on_netids yielded) entries
      → option_map (λ (place : ℕ × ℕ). place.1) best ≡ key_of (is_later_version prog vers after) entries
  all_netids entries yielded best whole is =
      ap (option_map (λ (place : ℕ × ℕ). place.1)) (is ∙ same_first _ _ entries every) ∙ key_first (is_later_version prog vers after) entries
    where
      and_true : (b : Bool) → (b && true) ≡ b
      and_true true = refl
      and_true false = refl

      every : (slot : Slot) → on_netids yielded slot ≡ is_later_version prog vers after slot
      every slot = rw (whole, is_one slot.row.netid) (and_true (is_later_version prog vers after slot))

-- ---- what comes after a place

module _ (prog vers : ℕ) where
  set_one : (slot : Slot) (others : Bool) → (is_own_version prog vers slot || others) ≡ false → is_version_now prog vers slot ≡ true → 0 < slot.added
  set_one slot others none is = by_number slot.added refl
    where
      by_number : (n : ℕ) → slot.added ≡ n → 0 < n
      by_number zero e = let clash : true ≡ false = rw (e, is) at none in absurd (cc)
      by_number (suc n) e = omega arith

  others_none : (a b : Bool) → (a || b) ≡ false → b ≡ false
  others_none true b e = absurd (cc)
  others_none false b e = e

  -- if no own row is there, all were added later than those before them
  pub all_later : (after least : ℕ) (entries : List (ℕ × Slot)) → number_after after ≤ least → AreInOrder least entries → list_any (is_own_version prog vers) (values_of entries) ≡ false
      → find (λ e. is_later_version prog vers after e.1) entries ≡ find (λ e. is_version_now prog vers e.1) entries
  all_later after least [] le h none = refl
  all_later after least (e ∷ rest) le h none =
      by_test (is_version_now prog vers e.1) refl
      (let more = after_more e.1.added in all_later after (number_after e.1.added) rest (omega (arith, le, h.0, more)) h.1 (others_none (is_own_version prog vers e.1) _ none))
    where
      is_later : 0 < e.1.added → nat_lt after e.1.added ≡ true
      is_later some = by_after after le
        where
          by_after : (after : ℕ) → number_after after ≤ least → nat_lt after e.1.added ≡ true
          by_after zero le = grind (arith, nat_tests, some)
          by_after (suc n) le = let from : least ≤ e.1.added = h.0 in let upto : n + 2 ≤ least = le in grind (arith, nat_tests, from, upto)

      by_test : (b : Bool) → is_version_now prog vers e.1 ≡ b → find (λ e. is_later_version prog vers after e.1) rest ≡ find (λ e. is_version_now prog vers e.1) rest
          → find (λ e. is_later_version prog vers after e.1) (e ∷ rest) ≡ find (λ e. is_version_now prog vers e.1) (e ∷ rest)
      by_test true t further = rw (t, is_later (set_one e.1 _ none t)) refl
      by_test false t further = rw t further

  there_later : (key : ℕ) (slot : Slot) (least : ℕ) (entries : List (ℕ × Slot)) → AreInOrder least entries → value_at entries key ≡ Some slot → least ≤ slot.added
  there_later key slot least [] h there = absurd (cc)
  there_later key slot least (e ∷ rest) h there = by_test (eqb e.0 key) there (there_later key slot (number_after e.1.added) rest h.1)
    where
      by_test : (b : Bool) → cond b (Some e.1) (value_at rest key) ≡ Some slot → (value_at rest key ≡ Some slot → number_after e.1.added ≤ slot.added) → least ≤ slot.added
      by_test true is further = let same : e.1 ≡ slot = cc in rw (← same) h.0
      by_test false is further = let later = further is in let more = after_more e.1.added in omega (arith, later, more, h.0)

  -- those that were added later than the row of a key come after it
  pub later_behind : (key : ℕ) (slot : Slot) (least : ℕ) (entries : List (ℕ × Slot)) → AreInOrder least entries → value_at entries key ≡ Some slot
      → list_any (is_own_version prog vers) (values_of (behind entries key)) ≡ false
      → find (λ e. is_later_version prog vers slot.added e.1) entries ≡ find (λ e. is_version_now prog vers e.1) (behind entries key)
  later_behind key slot least [] h there none = absurd (cc)
  later_behind key slot least (e ∷ rest) h there none = by_test (eqb e.0 key) there none (later_behind key slot (number_after e.1.added) rest h.1)
    where
      not_later : (b : Bool) → nat_lt slot.added e.1.added ≡ false → (b && nat_lt slot.added e.1.added) ≡ false
      not_later b before = rw before (and_false b)

      by_test : (b : Bool) → cond b (Some e.1) (value_at rest key) ≡ Some slot → list_any (is_own_version prog vers) (values_of (cond b rest (behind rest key))) ≡ false
          → (value_at rest key ≡ Some slot → list_any (is_own_version prog vers) (values_of (behind rest key)) ≡ false
          → find (λ e. is_later_version prog vers slot.added e.1) rest ≡ find (λ e. is_version_now prog vers e.1) (behind rest key))
          → find (λ e. is_later_version prog vers slot.added e.1) (e ∷ rest) ≡ find (λ e. is_version_now prog vers e.1) (cond b rest (behind rest key))
      by_test true is none further =
          let same : e.1 ≡ slot = cc in
          let number : e.1.added ≡ slot.added = ap (λ (s : Slot). s.added) same in
          let no : nat_lt slot.added e.1.added ≡ false = grind (arith, nat_tests, number) in
          let later = all_later slot.added (number_after e.1.added) rest (rw number (omega arith)) h.1 none in
          rw (not_later (is_version_now prog vers e.1) no) later
      by_test false is none further =
          let later = there_later key slot (number_after e.1.added) rest h.1 is in
          let more = after_more e.1.added in
          let no : nat_lt slot.added e.1.added ≡ false = grind (arith, nat_tests, later, more) in
          rw (not_later (is_version_now prog vers e.1) no) (further is none)

  no_own_from : (least : ℕ) (entries : List (ℕ × Slot)) → 0 < least → AreInOrder least entries → list_any (is_own_version prog vers) (values_of entries) ≡ false
  no_own_from least [] some h = refl
  no_own_from least (e ∷ rest) some h =
      let from : least ≤ e.1.added = h.0 in
      let no : eqb e.1.added 0 ≡ false = grind (arith, nat_tests, some, from) in
      let more = after_more e.1.added in
      rw no (no_own_from (number_after e.1.added) rest (omega (arith, some, from, more)) h.1)

  -- nor is an own row of another program than the portmapper's
  not_own : (prog == rpcb_prog) ≡ false → (slot : Slot) → IsOursIfOwn slot → is_own_version prog vers slot ≡ false
  not_own other slot ours = by_number slot.added refl
    where
      of_another : (slot.row.prog == rpcb_prog) ≡ true → (slot.row.prog == prog) ≡ false
      of_another own =
          let same : slot.row.prog ≡ rpcb_prog = eqb-true slot.row.prog rpcb_prog own in
          rw same (grind (arith, nat_tests, other))

      by_number : (n : ℕ) → slot.added ≡ n → (eqb n 0 && is_version_now prog vers slot) ≡ false
      by_number zero e = rw (of_another (ours e)) (and_false (is_none slot.removed))
      by_number (suc n) e = let set : eqb (suc n) 0 ≡ false = grind (arith, nat_tests) in rw set refl

  no_own_of_others : (prog == rpcb_prog) ≡ false → (entries : List (ℕ × Slot)) → OwnAreOurs entries → list_any (is_own_version prog vers) (values_of entries) ≡ false
  no_own_of_others other [] ours = refl
  no_own_of_others other (e ∷ rest) ours = rw (not_own other e.1 ours.0) (no_own_of_others other rest ours.1)

  ours_to_come : (entries : List (ℕ × Slot)) (start : Option ℕ) → OwnAreOurs entries → OwnAreOurs (to_come entries start)
  ours_to_come entries None ours = ours
  ours_to_come [] (Some key) ours = tt
  ours_to_come (e ∷ rest) (Some key) ours =
      elim (eqb e.0 key) as (λ b. OwnAreOurs (cond b rest (behind rest key))) [ true ↦ ours.1 | false ↦ ours_to_come rest (Some key) ours.1 ]

  pub no_own_elsewhere : (prog == rpcb_prog) ≡ false → (entries : List (ℕ × Slot)) (start : Option ℕ) → OwnAreOurs entries → list_any (is_own_version prog vers) (values_of (to_come entries start)) ≡ false
  no_own_elsewhere other entries start ours = no_own_of_others other (to_come entries start) (ours_to_come entries start ours)

  -- after a row that was set comes no own row
  pub no_own_left : (entries : List (ℕ × Slot)) (e : ℕ × Slot) (rest : List (ℕ × Slot)) → AreInOrder 0 entries → entries ≡ e ∷ rest → 0 < e.1.added
      → list_any (is_own_version prog vers) (values_of entries) ≡ false
  no_own_left entries e rest h first some =
      let order : AreInOrder 0 (e ∷ rest) = rw first at h in
      let no : eqb e.1.added 0 ≡ false = grind (arith, nat_tests, some) in
      let more = after_more e.1.added in
      let later = no_own_from (number_after e.1.added) rest (omega (arith, some, more)) order.1 in
      rw (first, no) later

  no_own_behind : (key : ℕ) (slot : Slot) (least : ℕ) (entries : List (ℕ × Slot)) → AreInOrder least entries → value_at entries key ≡ Some slot → 0 < slot.added
      → list_any (is_own_version prog vers) (values_of (behind entries key)) ≡ false
  no_own_behind key slot least [] h there some = absurd (cc)
  no_own_behind key slot least (e ∷ rest) h there some = by_test (eqb e.0 key) there (no_own_behind key slot (number_after e.1.added) rest h.1)
    where
      by_test : (b : Bool) → cond b (Some e.1) (value_at rest key) ≡ Some slot
          → (value_at rest key ≡ Some slot → 0 < slot.added → list_any (is_own_version prog vers) (values_of (behind rest key)) ≡ false)
          → list_any (is_own_version prog vers) (values_of (cond b rest (behind rest key))) ≡ false
      by_test true is further =
          let same : e.1 ≡ slot = cc in
          let number : e.1.added ≡ slot.added = ap (λ (s : Slot). s.added) same in
          let more = after_more e.1.added in
          no_own_from (number_after e.1.added) rest (omega (arith, some, number, more)) h.1
      by_test false is further = further is some

  -- nor behind a place, if the row there was set
  pub no_own_to_come : (entries : List (ℕ × Slot)) (start : Option ℕ) (after : ℕ) → AreInOrder 0 entries → Some after ≡ added_at entries start → 0 < after
      → list_any (is_own_version prog vers) (values_of (to_come entries start)) ≡ false
  no_own_to_come entries None after h added some = let same : after ≡ 0 = cc in absurd (omega (arith, some, same))
  no_own_to_come entries (Some key) after h added some = by_value (value_at entries key) refl added
    where
      by_value : (o : Option Slot) → value_at entries key ≡ o → Some after ≡ option_map (λ (slot : Slot). slot.added) o → list_any (is_own_version prog vers) (values_of (behind entries key)) ≡ false
      by_value None is added = absurd (cc)
      by_value (Some slot) is added = let same : after ≡ slot.added = cc in no_own_behind key slot 0 entries h is (omega (arith, some, same))

-- ---- the next one

module _ {T : Type 0} where
  -- what is there after a place is there, and the same comes after it
  pub in_behind : (entries : List (ℕ × T)) (place : Option ℕ) (key : ℕ) (value : T) → HasDistinctKeys entries → value_at (to_come entries place) key ≡ Some value
      → (value_at entries key ≡ Some value) × (behind (to_come entries place) key ≡ behind entries key)
  in_behind entries None key value d there = (there, refl)
  in_behind [] (Some a) key value d there = absurd (cc)
  in_behind (e ∷ rest) (Some a) key value d there = by_test (eqb e.0 a) there (in_behind rest (Some a) key value d.1)
    where
      by_test : (b : Bool) → value_at (cond b rest (behind rest a)) key ≡ Some value
          → (value_at (behind rest a) key ≡ Some value → (value_at rest key ≡ Some value) × (behind (behind rest a) key ≡ behind rest key))
          → (value_at (e ∷ rest) key ≡ Some value) × (behind (cond b rest (behind rest a)) key ≡ behind (e ∷ rest) key)
      by_test true there further =
          let other : eqb e.0 key ≡ false = apart rest e.0 key value d.0 there in
          rw other (there, refl)
      by_test false there further =
          let later = further there in
          let other : eqb e.0 key ≡ false = apart rest e.0 key value d.0 later.0 in
          rw other later

  pub distinct_to_come : (entries : List (ℕ × T)) (place : Option ℕ) → HasDistinctKeys entries → HasDistinctKeys (to_come entries place)
  distinct_to_come entries None d = d
  distinct_to_come [] (Some key) d = tt
  distinct_to_come (e ∷ rest) (Some key) d =
      elim (eqb e.0 key) as (λ b. HasDistinctKeys (cond b rest (behind rest key))) [ true ↦ d.1 | false ↦ distinct_to_come rest (Some key) d.1 ]

module _ (prog vers : ℕ) (entries : List (ℕ × Slot)) (distinct : HasDistinctKeys entries) (start : Option ℕ) where
  pub nothing_next : None ≡ added_at entries start → versions_in prog vers (to_come entries start) ≡ []
  nothing_next none = by_start start none
    where
      by_value : (key : ℕ) (o : Option Slot) → value_at entries key ≡ o → None ≡ option_map (λ (slot : Slot). slot.added) o → versions_in prog vers (behind entries key) ≡ []
      by_value key None is none = ap (versions_in prog vers) (nothing_behind entries key (λ some. let clash : false ≡ true = rw is at some in absurd (cc)))
      by_value key (Some slot) is none = absurd (cc)

      by_start : (place : Option ℕ) → None ≡ added_at entries place → versions_in prog vers (to_come entries place) ≡ []
      by_start None none = absurd (cc)
      by_start (Some key) none = by_value key (value_at entries key) refl none

  module _ (after : ℕ) (ordered : AreInOrder 0 entries) (added : Some after ≡ added_at entries start) (no_own : list_any (is_own_version prog vers) (values_of (to_come entries start)) ≡ false) where
    same_found : find (λ e. is_later_version prog vers after e.1) entries ≡ find (λ e. is_version_now prog vers e.1) (to_come entries start)
    same_found = by_start start added no_own
      where
        by_value : (key : ℕ) (o : Option Slot) → value_at entries key ≡ o → Some after ≡ option_map (λ (slot : Slot). slot.added) o → list_any (is_own_version prog vers) (values_of (behind entries key)) ≡ false
            → find (λ e. is_later_version prog vers after e.1) entries ≡ find (λ e. is_version_now prog vers e.1) (behind entries key)
        by_value key None is added none = absurd (cc)
        by_value key (Some slot) is added none =
            let same : after ≡ slot.added = cc in
            rw same (later_behind prog vers key slot 0 entries ordered is none)

        by_start : (place : Option ℕ) → Some after ≡ added_at entries place → list_any (is_own_version prog vers) (values_of (to_come entries place)) ≡ false
            → find (λ e. is_later_version prog vers after e.1) entries ≡ find (λ e. is_version_now prog vers e.1) (to_come entries place)
        by_start None added none = let same : after ≡ 0 = cc in rw same (all_later prog vers 0 0 entries (omega arith) ordered none)
        by_start (Some key) added none = by_value key (value_at entries key) refl added none

    pub none_next : None ≡ key_of (is_later_version prog vers after) entries → versions_in prog vers (to_come entries start) ≡ []
    none_next none = none_in prog vers (to_come entries start) (sym same_found ∙ by_found (find (λ e. is_later_version prog vers after e.1) entries) none)
      where
        by_found : (o : Option (ℕ × Slot)) → None ≡ option_map (λ (e : ℕ × Slot). e.0) o → o ≡ None
        by_found None none = refl
        by_found (Some e) none = absurd (cc)

    -- the row of the key is the next one
    pub record IsNext (key : ℕ) : Type 0 where
      pub slot : Slot
      pub there : value_at entries key ≡ Some slot
      pub next : versions_in prog vers (to_come entries start) ≡ (key, slot.row) ∷ versions_in prog vers (behind entries key)

    pub next_is : (key : ℕ) → Some key ≡ key_of (is_later_version prog vers after) entries → IsNext key
    next_is key is = by_found (find (λ e. is_later_version prog vers after e.1) entries) refl is
      where
        by_found : (o : Option (ℕ × Slot)) → find (λ e. is_later_version prog vers after e.1) entries ≡ o → Some key ≡ option_map (λ (e : ℕ × Slot). e.0) o → IsNext key
        by_found None found is = absurd (cc)
        by_found (Some first) found is =
            let same : key ≡ first.0 = cc in
            let first_is = first_in prog vers (to_come entries start) first (distinct_to_come entries start distinct) (sym same_found ∙ found) in
            let here = in_behind entries start first.0 first.1 distinct first_is.1 in
            record {
              slot = first.1;
              there = rw same here.0;
              next = rw (same, ← here.1) first_is.0;
            }
