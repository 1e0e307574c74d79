-- A removal, netid by netid.
use Rattle.std.proofs.Common.{◌≡◌, ℕ, ◌+◌, ◌<◌, ◌≤◌, Bool, true, false, cond, eqb, not, ◌&&◌, ◌||◌, List, [], ◌∷◌, ◌++◌, ◌*◌, length, take, get_or, Option, Some, None, is_some, refl, sym, ap, ◌∙◌, eq-eqb, arith}
use Rattle.std.specs.Prelude.{is_none, nat_le, ◌^◌}
use Rattle.std.specs.List.{list_any, cons_option, count_by}
use Rattle.std.proofs.lemmas.List.Sums.{count_by_more_yes, count_by_more_no}
use Rattle.std.proofs.lemmas.Bool.{eqb-true}
use Rattle.std.proofs.lemmas.Bool.Decides.{nat_tests}
use Rattle.rb_xdr.specs.Pool.{value_at, without, with_value, HasDistinctKeys}
use Rattle.rb_xdr.specs.Ordered.{IsRising, IsRisingFrom, count_upto, looks, moves}
use Rattle.rb_xdr.proofs.PoolLemmas.{value_at-without, distinct-without, length-without}
use Rattle.rb_xdr.proofs.Ordering.{count_within, distinct_rising, looks_more}
use Rattle.rb_address.specs.declared.netid.Netid.{Netid}
use Rattle.rb_address.specs.declared.netid.Netid.TheVariants.{Tcp, Udp, Tcp6, Udp6, Local}
use Rattle.rb_address.specs.declared.who.Owner.{Owner}
use Rattle.rb_registry.specs.declared.row.Which.{Which}
use Rattle.rb_registry.specs.declared.row.Which.TheVariants.{All, Inet, One}
use Rattle.rb_registry.specs.declared.row.Row.{Row}
use Rattle.rb_registry.specs.declared.slot.Slot.{Slot}
use Rattle.rb_registry.specs.Rows.{Change, rpcb_prog, covers, is_among, may_remove, is_on, is_row}
use Rattle.rb_address.specs.Netids.{is_netid}
use Rattle.rb_registry.specs.Rows.Change.{Removed}
use Rattle.rb_registry.specs.Registry.{Registry, removals, live_at, rows_of}
use Rattle.rb_registry.specs.Table.{AreStamped, count_retained}
use Rattle.rb_registry.proofs.Marked.{entries_with_marks}
use Rattle.rb_registry.specs.Index.{rank, rank_of, ranks, AreRanked, IsIndexed, goes_where, mark_where, marked_where}
use Rattle.rb_registry.specs.Costs.{count_named, unset_cost, removal_cost}
use Rattle.rb_registry.proofs.Tables.{live_has_none, live_and_retained}
use Rattle.rb_registry.proofs.Ranks.{same_rank, valued}

netid_from : (a b : Netid) → is_netid a b ≡ true → a ≡ b
unfolding is_netid
netid_from Tcp Tcp t = refl
netid_from Tcp Udp t = absurd cc
netid_from Tcp Tcp6 t = absurd cc
netid_from Tcp Udp6 t = absurd cc
netid_from Tcp Local t = absurd cc
netid_from Udp Tcp t = absurd cc
netid_from Udp Udp t = refl
netid_from Udp Tcp6 t = absurd cc
netid_from Udp Udp6 t = absurd cc
netid_from Udp Local t = absurd cc
netid_from Tcp6 Tcp t = absurd cc
netid_from Tcp6 Udp t = absurd cc
netid_from Tcp6 Tcp6 t = refl
netid_from Tcp6 Udp6 t = absurd cc
netid_from Tcp6 Local t = absurd cc
netid_from Udp6 Tcp t = absurd cc
netid_from Udp6 Udp t = absurd cc
netid_from Udp6 Tcp6 t = absurd cc
netid_from Udp6 Udp6 t = refl
netid_from Udp6 Local t = absurd cc
netid_from Local Tcp t = absurd cc
netid_from Local Udp t = absurd cc
netid_from Local Tcp6 t = absurd cc
netid_from Local Udp6 t = absurd cc
netid_from Local Local t = refl

and_false : (b : Bool) → (b && false) ≡ false
and_false true = refl
and_false false = refl

-- ---- one slot

-- if it doesn't go, it stays
pub stays_where : (on : Netid → Bool) (stamp : ℕ) (change : Change) (slot : Slot) → goes_where on change slot ≡ false → mark_where on stamp change slot ≡ slot
stays_where on stamp change slot stays = rw stays refl

dead_where : (on : Netid → Bool) (change : Change) (slot : Slot) → is_none slot.removed ≡ false → goes_where on change slot ≡ false
dead_where on change slot dead = rw dead refl

-- two removals after each other are one
two_where : (on other : Netid → Bool) (stamp : ℕ) (change : Change) (slot : Slot) → mark_where other stamp change (mark_where on stamp change slot) ≡ mark_where (λ n. on n || other n) stamp change slot
two_where on other stamp change slot = by_tests (is_none slot.removed) refl (covers slot.row change) refl (on slot.row.netid) refl
  where
    by_tests : (a : Bool) → is_none slot.removed ≡ a → (b : Bool) → covers slot.row change ≡ b → (c : Bool) → on slot.row.netid ≡ c
        → mark_where other stamp change (mark_where on stamp change slot) ≡ mark_where (λ n. on n || other n) stamp change slot
    by_tests true s true t true u = rw (s, t, u) refl
    by_tests true s true t false u = rw (s, t, u) (rw (s, t) refl)
    by_tests true s false t c u = rw (s, t) (rw (s, t) refl)
    by_tests false s b t c u = rw s (rw s refl)

-- ---- entries

pub two_marked : (on other : Netid → Bool) (stamp : ℕ) (change : Change) (entries : List (ℕ × Slot)) → marked_where other stamp change (marked_where on stamp change entries) ≡ marked_where (λ n. on n || other n) stamp change entries
two_marked on other stamp change [] = refl
two_marked on other stamp change (e ∷ rest) = rw (two_where on other stamp change e.1, two_marked on other stamp change rest) refl

pub same_marked : (on other : Netid → Bool) (stamp : ℕ) (change : Change) (entries : List (ℕ × Slot)) → ((n : Netid) → on n ≡ other n) → marked_where on stamp change entries ≡ marked_where other stamp change entries
same_marked on other stamp change [] same = refl
same_marked on other stamp change (e ∷ rest) same = rw (same e.1.row.netid, same_marked on other stamp change rest same) refl

pub none_marked : (stamp : ℕ) (change : Change) (entries : List (ℕ × Slot)) → marked_where (λ n. false) stamp change entries ≡ entries
none_marked stamp change [] = refl
none_marked stamp change (e ∷ rest) = rw (stays_where (λ n. false) stamp change e.1 (none (is_none e.1.removed) (covers e.1.row change)), none_marked stamp change rest) refl
  where
    none : (a b : Bool) → (a && (b && false)) ≡ false
    none a b = rw and_false (and_false a)

-- on all netids it is the whole removal
pub all_marked : (on : Netid → Bool) (stamp : ℕ) (change : Change) (entries : List (ℕ × Slot)) → ((n : Netid) → on n ≡ true) → AreStamped stamp entries → marked_where on stamp change entries ≡ entries_with_marks stamp change entries
all_marked on stamp change [] all stamped = refl
all_marked on stamp change (e ∷ rest) all stamped =
    rw (all e.1.row.netid, live_has_none stamp e.1 stamped.0, all_marked on stamp change rest all stamped.1, and_true (covers e.1.row change)) refl
  where
    and_true : (b : Bool) → (b && true) ≡ b
    and_true true = refl
    and_true false = refl

-- ---- ranks

pub ranks_and_retained : (entries : List (ℕ × Slot)) → length (ranks entries) + count_retained entries ≡ length entries
ranks_and_retained [] = refl
ranks_and_retained (e ∷ rest) = by_removed e.1.removed (ranks_and_retained rest)
  where
    by_removed : (removed : Option ℕ) → length (ranks rest) + count_retained rest ≡ length rest
        → length (cond (is_none removed) ((rank_of e.1.row, e.0) ∷ ranks rest) (ranks rest)) + length (cons_option removed (removals rest)) ≡ length (e ∷ rest)
    by_removed None further = omega (arith, further)
    by_removed (Some r) further = omega (arith, further)

pub ranked_at : (entries : List (ℕ × Slot)) (key : ℕ) (slot : Slot) → AreRanked entries → value_at entries key ≡ Some slot → slot.row.vers < 2 ^ 32
ranked_at [] key slot ranked is = absurd (cc)
ranked_at (e ∷ rest) key slot ranked is = by_test (eqb e.0 key) is (ranked_at rest key slot ranked.1)
  where
    by_test : (b : Bool) → cond b (Some e.1) (value_at rest key) ≡ Some slot → (value_at rest key ≡ Some slot → slot.row.vers < 2 ^ 32) → slot.row.vers < 2 ^ 32
    by_test true is further = let same : e.1 ≡ slot = cc in rw (← same) ranked.0
    by_test false is further = further is

AreRanked-with : (entries : List (ℕ × Slot)) (key : ℕ) (slot : Slot) → AreRanked entries → slot.row.vers < 2 ^ 32 → AreRanked (with_value entries key slot)
AreRanked-with [] key slot ranked small = tt
AreRanked-with (e ∷ rest) key slot ranked small =
    elim (eqb e.0 key) as (λ b. AreRanked (cond b ((e.0, slot) ∷ rest) (e ∷ with_value rest key slot))) [
      | true ↦ (small, ranked.1)
      | false ↦ (ranked.0, AreRanked-with rest key slot ranked.1 small)
    ]

-- the key under a rank, of the first entry or of another one
module _ (number key : ℕ) (e : ℕ × Slot) (rest : List (ℕ × Slot)) (missing : value_at rest e.0 ≡ None) where
  -- another entry's key is another key
  pub behind_first : value_at (ranks rest) number ≡ Some key → eqb e.0 key ≡ false
  behind_first is = by_test (eqb e.0 key) refl
    where
      by_test : (b : Bool) → eqb e.0 key ≡ b → b ≡ false
      by_test false t = refl
      by_test true t =
          let same : e.0 ≡ key = eqb-true e.0 key t in
          let none : value_at rest key ≡ None = rw same at missing in
          let some : is_some (value_at rest key) ≡ true = valued rest number key is in
          let clash : false ≡ true = rw none at some in
          absurd (cc)

-- the rank of a row that is removed goes
pub ranks-removed : (number key : ℕ) (slot : Slot) (entries : List (ℕ × Slot)) → is_none slot.removed ≡ false → HasDistinctKeys entries → HasDistinctKeys (ranks entries)
    → value_at (ranks entries) number ≡ Some key → ranks (with_value entries key slot) ≡ without (ranks entries) number
ranks-removed number key slot [] dead distinct ranked is = absurd (cc)
ranks-removed number key slot (e ∷ rest) dead distinct ranked is =
    by_tests (is_none e.1.removed) refl (eqb (rank_of e.1.row) number) refl ranked is (ranks-removed number key slot rest dead distinct.1)
  where
    by_tests : (b : Bool) → is_none e.1.removed ≡ b → (c : Bool) → eqb (rank_of e.1.row) number ≡ c
        → HasDistinctKeys (cond b ((rank_of e.1.row, e.0) ∷ ranks rest) (ranks rest))
        → value_at (cond b ((rank_of e.1.row, e.0) ∷ ranks rest) (ranks rest)) number ≡ Some key
        → (HasDistinctKeys (ranks rest) → value_at (ranks rest) number ≡ Some key → ranks (with_value rest key slot) ≡ without (ranks rest) number)
        → ranks (with_value (e ∷ rest) key slot) ≡ without (cond b ((rank_of e.1.row, e.0) ∷ ranks rest) (ranks rest)) number
    by_tests true s true t ranked is further =
        let found : Some e.0 ≡ Some key = rw t at is in
        let same : e.0 ≡ key = cc in
        let here : eqb e.0 key ≡ true = eq-eqb e.0 key same in
        rw (here, t) (rw dead refl)
    by_tests true s false t ranked is further =
        let found : value_at (ranks rest) number ≡ Some key = rw t at is in
        let other : eqb e.0 key ≡ false = behind_first number key e rest distinct.0 found in
        rw (other, t) (rw (s, further ranked.1 found) refl)
    by_tests false s c t ranked is further =
        let other : eqb e.0 key ≡ false = behind_first number key e rest distinct.0 is in
        rw other (rw (s, further ranked is) refl)

-- the live row of a rank
pub slot_under : (number key : ℕ) (slot : Slot) (entries : List (ℕ × Slot)) → HasDistinctKeys entries → value_at (ranks entries) number ≡ Some key → value_at entries key ≡ Some slot
    → (is_none slot.removed ≡ true) × (rank_of slot.row ≡ number)
slot_under number key slot [] distinct is at = absurd (cc)
slot_under number key slot (e ∷ rest) distinct is at =
    by_tests (is_none e.1.removed) refl (eqb (rank_of e.1.row) number) refl is (slot_under number key slot rest distinct.1)
  where
    Under : Type 0
    Under = (is_none slot.removed ≡ true) × (rank_of slot.row ≡ number)

    later : value_at (ranks rest) number ≡ Some key → (value_at (ranks rest) number ≡ Some key → value_at rest key ≡ Some slot → (is_none slot.removed ≡ true) × (rank_of slot.row ≡ number))
        → (is_none slot.removed ≡ true) × (rank_of slot.row ≡ number)
    later found further = let other : eqb e.0 key ≡ false = behind_first number key e rest distinct.0 found in further found (rw other at at)

    by_tests : (b : Bool) → is_none e.1.removed ≡ b → (c : Bool) → eqb (rank_of e.1.row) number ≡ c
        → value_at (cond b ((rank_of e.1.row, e.0) ∷ ranks rest) (ranks rest)) number ≡ Some key
        → (value_at (ranks rest) number ≡ Some key → value_at rest key ≡ Some slot → (is_none slot.removed ≡ true) × (rank_of slot.row ≡ number))
        → (is_none slot.removed ≡ true) × (rank_of slot.row ≡ number)
    by_tests true s true t is further =
        let found : Some e.0 ≡ Some key = rw t at is in
        let same : e.0 ≡ key = cc in
        let here : eqb e.0 key ≡ true = eq-eqb e.0 key same in
        let first : Some e.1 ≡ Some slot = rw here at at in
        let is_slot : e.1 ≡ slot = cc in
        (ap (λ (o : Slot). is_none o.removed) (sym is_slot) ∙ s, ap (λ (o : Slot). rank_of o.row) (sym is_slot) ∙ eqb-true _ _ t)
    by_tests true s false t is further = let found : value_at (ranks rest) number ≡ Some key = rw t at is in later found further
    by_tests false s c t is further = later is further

-- ---- a removal on one netid

conjunction : (a p v m o n : Bool) → ((p && n) && v) ≡ false → (((((a && p) && v) && m) && o) && n) ≡ false
conjunction false p v m o n h = refl
conjunction true false v m o n h = refl
conjunction true true false m o n h = refl
conjunction true true true false o n h = refl
conjunction true true true true false n h = refl
conjunction true true true true true true h = absurd (cc)
conjunction true true true true true false h = refl

is_here : (prog vers : ℕ) (netid : Netid) (row : Row) → is_row prog vers netid row ≡ true → is_netid row.netid netid ≡ true
unfolding is_row is_on
is_here prog vers netid row is = by_tests (eqb row.prog prog) (is_netid row.netid netid) (eqb row.vers vers) is
  where
    by_tests : (p n v : Bool) → ((p && n) && v) ≡ true → n ≡ true
    by_tests p true v is = refl
    by_tests true false v is = absurd (cc)
    by_tests false false v is = absurd (cc)

module _ (stamp prog vers : ℕ) (which : Which) (owner : Owner) (netid : Netid) where
  abbrev gone : Change
  gone = Removed prog vers which owner

  abbrev here : Netid → Bool
  here other = is_netid other netid

  -- a row of another rank doesn't go
  other_stays : (slot : Slot) → is_row prog vers netid slot.row ≡ false → goes_where here gone slot ≡ false
  unfolding is_row is_on covers
  other_stays slot differ =
      rw (conjunction (not (eqb slot.row.prog rpcb_prog)) (eqb slot.row.prog prog) (eqb slot.row.vers vers) (is_among slot.row.netid which) (may_remove owner slot.row.owner) (is_netid slot.row.netid netid) differ) (and_false (is_none slot.removed))

  -- nor does any if the netid isn't among those that are named
  not_among : is_among netid which ≡ false → (slot : Slot) → goes_where here gone slot ≡ false
  unfolding covers
  not_among none slot = by_test (is_netid slot.row.netid netid) refl
    where
      by_test : (b : Bool) → is_netid slot.row.netid netid ≡ b
          → (is_none slot.removed && (((((not (eqb slot.row.prog rpcb_prog) && eqb slot.row.prog prog) && eqb slot.row.vers vers) && is_among slot.row.netid which) && may_remove owner slot.row.owner) && is_netid slot.row.netid netid)) ≡ false
      by_test false t = rw (t, and_false) (and_false (is_none slot.removed))
      by_test true t =
          let same : slot.row.netid ≡ netid = netid_from slot.row.netid netid t in
          let out : is_among slot.row.netid which ≡ false = rw same none in
          rw (out, and_false) (and_false (is_none slot.removed))

  pub none_among : is_among netid which ≡ false → (entries : List (ℕ × Slot)) → marked_where here stamp gone entries ≡ entries
  none_among none [] = refl
  none_among none (e ∷ rest) = rw (stays_where here stamp gone e.1 (not_among none e.1), none_among none rest) refl

  module _ (small : vers < 2 ^ 32) where
    rank_stays : (e : ℕ × Slot) → e.1.row.vers < 2 ^ 32 → eqb (rank_of e.1.row) (rank prog netid vers) ≡ false → mark_where here stamp gone e.1 ≡ e.1
    rank_stays e ranked t = stays_where here stamp gone e.1 (other_stays e.1 (same_rank prog vers netid e.1.row ranked small ∙ t))

    pub none_here : (entries : List (ℕ × Slot)) → AreRanked entries → value_at (ranks entries) (rank prog netid vers) ≡ None → marked_where here stamp gone entries ≡ entries
    none_here [] ranked none = refl
    none_here (e ∷ rest) ranked none = by_tests (is_none e.1.removed) refl (eqb (rank_of e.1.row) (rank prog netid vers)) refl none (none_here rest ranked.1)
      where
        by_tests : (b : Bool) → is_none e.1.removed ≡ b → (c : Bool) → eqb (rank_of e.1.row) (rank prog netid vers) ≡ c
            → value_at (cond b ((rank_of e.1.row, e.0) ∷ ranks rest) (ranks rest)) (rank prog netid vers) ≡ None
            → (value_at (ranks rest) (rank prog netid vers) ≡ None → marked_where here stamp gone rest ≡ rest)
            → marked_where here stamp gone (e ∷ rest) ≡ e ∷ rest
        by_tests true s true t none further = let clash : Some e.0 ≡ None = rw t at none in absurd (cc)
        by_tests true s false t none further = rw (rank_stays e ranked.0 t, further (rw t at none)) refl
        by_tests false s c t none further = rw (stays_where here stamp gone e.1 (dead_where here gone e.1 s), further none) refl

    pub one_here : (key : ℕ) (slot : Slot) (entries : List (ℕ × Slot)) → HasDistinctKeys entries → HasDistinctKeys (ranks entries) → AreRanked entries
        → value_at (ranks entries) (rank prog netid vers) ≡ Some key → value_at entries key ≡ Some slot
        → marked_where here stamp gone entries ≡ with_value entries key (mark_where here stamp gone slot)
    one_here key slot [] distinct keys ranked is at = absurd (cc)
    one_here key slot (e ∷ rest) distinct keys ranked is at =
        by_tests (is_none e.1.removed) refl (eqb (rank_of e.1.row) (rank prog netid vers)) refl keys is (one_here key slot rest distinct.1)
      where
        later : mark_where here stamp gone e.1 ≡ e.1 → HasDistinctKeys (ranks rest) → value_at (ranks rest) (rank prog netid vers) ≡ Some key
            → (HasDistinctKeys (ranks rest) → AreRanked rest → value_at (ranks rest) (rank prog netid vers) ≡ Some key → value_at rest key ≡ Some slot → marked_where here stamp gone rest ≡ with_value rest key (mark_where here stamp gone slot))
            → marked_where here stamp gone (e ∷ rest) ≡ with_value (e ∷ rest) key (mark_where here stamp gone slot)
        later stays keys found further =
            let other : eqb e.0 key ≡ false = behind_first (rank prog netid vers) key e rest distinct.0 found in
            rw (stays, other, further keys ranked.1 found (rw other at at)) refl

        by_tests : (b : Bool) → is_none e.1.removed ≡ b → (c : Bool) → eqb (rank_of e.1.row) (rank prog netid vers) ≡ c
            → HasDistinctKeys (cond b ((rank_of e.1.row, e.0) ∷ ranks rest) (ranks rest))
            → value_at (cond b ((rank_of e.1.row, e.0) ∷ ranks rest) (ranks rest)) (rank prog netid vers) ≡ Some key
            → (HasDistinctKeys (ranks rest) → AreRanked rest → value_at (ranks rest) (rank prog netid vers) ≡ Some key → value_at rest key ≡ Some slot → marked_where here stamp gone rest ≡ with_value rest key (mark_where here stamp gone slot))
            → marked_where here stamp gone (e ∷ rest) ≡ with_value (e ∷ rest) key (mark_where here stamp gone slot)
        by_tests true s true t keys is further =
            let found : Some e.0 ≡ Some key = rw t at is in
            let same : e.0 ≡ key = cc in
            let first : eqb e.0 key ≡ true = eq-eqb e.0 key same in
            let whole : Some e.1 ≡ Some slot = rw first at at in
            let is_slot : e.1 ≡ slot = cc in
            let rank_is : rank_of e.1.row ≡ rank prog netid vers = eqb-true _ _ t in
            let no_other : value_at (ranks rest) (rank prog netid vers) ≡ None = rw rank_is at keys.0 in
            rw (first, ← is_slot, none_here rest ranked.1 no_other) refl
        by_tests true s false t keys is further = later (rank_stays e ranked.0 t) keys.1 (rw t at is) further
        by_tests false s c t keys is further = later (stays_where here stamp gone e.1 (dead_where here gone e.1 s)) keys is further

    -- the row of that rank is on the netid, so it goes if it is covered
    pub mark_covered_here : (slot : Slot) → slot.row.vers < 2 ^ 32 → is_none slot.removed ≡ true → rank_of slot.row ≡ rank prog netid vers → covers slot.row gone ≡ true
        → mark_where here stamp gone slot ≡ record slot { removed = Some (stamp + 1) }
    mark_covered_here slot ranked live rank_is covered = rw (live, covered, on_netid slot ranked rank_is) refl
      where
        on_netid : (slot : Slot) → slot.row.vers < 2 ^ 32 → rank_of slot.row ≡ rank prog netid vers → is_netid slot.row.netid netid ≡ true
        on_netid slot ranked rank_is =
            let is : is_row prog vers netid slot.row ≡ true = same_rank prog vers netid slot.row ranked small ∙ eq-eqb _ _ rank_is in
            is_here prog vers netid slot.row is

    pub mark_uncovered_here : (slot : Slot) → covers slot.row gone ≡ false → mark_where here stamp gone slot ≡ slot
    mark_uncovered_here slot not_covered = stays_where here stamp gone slot (rw not_covered (and_false (is_none slot.removed)))

-- ---- the index without the rank

pub IsIndexed-removed : (number key : ℕ) (slot new : Slot) (entries : List (ℕ × Slot)) (index : List (ℕ × ℕ)) → IsIndexed entries index → IsRising index → HasDistinctKeys entries
    → value_at index number ≡ Some key → value_at entries key ≡ Some slot → is_none new.removed ≡ false → new.row ≡ slot.row → IsIndexed (with_value entries key new) (without index number)
IsIndexed-removed number key slot new entries index indexed rising distinct is at dead same =
    let found : value_at (ranks entries) number ≡ Some key = sym (indexed.same number) ∙ is in
    let left : ranks (with_value entries key new) ≡ without (ranks entries) number = ranks-removed number key new entries dead distinct indexed.distinct found in
    let small : new.row.vers < 2 ^ 32 = rw same (ranked_at entries key slot indexed.ranked at) in
    let fewer = length-without index number key is in
    let fewer_ranks = length-without (ranks entries) number key found in
    record {
      ranked = AreRanked-with entries key new indexed.ranked small;
      distinct = rw left (distinct-without (ranks entries) number indexed.distinct);
      same = λ m. value_at-without index number m (distinct_rising 0 index rising) ∙ rw (left, value_at-without (ranks entries) number m indexed.distinct, indexed.same m) refl;
      count = rw left (omega (arith, fewer, fewer_ranks, indexed.count));
    }

-- ---- costs

pub removal_cost_more : (few many : ℕ) → few ≤ many → removal_cost few ≤ removal_cost many
removal_cost_more few many le = let more = looks_more few many le in omega arith

-- ---- all netids

abbrev pub netids : List Netid
netids = Tcp ∷ Udp ∷ Tcp6 ∷ Udp6 ∷ Local ∷ []

pub is_one : (n : Netid) → list_any (λ other. is_netid n other) netids ≡ true
unfolding is_netid
is_one Tcp = refl
is_one Udp = refl
is_one Tcp6 = refl
is_one Udp6 = refl
is_one Local = refl

-- of them a removal names this many
pub all_named : (which : Which) → count_by (λ n. is_among n which) netids ≡ count_named which
unfolding is_among is_netid
all_named All = refl
all_named Inet = refl
all_named (One Tcp) = refl
all_named (One Udp) = refl
all_named (One Tcp6) = refl
all_named (One Udp6) = refl
all_named (One Local) = refl

-- one netid more costs as much as one removal, if it is named
pub one_more_cost : (which : Which) (place few many : ℕ) → place < length netids → few ≤ many
    → count_by (λ n. is_among n which) (take place netids) * removal_cost many + cond (is_among (get_or netids place Tcp) which) (removal_cost few) 0
    ≤ count_by (λ n. is_among n which) (take (place + 1) netids) * removal_cost many
one_more_cost which place few many within le = by_test (is_among (get_or netids place Tcp) which) refl
  where
    named : Netid → Bool
    named n = is_among n which

    by_test : (b : Bool) → is_among (get_or netids place Tcp) which ≡ b
        → count_by named (take place netids) * removal_cost many + cond b (removal_cost few) 0 ≤ count_by named (take (place + 1) netids) * removal_cost many
    by_test true t =
        let one = count_by_more_yes named netids place Tcp within t in
        let more = removal_cost_more few many le in
        rw one (omega (arith, more))
    by_test false t = let none = count_by_more_no named netids place Tcp within t in rw none (omega arith)

pub any-push : {T : Type 0} (test : T → Bool) (xs : List T) (y : T) → list_any test (xs ++ y ∷ []) ≡ (list_any test xs || test y)
any-push test [] y = or_false (test y)
  where
    or_false : (b : Bool) → (b || false) ≡ b
    or_false true = refl
    or_false false = refl
any-push test (x ∷ xs) y = by_test (test x) (any-push test xs y)
  where
    by_test : (b : Bool) → list_any test (xs ++ y ∷ []) ≡ (list_any test xs || test y) → (b || list_any test (xs ++ y ∷ [])) ≡ ((b || list_any test xs) || test y)
    by_test true further = refl
    by_test false further = further

-- one netid more
pub one_more : (yielded : List Netid) (netid : Netid) (stamp : ℕ) (change : Change) (before now : List (ℕ × Slot))
    → now ≡ marked_where (λ n. list_any (λ other. is_netid n other) yielded) stamp change before
    → marked_where (λ n. is_netid n netid) stamp change now ≡ marked_where (λ n. list_any (λ other. is_netid n other) (yielded ++ netid ∷ [])) stamp change before
one_more yielded netid stamp change before now is =
    ap (marked_where (λ n. is_netid n netid) stamp change) is
    ∙ two_marked (λ n. list_any (λ other. is_netid n other) yielded) (λ n. is_netid n netid) stamp change before
    ∙ same_marked _ _ stamp change before (λ n. sym (any-push (λ (other : Netid). is_netid n other) yielded netid))

-- among the live rows there are no more looks than among as many as there may be
pub looks_within : (limit : ℕ) (entries : List (ℕ × Slot)) (index : List (ℕ × ℕ)) → IsIndexed entries index → length entries ≤ limit → looks (length index) ≤ looks limit
looks_within limit entries index indexed within =
    let whole = ranks_and_retained entries in
    looks_more (length index) limit (omega (arith, whole, indexed.count))

-- the index has as many numbers as there are live rows
pub as_many : (n : ℕ) (entries : List (ℕ × Slot)) (index : List (ℕ × ℕ)) → IsIndexed entries index → AreStamped n entries → length index ≡ length (live_at n entries)
as_many n entries index indexed stamped =
    let whole = ranks_and_retained entries in
    let live = live_and_retained n entries stamped in
    omega (arith, whole, live, indexed.count)

-- so a removal costs no more than the registry says
pub named_less : (which : Which) (count : ℕ) (kept : Registry) → looks count ≤ looks kept.limit → count ≡ length (rows_of kept)
    → count_named which * removal_cost count ≤ unset_cost kept which
named_less All count kept few rows = omega (arith, few, rows)
named_less Inet count kept few rows = omega (arith, few, rows)
named_less (One netid) count kept few rows = omega (arith, few, rows)

-- what one of twelve own rows costs
pub own_cost : (entries : List (ℕ × Slot)) (index : List (ℕ × ℕ)) (number : ℕ) → IsIndexed entries index → length entries ≤ 11 → looks (length index) + moves number index ≤ 17
unfolding looks
own_cost entries index number indexed few =
    let whole = ranks_and_retained entries in
    let more = looks_more (length index) 11 (omega (arith, whole, indexed.count, few)) in
    omega (arith, whole, indexed.count, few, more)

-- ---- a number that was found

found_from : (low number key : ℕ) (es : List (ℕ × ℕ)) → IsRisingFrom low es → value_at es number ≡ Some key → low ≤ number
found_from low number key [] rising found = absurd cc
found_from low number key (e ∷ rest) rising found = by_test (eqb e.0 number) refl (found_from (e.0 + 1) number key rest rising.1)
  where
    by_test : (b : Bool) → eqb e.0 number ≡ b → (value_at rest number ≡ Some key → e.0 + 1 ≤ number) → low ≤ number
    by_test true same further = let is = eqb-true e.0 number same in omega (arith, is, rising.0)
    by_test false differ further = let later = further (rw differ at found) in omega (arith, later, rising.0)

found_counts : (number key : ℕ) (es : List (ℕ × ℕ)) → IsRising es → value_at es number ≡ Some key → 1 ≤ count_upto number es
found_counts number key [] rising found = absurd cc
found_counts number key (e ∷ rest) rising found =
    let least : e.0 ≤ number = found_from e.0 number key (e ∷ rest) (omega arith, rising.1) found in
    let upto : nat_le e.0 number ≡ true = grind (arith, nat_tests) in
    rw upto (omega arith)

-- to take it out moves no more than there is
pub found_moves : (number key : ℕ) (es : List (ℕ × ℕ)) → IsRising es → value_at es number ≡ Some key → moves number es ≤ length es
found_moves number key es rising found =
    let one = found_counts number key es rising found in
    let within = count_within number es in
    omega (arith, one, within)
