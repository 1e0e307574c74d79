-- Rows by their program, netid and version, and the numbers of their owners.
use Rattle.std.specs.Prelude.{filter, find, not, option_map, ◌^◌}
use Rattle.std.specs.List.{AllByRecursion}
use Rattle.std.specs.Option.{option_or}
use Rattle.std.proofs.Common.{◌≡◌, ◌<◌, ◌≤◌, ◌+◌, ℕ, ◌==◌, eqb, Bool, true, false, cond, ◌&&◌, Option, Some, None, List, [], ◌∷◌, ◌++◌, refl, sym, ap, subst, ◌∙◌, eq-eqb, arith}
use Rattle.std.proofs.lemmas.Bool.{and_parts, eqb-true}
use Rattle.std.proofs.lemmas.List.Folds.{find-append}
use Rattle.rb_xdr.specs.Pool.{value_at, without as number_gone}
use Rattle.rb_xdr.specs.Ordered.{with_number}
use Rattle.rb_xdr.proofs.Ordering.{value_at-with_number, rising_with, rising_without, distinct_rising}
use Rattle.rb_xdr.proofs.PoolLemmas.{value_at-without}
use Rattle.rb_address.specs.declared.netid.Netid.{Netid}
use Rattle.rb_address.specs.declared.netid.Netid.TheVariants as netids
use Rattle.rb_address.specs.Netids.{is_netid}
use Rattle.rb_registry.specs.declared.row.Row.{Row}
use Rattle.rb_registry.specs.Rows.{is_on, is_row, is_of_key, find_exact}
use Rattle.rb_registry.specs.Index.{rank, rank_of}
use Rattle.rb_registry.proofs.Ranks.{same_rank}
use Rattle.rb_address.specs.Callers.{is_same_owner}
use Rattle.rb_keep.specs.Kept.{owner_number, AreOwners}
use Rattle.rb_keep.specs.Reading.{is_named, without}
use Rattle.rb_keep.proofs.Distinct.{Apart, Distinct, itself}
use Rattle.rb_keep.proofs.Founds.{found-passes, no-kept, kept-found}
use mathlib.Core.Bool.{true≢false}

-- ---- keys

pub netid-is : (a b : Netid) → is_netid a b ≡ true → a ≡ b
unfolding is_netid
netid-is netids.Tcp netids.Tcp e = refl
netid-is netids.Udp netids.Udp e = refl
netid-is netids.Tcp6 netids.Tcp6 e = refl
netid-is netids.Udp6 netids.Udp6 e = refl
netid-is netids.Local netids.Local e = refl
netid-is netids.Tcp netids.Udp e = absurd cc
netid-is netids.Tcp netids.Tcp6 e = absurd cc
netid-is netids.Tcp netids.Udp6 e = absurd cc
netid-is netids.Tcp netids.Local e = absurd cc
netid-is netids.Udp netids.Tcp e = absurd cc
netid-is netids.Udp netids.Tcp6 e = absurd cc
netid-is netids.Udp netids.Udp6 e = absurd cc
netid-is netids.Udp netids.Local e = absurd cc
netid-is netids.Tcp6 netids.Tcp e = absurd cc
netid-is netids.Tcp6 netids.Udp e = absurd cc
netid-is netids.Tcp6 netids.Udp6 e = absurd cc
netid-is netids.Tcp6 netids.Local e = absurd cc
netid-is netids.Udp6 netids.Tcp e = absurd cc
netid-is netids.Udp6 netids.Udp e = absurd cc
netid-is netids.Udp6 netids.Tcp6 e = absurd cc
netid-is netids.Udp6 netids.Local e = absurd cc
netid-is netids.Local netids.Tcp e = absurd cc
netid-is netids.Local netids.Udp e = absurd cc
netid-is netids.Local netids.Tcp6 e = absurd cc
netid-is netids.Local netids.Udp6 e = absurd cc

pub same-netid-is : (a : Netid) → is_netid a a ≡ true
unfolding is_netid
same-netid-is netids.Tcp = refl
same-netid-is netids.Udp = refl
same-netid-is netids.Tcp6 = refl
same-netid-is netids.Udp6 = refl
same-netid-is netids.Local = refl

-- a row of a program's version on a netid
pub record HasKey (p v : ℕ) (n : Netid) (row : Row) : Type 0 where
  pub prog : row.prog ≡ p
  pub vers : row.vers ≡ v
  pub netid : row.netid ≡ n

pub has-key : (prog vers : ℕ) (netid : Netid) (row : Row) → is_row prog vers netid row ≡ true → HasKey prog vers netid row
unfolding is_row is_on
has-key prog vers netid row e =
    let parts = and_parts (row.prog == prog && is_netid row.netid netid) (row.vers == vers) e in
    let first = and_parts (row.prog == prog) (is_netid row.netid netid) parts.0 in
    record {
      prog = eqb-true row.prog prog first.0;
      vers = eqb-true row.vers vers parts.1;
      netid = netid-is row.netid netid first.1;
    }

pub is-key : (prog vers : ℕ) (netid : Netid) (row : Row) → row.prog ≡ prog → row.vers ≡ vers → is_netid row.netid netid ≡ true → is_row prog vers netid row ≡ true
unfolding is_row is_on
is-key prog vers netid row p v n = rw (eq-eqb row.prog prog p, n, eq-eqb row.vers vers v) refl

-- two rows of one key
pub one-key : (prog vers : ℕ) (netid : Netid) (row other : Row) → is_row prog vers netid row ≡ true → is_row prog vers netid other ≡ true → is_of_key row other ≡ true
one-key prog vers netid row other a b =
    let k = has-key prog vers netid row a in
    let l = has-key prog vers netid other b in
    is-key row.prog row.vers row.netid other (l.prog ∙ sym k.prog) (l.vers ∙ sym k.vers) (ap (λ (n : Netid). is_netid n row.netid) (l.netid ∙ sym k.netid) ∙ same-netid-is row.netid)

-- a row has the key of one that has a key
pub key-of : (prog vers : ℕ) (netid : Netid) (row other : Row) → is_row prog vers netid row ≡ true → is_of_key row other ≡ true → is_row prog vers netid other ≡ true
key-of prog vers netid row other a b =
    let k = has-key prog vers netid row a in
    let l = has-key row.prog row.vers row.netid other b in
    is-key prog vers netid other (l.prog ∙ k.prog) (l.vers ∙ k.vers) (ap (λ (n : Netid). is_netid n netid) (l.netid ∙ k.netid) ∙ same-netid-is netid)

-- ---- rows of which no two have one key

module _ (prog vers : ℕ) (netid : Netid) where
  none-apart : (row : Row) (rows : List Row) → is_row prog vers netid row ≡ true → Apart row rows → AllByRecursion (λ x. is_row prog vers netid x ≡ true → x ≡ row) rows
  none-apart row [] is apart = tt
  none-apart row (other ∷ rows) is apart =
      (λ t. absurd (true≢false (sym (one-key prog vers netid row other is t) ∙ apart.0.there)), none-apart row rows is apart.1)

  pub only-one : (rows : List Row) (row : Row) → Distinct rows → find (is_row prog vers netid) rows ≡ Some row → AllByRecursion (λ x. is_row prog vers netid x ≡ true → x ≡ row) rows
  only-one [] row d e = tt
  only-one (first ∷ rows) row d e = by_test (is_row prog vers netid first) refl e (only-one rows row d.1)
    where
      by_test : (b : Bool) → is_row prog vers netid first ≡ b → cond b (Some first) (find (is_row prog vers netid) rows) ≡ Some row
          → (find (is_row prog vers netid) rows ≡ Some row → AllByRecursion (λ x. is_row prog vers netid x ≡ true → x ≡ row) rows)
          → (is_row prog vers netid first ≡ true → first ≡ row) × AllByRecursion (λ x. is_row prog vers netid x ≡ true → x ≡ row) rows
      by_test true is e more =
          let same : first ≡ row = cc e in
          (λ t. same, subst (λ (r : Row). AllByRecursion (λ x. is_row prog vers netid x ≡ true → x ≡ r) rows) same (none-apart first rows is d.0))
      by_test false is e more = (λ t. absurd (true≢false (sym t ∙ is)), more e)

apart-kept : (g : Row → Bool) (row : Row) (rows : List Row) → Apart row rows → Apart row (filter g rows)
apart-kept g row [] apart = tt
apart-kept g row (other ∷ rows) apart = by_test (g other) (apart-kept g row rows apart.1)
  where
    by_test : (b : Bool) → Apart row (filter g rows) → Apart row (cond b (other ∷ filter g rows) (filter g rows))
    by_test true more = (apart.0, more)
    by_test false more = more

pub distinct-kept : (g : Row → Bool) (rows : List Row) → Distinct rows → Distinct (filter g rows)
distinct-kept g [] d = tt
distinct-kept g (row ∷ rows) d = by_test (g row) (distinct-kept g rows d.1)
  where
    by_test : (b : Bool) → Distinct (filter g rows) → Distinct (cond b (row ∷ filter g rows) (filter g rows))
    by_test true more = (apart-kept g row rows d.0, more)
    by_test false more = more

-- ---- one of them goes

-- another key is not named
pub not-named-there : (prog vers : ℕ) (netid : Netid) (gone row : Row) → is_row prog vers netid gone ≡ false → is_row prog vers netid row ≡ true → is_named gone row ≡ false
not-named-there prog vers netid gone row other is = by_test (is_of_key row gone) refl
  where
    by_test : (b : Bool) → is_of_key row gone ≡ b → (b && is_same_owner gone.owner row.owner) ≡ false
    by_test true same = absurd (true≢false (sym (key-of prog vers netid row gone is same) ∙ other))
    by_test false same = refl

-- and a row of another key than the one that goes is not
pub not-named-else : (prog vers : ℕ) (netid : Netid) (gone row : Row) → is_row prog vers netid gone ≡ true → is_row prog vers netid row ≡ false → is_named gone row ≡ false
not-named-else prog vers netid gone row is other = by_test (is_of_key row gone) refl
  where
    back : is_of_key row gone ≡ true → is_row prog vers netid row ≡ true
    back same =
        let k = has-key prog vers netid gone is in
        let l = has-key row.prog row.vers row.netid gone same in
        is-key prog vers netid row (sym l.prog ∙ k.prog) (sym l.vers ∙ k.vers) (ap (λ (n : Netid). is_netid n netid) (sym l.netid ∙ k.netid) ∙ same-netid-is netid)

    by_test : (b : Bool) → is_of_key row gone ≡ b → (b && is_same_owner gone.owner row.owner) ≡ false
    by_test true same = absurd (true≢false (sym (back same) ∙ other))
    by_test false same = refl

-- ---- the numbers of the owners

abbrev pub number-found : Option Row → Option ℕ
number-found found = option_map (λ row. owner_number row.owner) found

-- the rank of a row's key is that of another key if and only if the row has that
key-rank : (prog vers : ℕ) (netid : Netid) (row : Row) → HasKey prog vers netid row → vers < 2 ^ 32 → (p v : ℕ) (n : Netid) → v < 2 ^ 32 → eqb (rank prog netid vers) (rank p n v) ≡ is_row p v n row
key-rank prog vers netid row k small p v n little =
    let same : rank_of row ≡ rank prog netid vers = rw (k.prog, k.vers, k.netid) refl in
    ap (λ (m : ℕ). eqb m (rank p n v)) (sym same) ∙ sym (same_rank p v n row (omega (arith, k.vers, small)) little)

-- what is found of a key is found of the same key
same-key : (prog vers p v : ℕ) (netid n : Netid) (rows : List Row) (found : Option Row) → p ≡ prog → v ≡ vers → n ≡ netid → find (is_row prog vers netid) rows ≡ found → find (is_row p v n) rows ≡ found
same-key prog vers p v netid n rows found a b c e = rw (a, b, c) e

module _ (prog vers : ℕ) (netid : Netid) (small : vers < 2 ^ 32) (owners : List (ℕ × ℕ)) (rows : List Row) (are : AreOwners owners rows) where
  -- with a row more
  pub owners-more : (row : Row) → is_row prog vers netid row ≡ true → find_exact prog vers netid rows ≡ None → AreOwners (with_number owners (rank prog netid vers) (owner_number row.owner)) (rows ++ row ∷ [])
  unfolding find_exact
  owners-more row is none =
      let missing : value_at owners (rank prog netid vers) ≡ None = are.same prog vers netid small ∙ ap number-found none in
      record {
        rising = rising_with (rank prog netid vers) (owner_number row.owner) 0 owners are.rising (omega arith) missing;
        same = λ p v n little.
            value_at-with_number (rank prog netid vers) (owner_number row.owner) (rank p n v) owners missing
            ∙ ap (λ (b : Bool). cond b (Some (owner_number row.owner)) (value_at owners (rank p n v))) (key-rank prog vers netid row (has-key prog vers netid row is) small p v n little)
            ∙ by_test p v n little (is_row p v n row) refl
            ∙ ap number-found (sym (find-append (is_row p v n) rows (row ∷ [])));
      }
    where
      or-none : (o : Option Row) → option_or o None ≡ o
      or-none None = refl
      or-none (Some x) = refl

      by_test : (p v : ℕ) (n : Netid) → v < 2 ^ 32 → (b : Bool) → is_row p v n row ≡ b → cond b (Some (owner_number row.owner)) (value_at owners (rank p n v)) ≡ number-found (option_or (find (is_row p v n) rows) (cond b (Some row) None))
      by_test p v n little true here =
          let k = has-key prog vers netid row is in
          let l = has-key p v n row here in
          ap (λ (o : Option Row). number-found (option_or o (Some row))) (sym (same-key prog vers p v netid n rows None (sym l.prog ∙ k.prog) (sym l.vers ∙ k.vers) (sym l.netid ∙ k.netid) none))
      by_test p v n little false there = are.same p v n little ∙ ap number-found (sym (or-none (find (is_row p v n) rows)))

  -- without one
  pub owners-fewer : (row : Row) → Distinct rows → find_exact prog vers netid rows ≡ Some row → AreOwners (number_gone owners (rank prog netid vers)) (without row rows)
  unfolding find_exact without
  owners-fewer row d found = record {
    rising = rising_without (rank prog netid vers) 0 owners are.rising;
    same = λ p v n little.
        value_at-without owners (rank prog netid vers) (rank p n v) (distinct_rising 0 owners are.rising)
        ∙ ap (λ (b : Bool). cond b None (value_at owners (rank p n v))) (key-rank prog vers netid row (has-key prog vers netid row is) small p v n little)
        ∙ by_test p v n little (is_row p v n row) refl;
  }
    where
      is : is_row prog vers netid row ≡ true
      is = found-passes (is_row prog vers netid) rows row found

      named-all : (p v : ℕ) (n : Netid) → is_row p v n row ≡ true → (some : List Row) → AllByRecursion (λ x. is_row prog vers netid x ≡ true → x ≡ row) some → AllByRecursion (λ x. is_row p v n x ≡ true → not (is_named row x) ≡ false) some
      named-all p v n here [] only = tt
      named-all p v n here (x ∷ some) only =
          let k = has-key prog vers netid row is in
          let l = has-key p v n row here in (
            λ t.
                let m = has-key p v n x t in
                let x-is : is_row prog vers netid x ≡ true = is-key prog vers netid x (m.prog ∙ sym l.prog ∙ k.prog) (m.vers ∙ sym l.vers ∙ k.vers) (ap (λ (n : Netid). is_netid n netid) (m.netid ∙ sym l.netid ∙ k.netid) ∙ same-netid-is netid) in
                ap (λ (y : Row). not (is_named row y)) (only.0 x-is) ∙ ap not (itself row),
            named-all p v n here some only.1,
          )

      by_test : (p v : ℕ) (n : Netid) → v < 2 ^ 32 → (b : Bool) → is_row p v n row ≡ b → cond b None (value_at owners (rank p n v)) ≡ number-found (find (is_row p v n) (filter (λ x. not (is_named row x)) rows))
      by_test p v n little true here =
          ap number-found (sym (no-kept (is_row p v n) (λ x. not (is_named row x)) rows (named-all p v n here rows (only-one prog vers netid rows row d found))))
      by_test p v n little false there =
          are.same p v n little
          ∙ ap number-found (sym (kept-found (is_row p v n) (λ x. not (is_named row x)) (λ x t. ap not (not-named-there p v n row x there t)) rows))
