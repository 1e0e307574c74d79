-- Rows of which no two have one program, version and netid: one of them is taken out.
use Rattle.std.specs.Prelude.{filter, not}
use Rattle.std.specs.List.{list_any}
use Rattle.std.proofs.Common.{◌≡◌, ℕ, ◌==◌, Bool, true, false, cond, ◌&&◌, ◌||◌, List, [], ◌∷◌, ◌++◌, refl, sym, ap, ◌∙◌}
use Rattle.std.proofs.lemmas.Bool.{and_parts, eqb-true, eq-eqb, not-true}
use Rattle.rb_address.specs.declared.netid.Netid.{Netid}
use Rattle.rb_address.specs.declared.netid.Netid.TheVariants as netids
use Rattle.rb_address.specs.Netids.{is_netid}
use Rattle.rb_address.specs.declared.who.Owner.{Owner}
use Rattle.rb_address.specs.declared.who.Owner.TheVariants.{Unknown, Uid}
use Rattle.rb_registry.specs.declared.row.Row.{Row}
use Rattle.rb_registry.specs.Rows.{is_on, is_row, is_of_key, are_distinct}
use Rattle.rb_address.specs.Callers.{is_same_owner}
use Rattle.rb_keep.specs.Reading.{is_named, without}
use mathlib.Core.Bool.{true≢false}

-- ---- keys

-- of two rows neither has the key of the other
pub record IsApart (row other : Row) : Type 0 where
  pub there : is_of_key row other ≡ false
  pub back : is_of_key other row ≡ false

abbrev pub Apart : Row → List Row → Type 0
Apart row [] = Unit {0}
Apart row (other ∷ rows) = IsApart row other × Apart row rows

abbrev pub Distinct : List Row → Type 0
Distinct [] = Unit {0}
Distinct (row ∷ rows) = Apart row rows × Distinct rows

same-number : (n : ℕ) → (n == n) ≡ true
same-number n = eq-eqb n n refl

swapped-number : (m n : ℕ) → (m == n) ≡ (n == m)
swapped-number m n = by_tests (m == n) (n == m) refl refl
  where
    by_tests : (a b : Bool) → (m == n) ≡ a → (n == m) ≡ b → a ≡ b
    by_tests true true e f = refl
    by_tests false false e f = refl
    by_tests true false e f = absurd (true≢false (sym (eq-eqb n m (sym (eqb-true m n e))) ∙ f))
    by_tests false true e f = absurd (true≢false (sym (eq-eqb m n (sym (eqb-true n m f))) ∙ e))

swapped-netid : (a b : Netid) → is_netid a b ≡ is_netid b a
unfolding is_netid
swapped-netid netids.Tcp netids.Tcp = refl
swapped-netid netids.Tcp netids.Udp = refl
swapped-netid netids.Tcp netids.Tcp6 = refl
swapped-netid netids.Tcp netids.Udp6 = refl
swapped-netid netids.Tcp netids.Local = refl
swapped-netid netids.Udp netids.Tcp = refl
swapped-netid netids.Udp netids.Udp = refl
swapped-netid netids.Udp netids.Tcp6 = refl
swapped-netid netids.Udp netids.Udp6 = refl
swapped-netid netids.Udp netids.Local = refl
swapped-netid netids.Tcp6 netids.Tcp = refl
swapped-netid netids.Tcp6 netids.Udp = refl
swapped-netid netids.Tcp6 netids.Tcp6 = refl
swapped-netid netids.Tcp6 netids.Udp6 = refl
swapped-netid netids.Tcp6 netids.Local = refl
swapped-netid netids.Udp6 netids.Tcp = refl
swapped-netid netids.Udp6 netids.Udp = refl
swapped-netid netids.Udp6 netids.Tcp6 = refl
swapped-netid netids.Udp6 netids.Udp6 = refl
swapped-netid netids.Udp6 netids.Local = refl
swapped-netid netids.Local netids.Tcp = refl
swapped-netid netids.Local netids.Udp = refl
swapped-netid netids.Local netids.Tcp6 = refl
swapped-netid netids.Local netids.Udp6 = refl
swapped-netid netids.Local netids.Local = refl

swapped-key : (a b : Row) → is_of_key a b ≡ is_of_key b a
unfolding is_on is_row
swapped-key a b = rw (swapped-number b.prog a.prog, swapped-netid b.netid a.netid, swapped-number b.vers a.vers) refl

or-false : (a b : Bool) → (a || b) ≡ false → (a ≡ false) × (b ≡ false)
or-false true b e = absurd (true≢false e)
or-false false b e = (refl, e)

apart-from : (row : Row) (rows : List Row) → list_any (is_of_key row) rows ≡ false → Apart row rows
apart-from row [] e = tt
apart-from row (other ∷ rows) e =
    let parts = or-false (is_of_key row other) (list_any (is_of_key row) rows) e in
    (record { there = parts.0; back = swapped-key other row ∙ parts.0 }, apart-from row rows parts.1)

pub distinct-from : (rows : List Row) → are_distinct rows ≡ true → Distinct rows
distinct-from [] e = tt
distinct-from (row ∷ rows) e =
    let parts = and_parts (not (list_any (is_of_key row) rows)) (are_distinct rows) e in
    (apart-from row rows (not-true (list_any (is_of_key row) rows) parts.0), distinct-from rows parts.1)

pub distinct-behind : (own rows : List Row) → are_distinct (own ++ rows) ≡ true → are_distinct rows ≡ true
distinct-behind [] rows e = e
distinct-behind (row ∷ own) rows e = distinct-behind own rows (and_parts (not (list_any (is_of_key row) (own ++ rows))) (are_distinct (own ++ rows)) e).1

-- ---- one is taken out

same-netid : (a : Netid) → is_netid a a ≡ true
unfolding is_netid
same-netid netids.Tcp = refl
same-netid netids.Udp = refl
same-netid netids.Tcp6 = refl
same-netid netids.Udp6 = refl
same-netid netids.Local = refl

same-owner : (a : Owner) → is_same_owner a a ≡ true
same-owner Unknown = refl
same-owner (Uid uid) = same-number uid

pub itself : (row : Row) → is_named row row ≡ true
unfolding is_on is_row
itself row = rw (same-number row.prog, same-netid row.netid, same-number row.vers, same-owner row.owner) refl

not-named : (gone row : Row) → is_of_key row gone ≡ false → is_named gone row ≡ false
not-named gone row e = ap (λ (b : Bool). b && is_same_owner gone.owner row.owner) e

-- none of these is taken out
all-stay : (gone : Row) (rows : List Row) → Apart gone rows → without gone rows ≡ rows
unfolding without
all-stay gone [] apart = refl
all-stay gone (row ∷ rows) apart =
    ap (λ (b : Bool). cond (not b) (row ∷ without gone rows) (without gone rows)) (not-named gone row apart.0.back)
    ∙ ap (λ (more : List Row). row ∷ more) (all-stay gone rows apart.1)

pub apart-one : (row gone : Row) (front more : List Row) → Apart row (front ++ gone ∷ more) → IsApart row gone
apart-one row gone [] more apart = apart.0
apart-one row gone (first ∷ front) more apart = apart-one row gone front more apart.1

apart-rest : (row gone : Row) (front more : List Row) → Apart row (front ++ gone ∷ more) → Apart row (front ++ more)
apart-rest row gone [] more apart = apart.1
apart-rest row gone (first ∷ front) more apart = (apart.0, apart-rest row gone front more apart.1)

pub still-distinct : (front : List Row) (gone : Row) (more : List Row) → Distinct (front ++ gone ∷ more) → Distinct (front ++ more)
still-distinct [] gone more d = d.1
still-distinct (row ∷ front) gone more d = (apart-rest row gone front more d.0, still-distinct front gone more d.1)

pub taken-out : (front : List Row) (gone : Row) (more : List Row) → Distinct (front ++ gone ∷ more) → without gone (front ++ gone ∷ more) ≡ front ++ more
unfolding without
taken-out [] gone more d =
    ap (λ (b : Bool). cond (not b) (gone ∷ without gone more) (without gone more)) (itself gone) ∙ all-stay gone more d.0
taken-out (row ∷ front) gone more d =
    ap (λ (b : Bool). cond (not b) (row ∷ without gone (front ++ gone ∷ more)) (without gone (front ++ gone ∷ more))) (not-named gone row (apart-one row gone front more d.0).there)
    ∙ ap (λ (rows : List Row). row ∷ rows) (taken-out front gone more d.1)
