-- Whose the rows of reserved programs are.
use Rattle.std.specs.Prelude.{Any, ◌==◌, nat_le, not, ◌||◌}
use Rattle.std.specs.List.{list_any}
use Rattle.std.proofs.Common.{◌≡◌, ◌≤◌, ℕ, Bool, true, false, ◌&&◌, ◌⊎◌, inl, inr, List, refl, sym, ap, ◌∙◌, true≢false}
use Rattle.std.proofs.lemmas.Bool.{and_parts, and_from, eqb-true, eq-eqb, leb-true, le-leb}
use Rattle.std.proofs.lemmas.List.Folds.{Any-from_list_any, list_any-from_Any}
use Rattle.rb_address.specs.declared.who.Owner.{Owner}
use Rattle.rb_address.specs.declared.who.Owner.TheVariants.{Unknown, Uid}
use Rattle.rb_registry.specs.declared.row.Row.{Row}
use Rattle.rb_answers.specs.declared.reserved.Reservation.{Reservation}
use Rattle.rb_answers.specs.Reserved.{is_covered, is_reserved, is_reserved_by, is_its_owner, may_own}
use Rattle.rb_promises.specs.Sets.{Covers, IsReservedFor, IsItsOwners}

any_also : {X : Type 0} (P Q : X → Type 0) → ((x : X) → P x → Q x) → (xs : List X) → Any P xs → Any Q xs
any_also P Q also xs (k, x, low, at, holds) = (k, x, low, at, also x holds)

covered_is : (prog : ℕ) (r : Reservation) → is_covered prog r ≡ true → Covers prog r
covered_is prog r e = let parts = and_parts _ _ e in record { from = leb-true _ _ parts.0; to = leb-true _ _ parts.1 }

covered_of : (prog : ℕ) (r : Reservation) → Covers prog r → is_covered prog r ≡ true
covered_of prog r c = and_from _ _ (le-leb _ _ c.from) (le-leb _ _ c.to)

by_is : (prog uid : ℕ) (r : Reservation) → is_reserved_by prog uid r ≡ true → Covers prog r × (Uid uid ≡ Uid r.uid)
by_is prog uid r e =
    let parts = and_parts _ _ e in
    (covered_is prog r parts.0, ap (λ (n : ℕ). Uid n) (sym (eqb-true r.uid uid parts.1)))

or_true : (b : Bool) → (b || true) ≡ true
or_true true = refl
or_true false = refl

abbrev uid_or : ℕ → Owner → ℕ
uid_or other Unknown = other
uid_or other (Uid uid) = uid

same_uid : (a b : ℕ) → Uid a ≡ Uid b → a ≡ b
same_uid a b e = ap (uid_or a) e

module _ (reserved : List Reservation) (row : Row) where
  reserved_is : Any (Covers row.prog) reserved → is_reserved reserved row.prog ≡ true
  reserved_is some = list_any-from_Any (is_covered row.prog) reserved (any_also _ _ (covered_of row.prog) reserved some)

  pub owned_is : may_own reserved row ≡ true → IsItsOwners reserved row
  unfolding may_own
  owned_is may some = by_owner row.owner refl (owner_may (is_reserved reserved row.prog) (is_its_owner reserved row.prog row.owner) (reserved_is some) may)
    where
      owner_may : (a b : Bool) → a ≡ true → (not a || b) ≡ true → b ≡ true
      owner_may true b e h = h
      owner_may false b e h = absurd cc

      by_uid : (uid : ℕ) (a b : Bool) → (uid == 0) ≡ a → list_any (is_reserved_by row.prog uid) reserved ≡ b → (a || b) ≡ true → (Uid uid ≡ Uid 0) ⊎ IsReservedFor reserved row.prog (Uid uid)
      by_uid uid true b root theirs h = inl (ap (λ (n : ℕ). Uid n) (eqb-true uid 0 root))
      by_uid uid false true root theirs h = inr (any_also _ _ (by_is row.prog uid) reserved (Any-from_list_any (is_reserved_by row.prog uid) reserved theirs))
      by_uid uid false false root theirs h = absurd cc

      by_owner : (owner : Owner) → row.owner ≡ owner → is_its_owner reserved row.prog row.owner ≡ true → (row.owner ≡ Uid 0) ⊎ IsReservedFor reserved row.prog row.owner
      by_owner Unknown is h = absurd (true≢false (sym (rw is at h)))
      by_owner (Uid uid) is h = rw is (by_uid uid (uid == 0) (list_any (is_reserved_by row.prog uid) reserved) refl refl (rw is at h))

  pub owned_of : IsItsOwners reserved row → may_own reserved row ≡ true
  unfolding may_own
  owned_of its = by_test (is_reserved reserved row.prog) refl
    where
      same_owner : (uid : ℕ) (r : Reservation) → Covers row.prog r × (Uid uid ≡ Uid r.uid) → is_reserved_by row.prog uid r ≡ true
      same_owner uid r p = and_from _ _ (covered_of row.prog r p.0) (eq-eqb r.uid uid (sym (same_uid _ _ p.1)))

      owner_may : (owner : Owner) → (owner ≡ Uid 0) ⊎ IsReservedFor reserved row.prog owner → is_its_owner reserved row.prog owner ≡ true
      owner_may owner (inl root) = rw root refl
      owner_may Unknown (inr (k, r, low, at, holds)) = let is = holds.1 in absurd cc
      owner_may (Uid uid) (inr some) = rw (list_any-from_Any (is_reserved_by row.prog uid) reserved (any_also _ _ (same_owner uid) reserved some)) (or_true (uid == 0))

      by_test : (b : Bool) → is_reserved reserved row.prog ≡ b → (not b || is_its_owner reserved row.prog row.owner) ≡ true
      by_test false is = refl
      by_test true is = owner_may row.owner (its (any_also _ _ (covered_is row.prog) reserved (Any-from_list_any (is_covered row.prog) reserved is)))
