-- Rows of reserved programs are their owners'.
use Rattle.std.specs.Prelude.{All, drop}
use Rattle.std.specs.List.{list_all}
use Rattle.std.proofs.Common.{◌≡◌, ℕ, Bool, true, ◌||◌, Option, Some, None, List, [], ◌∷◌, ◌++◌, length, refl, sym, ap, ◌∙◌, subst, not, ◌&&◌, arith, length-append}
use Rattle.std.proofs.lemmas.Bool.{and_parts}
use Rattle.std.proofs.lemmas.List.Elements.{All-nil, All-cons, All-append}
use Rattle.std.proofs.Math.Seq.{drop-append_seam}
use Rattle.rb_address.specs.declared.who.Owner.{Owner}
use Rattle.rb_address.specs.declared.who.Owner.TheVariants.{Unknown, Uid}
use Rattle.rb_registry.specs.declared.row.Row.{Row}
use Rattle.rb_registry.specs.Rows.{Change}
use Rattle.rb_registry.specs.Rows.Change.{Added}
use Rattle.rb_answers.specs.declared.listener.Listener.{Listener}
use Rattle.rb_answers.specs.declared.reserved.Reservation.{Reservation}
use Rattle.rb_answers.specs.Callers.{own_inet6, own_inet, own_local, own_rows, is_superuser}
use Rattle.rb_answers.specs.Reserved.{is_reserved, is_its_owner, may_own}
use Rattle.rb_model.specs.State.{State}
use Rattle.rb_model.specs.Step.{Event, step, IsReached}
use Rattle.rb_model.specs.ChangeLaws.{MayBeMade, ChangesAtMostOnce, ReservedRowsAreSetByTheirOwners, ReservedRowsAreOwned, set_rows}
use Rattle.rb_model.specs.ChangeLaws.ChangesAtMostOnce.{Same, OneMore}
use Rattle.rb_laws.proofs.Changes.{at-most-once}
use Rattle.rb_laws.proofs.Ledgers.{ledgers_are_well_kept}
use Rattle.rb_laws.proofs.Restoring.{set_rows_are_owned}

-- ---- the row that an event adds

none-appended : (changes : List Change) (change : Change) → changes ≡ changes ++ change ∷ [] → ⊥
none-appended changes change e =
    let longer = length-append changes (change ∷ []) in
    let same : length changes ≡ length (changes ++ change ∷ []) = ap (λ (cs : List Change). length cs) e in
    omega (arith, longer, same)

abbrev first-or : Change → List Change → Change
first-or other [] = other
first-or other (change ∷ changes) = change

same-appended : (changes : List Change) (a b : Change) → changes ++ a ∷ [] ≡ changes ++ b ∷ [] → a ≡ b
same-appended changes a b e =
    ap (first-or a)
    (sym (drop-append_seam changes (a ∷ [])) ∙ ap (λ (cs : List Change). drop (length changes) cs) e ∙ drop-append_seam changes (b ∷ []))

pub reserved_rows_are_set_by_their_owners : ReservedRowsAreSetByTheirOwners
reserved_rows_are_set_by_their_owners s event row appended = by_change (at-most-once s event)
  where
    by_change : ChangesAtMostOnce s event → may_own s.setting.listener.reserved row ≡ true
    by_change (Same same) = absurd (none-appended s.ledger.changes (Added row) (sym same ∙ appended))
    by_change (OneMore change a) =
        (subst (MayBeMade s.setting.listener.reserved) (same-appended s.ledger.changes change (Added row) (sym a.appends ∙ appended)) a.may).1

-- ---- live rows

superuser-may : (reserved : List Reservation) (row : Row) → is_superuser row.owner ≡ true → may_own reserved row ≡ true
unfolding may_own
superuser-may reserved row is = by_test (is_reserved reserved row.prog) (is_its_owner reserved row.prog row.owner) (by_owner row.owner is)
  where
    by_owner : (owner : Owner) → is_superuser owner ≡ true → is_its_owner reserved row.prog owner ≡ true
    by_owner Unknown e = absurd cc
    by_owner (Uid uid) e = rw e refl

    by_test : (a b : Bool) → b ≡ true → (not a || b) ≡ true
    by_test a b e = grind arith

own-are-superusers : (listener : Listener) → list_all (λ (row : Row). is_superuser row.owner) (own_rows listener) ≡ true
unfolding own_rows
own-are-superusers listener = by_parts listener.announced.inet6 listener.announced.inet listener.local
  where
    by_parts : (inet6 inet local : Option (List ℕ)) → list_all (λ (row : Row). is_superuser row.owner) (own_inet6 listener.port inet6 ++ own_inet listener.port inet ++ own_local local) ≡ true
    by_parts None None None = refl
    by_parts None None (Some path) = refl
    by_parts None (Some host) None = refl
    by_parts None (Some host) (Some path) = refl
    by_parts (Some host6) None None = refl
    by_parts (Some host6) None (Some path) = refl
    by_parts (Some host6) (Some host) None = refl
    by_parts (Some host6) (Some host) (Some path) = refl

superusers-may : (reserved : List Reservation) (rows : List Row) → list_all (λ (row : Row). is_superuser row.owner) rows ≡ true → All (λ row. may_own reserved row ≡ true) rows
superusers-may reserved [] are = All-nil (λ row. may_own reserved row ≡ true)
superusers-may reserved (row ∷ rows) are =
    let parts = and_parts (is_superuser row.owner) (list_all (λ (r : Row). is_superuser r.owner) rows) are in
    All-cons (λ r. may_own reserved r ≡ true) row rows (superuser-may reserved row parts.0) (superusers-may reserved rows parts.1)

pub reserved_rows_are_owned : ReservedRowsAreOwned
reserved_rows_are_owned s r =
    let reserved = s.setting.listener.reserved in
    let own : All (λ row. may_own reserved row ≡ true) s.ledger.own =
    subst (λ (rows : List Row). All (λ row. may_own reserved row ≡ true) rows) (sym (ledgers_are_well_kept s r).own)
    (superusers-may reserved (own_rows s.setting.listener) (own-are-superusers s.setting.listener)) in
    All-append (λ row. may_own reserved row ≡ true) s.ledger.own (set_rows s) own (set_rows_are_owned s r)
