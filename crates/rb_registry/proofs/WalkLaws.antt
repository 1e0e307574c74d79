-- Whole walks give the rows as they were.
use Rattle.std.proofs.Common.{◌≡◌, ℕ, suc, ◌+◌, add-one, Option, Some, List, [], ◌∷◌, drop, refl, sym, ap, ◌∙◌, arith}
use Rattle.std.specs.Prelude.{slice_get}
use Rattle.std.proofs.Math.Seq.{drop-cons}
use Rattle.std.proofs.lemmas.List.{drop_all}
use Rattle.std.proofs.lemmas.Option.{slice_get_within, get_or_from_slice_get}
use Rattle.rb_registry.specs.declared.row.Row.{Row}
use Rattle.rb_registry.specs.Registry.{Registry, rows_at, rows_passed}
use Rattle.rb_registry.specs.Cursors.{StandsIn}
use Rattle.rb_registry.specs.Walks.{WalkStep, rows_given, IsWalk, WalksGiveRowsAsTheyWere}
use Rattle.rb_registry.specs.Walks.WalkStep.{Given, Changed}

-- the rows after a place begin with the one that is there
drop_at : {A : Type 0} (xs : List A) (n : ℕ) (x : A) → slice_get xs n ≡ Some x → drop n xs ≡ x ∷ drop (n + 1) xs
drop_at {A} xs n x h = rw add-one (drop-cons xs n x (slice_get_within xs n x h) ∙ ap (λ (y : A). y ∷ drop (suc n) xs) (get_or_from_slice_get xs n x x h))

-- what a walk gives from here on are the rows after its cursor
rest_given : (stamp : ℕ) (kept : Registry) (cursor : Option ℕ) (steps : List WalkStep) → StandsIn kept stamp cursor → IsWalk stamp kept cursor steps
    → rows_given steps ≡ drop (rows_passed kept stamp cursor) (rows_at kept stamp)
rest_given stamp kept cursor [] st w = sym (drop_all (rows_passed kept stamp cursor) (rows_at kept stamp) (omega (arith, w)))
rest_given stamp kept cursor (Given next row ∷ later) st w =
    let gives = w.0 in
    ap (λ (rows : List Row). row ∷ rows) (rest_given stamp kept next later gives.place w.1 ∙ ap (λ (n : ℕ). drop n (rows_at kept stamp)) gives.passed)
    ∙ sym (drop_at (rows_at kept stamp) (rows_passed kept stamp cursor) row gives.here)
rest_given stamp kept cursor (Changed new ∷ later) st w =
    let goes = w.0 in
    let above = w.1 in
    rest_given stamp new cursor later (goes.place stamp cursor above st) w.2
    ∙ rw (goes.passed stamp cursor above st, goes.rows stamp above st.reached.made) refl

pub walks_give_rows : WalksGiveRowsAsTheyWere
walks_give_rows own changes kept stamp cursor steps h st none w =
    rest_given stamp kept cursor steps st w ∙ ap (λ (n : ℕ). drop n (rows_at kept stamp)) none ∙ h.past stamp st.reached
