-- Connections whose replies waited go on, one after another.
use Rattle.std.specs.Prelude.{slice_get}
use Rattle.std.proofs.Common.{◌≡◌, ◌≢◌, ◌<◌, ◌≤◌, ◌+◌, ℕ, zero, suc, List, [], ◌∷◌, length, get_or, set, drop, refl, ap, ◌∙◌}
use Rattle.std.proofs.lemmas.List.{drop_more, drop_all}
use Rattle.rb_links.specs.declared.places.Places.{Places}
use Rattle.rb_around.specs.declared.held.HeldLink.{HeldLink}
use Rattle.rb_around.specs.Turning.{ServesOnly, ServesEach}

-- what is written at one place is not found at others
pub others_stay : {X : Type 0} (xs : List X) (k : ℕ) (x : X) (other : ℕ) → other ≢ k → slice_get (set xs k x) other ≡ slice_get xs other
others_stay [] k x other apart = refl
others_stay (y ∷ ys) zero x zero apart = absurd (apart refl)
others_stay (y ∷ ys) zero x (suc other) apart = refl
others_stay (y ∷ ys) (suc k) x zero apart = refl
others_stay (y ∷ ys) (suc k) x (suc other) apart = others_stay ys k x other (λ same. apart (ap suc same))

pub each_more : (all : List HeldLink) (i : ℕ) (none : HeldLink) (start cur next : Places) → i < length all → ((x : Places) → ServesEach (drop i all) cur x → ServesEach all start x) → ServesOnly (get_or all i none).key cur next
    → (x : Places) → ServesEach (drop (i + 1) all) next x → ServesEach all start x
unfolding ServesEach
each_more all i none start cur next here so goes_on x rest = so x (rw (drop_more all i none here) (record { mid = next; before = goes_on; after = rest }))

pub each_done : (all : List HeldLink) (i : ℕ) (start cur : Places) → length all ≤ i → ((x : Places) → ServesEach (drop i all) cur x → ServesEach all start x) → ServesEach all start cur
unfolding ServesEach
each_done all i start cur over so = so cur (rw (drop_all i all over) refl)
