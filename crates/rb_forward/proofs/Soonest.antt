-- The next deadline of entries, by their slots.
use Rattle.std.specs.List.{AllZip}
use Rattle.std.proofs.Common.{◌≡◌, ℕ, min, List, [], ◌∷◌, map, Option, Some, None, refl, sym, ◌∙◌, arith}
use Rattle.std.proofs.lemmas.Grind.{common_steps}
use Rattle.rb_forward.specs.declared.entries.Slot.{Slot}
use Rattle.rb_forward.specs.Forwards.{Entry}
use Rattle.rb_forward.specs.StandsFor.{StandsForEntry}
use Rattle.rb_forward.specs.Deadlines.{sooner_of, soonest_of, deadlines_of}

-- ---- the lesser of two

pub sooner_assoc : (a b c : Option ℕ) → sooner_of (sooner_of a b) c ≡ sooner_of a (sooner_of b c)
sooner_assoc None b c = refl
sooner_assoc (Some a) None c = refl
sooner_assoc (Some a) (Some b) None = refl
sooner_assoc (Some a) (Some b) (Some c) = let e : min (min a b) c ≡ min a (min b c) = omega arith in rw e refl

pub sooner_none : (a : Option ℕ) → sooner_of a None ≡ a
sooner_none None = refl
sooner_none (Some a) = refl

-- ---- a walk

module _ {A : Type 0} (deadline : A → Option ℕ) where
  -- the least of a moment that was found before, and of those that come
  abbrev pub soonest_from : Option ℕ → List A → Option ℕ
  soonest_from found [] = found
  soonest_from found (x ∷ xs) = soonest_from (sooner_of found (deadline x)) xs

  pub soonest_joined : (found : Option ℕ) (xs : List A) → soonest_from found xs ≡ sooner_of found (soonest_of (map deadline xs))
  soonest_joined found [] = sym (sooner_none found)
  soonest_joined found (x ∷ xs) = soonest_joined (sooner_of found (deadline x)) xs ∙ sooner_assoc found (deadline x) (soonest_of (map deadline xs))

  pub soonest_found : (xs : List A) (found : Option ℕ) → found ≡ soonest_from None xs → found ≡ soonest_of (map deadline xs)
  soonest_found xs found is = is ∙ soonest_joined None xs

-- ---- by the slots

pub deadlines_alike : (first_xid : ℕ) (slots : List Slot) (all : List Entry) → AllZip (StandsForEntry first_xid) slots all
    → map (λ (slot : Slot). Some slot.deadline) slots ≡ deadlines_of all
unfolding deadlines_of
deadlines_alike first_xid [] [] z = refl
deadlines_alike first_xid [] (e ∷ all) z = grind arith
deadlines_alike first_xid (slot ∷ slots) [] z = grind arith
deadlines_alike first_xid (slot ∷ slots) (e ∷ all) z = grind (arith, common_steps, deadlines_alike first_xid slots all)
