-- The place at which a caller counts is the first that fits.
use Rattle.std.proofs.Common.{◌≡◌, ◌<◌, ◌≤◌, ◌+◌, ◌∙◌, ℕ, zero, suc, Bool, true, false, not, cond, if◌then◌else◌, ◌||◌, nat_lt, Option, Some, None, [], ◌∷◌, length, get_or, set, refl, sym, ap, arith}
use Rattle.std.specs.Prelude.{position}
use Rattle.std.specs.List.{position_or_len}
use Rattle.std.proofs.lemmas.Bool.Decides.{nat_tests}
use Rattle.std.proofs.lemmas.Option.{none-some, same_Some}
use Rattle.rb_policy.specs.declared.caller_rate.LogCaller.{LogCaller}
use Rattle.rb_policy.specs.declared.caller_rate.Count.{Count}
use Rattle.rb_policy.specs.declared.caller_rate.CallerCount.{CallerCount}
use Rattle.rb_policy.specs.declared.caller_rate.CallerRate.{CallerRate}
use Rattle.rb_policy.specs.CallerRates.{Places, fits, count_in, counted, count_of, with_count, has_place, rate_by}

module _ (caller : LogCaller) where
  abbrev first : Places → ℕ
  first places = position_or_len (fits caller) places

  -- what is at the first place that fits
  pub count_there : (others : Count) (places : Places) (i : ℕ) → first places ≡ i → i < length places → count_of caller others places ≡ count_in (get_or places i None)
  count_there others [] i is lt = absurd (omega (arith, lt))
  count_there others (place ∷ more) i is lt = split (fits caller place) i is lt (λ j. count_there others more j)
    where
      split : (b : Bool) (i : ℕ) → cond (not b) (1 + first more) 0 ≡ i → i < suc (length more)
          → ((j : ℕ) → first more ≡ j → j < length more → count_of caller others more ≡ count_in (get_or more j None))
          → cond b (count_in place) (count_of caller others more) ≡ count_in (get_or (place ∷ more) i None)
      split true i is lt rest = ap (λ (k : ℕ). count_in (get_or (place ∷ more) k None)) is
      split false zero is lt rest = absurd (omega (arith, is))
      split false (suc j) is lt rest = rest j (omega (arith, is)) (omega (arith, lt))

  pub count_nowhere : (others : Count) (places : Places) → length places ≤ first places → count_of caller others places ≡ others
  count_nowhere others [] none = refl
  count_nowhere others (place ∷ more) none = split (fits caller place) none (λ rest. count_nowhere others more rest)
    where
      split : (b : Bool) → suc (length more) ≤ cond (not b) (1 + first more) 0
          → (length more ≤ first more → count_of caller others more ≡ others)
          → cond b (count_in place) (count_of caller others more) ≡ others
      split true none rest = absurd (omega (arith, none))
      split false none rest = rest (omega (arith, none))

  pub with_there : (count : Count) (places : Places) (i : ℕ) → first places ≡ i → i < length places → with_count caller count places ≡ set places i (Some (record { caller = caller; count = count }))
  with_there count [] i is lt = absurd (omega (arith, lt))
  with_there count (place ∷ more) i is lt = split (fits caller place) i is lt (λ j. with_there count more j)
    where
      here : Option CallerCount
      here = Some (record { caller = caller; count = count })

      split : (b : Bool) (i : ℕ) → cond (not b) (1 + first more) 0 ≡ i → i < suc (length more)
          → ((j : ℕ) → first more ≡ j → j < length more → with_count caller count more ≡ set more j here)
          → cond b (here ∷ more) (place ∷ with_count caller count more) ≡ set (place ∷ more) i here
      split true i is lt rest = ap (λ (k : ℕ). set (place ∷ more) k here) is
      split false zero is lt rest = absurd (omega (arith, is))
      split false (suc j) is lt rest = ap (λ (places : Places). place ∷ places) (rest j (omega (arith, is)) (omega (arith, lt)))

  pub is_there : (places : Places) → has_place caller places ≡ nat_lt (first places) (length places)
  is_there [] = refl
  is_there (place ∷ more) = split (fits caller place) (is_there more)
    where
      next : (n k : ℕ) → nat_lt n k ≡ nat_lt (1 + n) (suc k)
      next n k = grind (arith, nat_tests)

      split : (b : Bool) → has_place caller more ≡ nat_lt (first more) (length more) → (b || has_place caller more) ≡ nat_lt (cond (not b) (1 + first more) 0) (suc (length more))
      split true rest = grind (arith, nat_tests)
      split false rest = rest ∙ next (first more) (length more)

-- ---- of a rate

place_is : (n len i : ℕ) → Some i ≡ cond (nat_lt n len) (Some n) None → (n ≡ i) × (i < len)
place_is n len i is = split (nat_lt n len) refl is
  where
    split : (b : Bool) → nat_lt n len ≡ b → Some i ≡ cond b (Some n) None → (n ≡ i) × (i < len)
    split true lt is = let same : n ≡ i = sym (same_Some i n is) in (same, grind (arith, nat_tests, lt, same))
    split false lt is = absurd (none-some i (sym is))

no_place_is : (n len : ℕ) → None ≡ cond (nat_lt n len) (Some n) None → len ≤ n
no_place_is n len is = split (nat_lt n len) refl is
  where
    split : (b : Bool) → nat_lt n len ≡ b → None ≡ cond b (Some n) None → len ≤ n
    split true lt is = absurd (none-some n is)
    split false lt is = grind (arith, nat_tests, lt)

module _ (rate : CallerRate) (caller : LogCaller) where
  module _ (i : ℕ) (is : Some i ≡ position (fits caller) rate.places) where
    at : (first caller rate.places ≡ i) × (i < length rate.places)
    at = place_is (first caller rate.places) (length rate.places) i is

    pub count_found : count_of caller rate.others rate.places ≡ count_in (get_or rate.places i None)
    count_found = let here = at in count_there caller rate.others rate.places i here.0 here.1

    pub rate_found : (has_room : Bool) → rate_by rate caller has_room ≡ record rate { places = set rate.places i (Some (record { caller = caller; count = counted (count_in (get_or rate.places i None)) has_room })) }
    rate_found has_room =
        let here = at in
        let found : has_place caller rate.places ≡ true = is_there caller rate.places ∙ grind (arith, nat_tests, here) in
        ap (λ (b : Bool). let r : CallerRate = if b then record rate { places = with_count caller (counted (count_of caller rate.others rate.places) has_room) rate.places } else record rate { others = counted (count_of caller rate.others rate.places) has_room } in r) found
        ∙ ap (λ (k : Count). let r : CallerRate = record rate { places = with_count caller (counted k has_room) rate.places } in r) count_found
        ∙ ap (λ (ps : Places). let r : CallerRate = record rate { places = ps } in r) (with_there caller (counted (count_in (get_or rate.places i None)) has_room) rate.places i here.0 here.1)

  module _ (is : None ≡ position (fits caller) rate.places) where
    nowhere : length rate.places ≤ first caller rate.places
    nowhere = no_place_is (first caller rate.places) (length rate.places) is

    pub count_missed : count_of caller rate.others rate.places ≡ rate.others
    count_missed = count_nowhere caller rate.others rate.places nowhere

    pub rate_missed : (has_room : Bool) → rate_by rate caller has_room ≡ record rate { others = counted rate.others has_room }
    rate_missed has_room =
        let lacks : has_place caller rate.places ≡ false = is_there caller rate.places ∙ grind (arith, nat_tests, nowhere) in
        ap (λ (b : Bool). let r : CallerRate = if b then record rate { places = with_count caller (counted (count_of caller rate.others rate.places) has_room) rate.places } else record rate { others = counted (count_of caller rate.others rate.places) has_room } in r) lacks
        ∙ ap (λ (k : Count). let r : CallerRate = record rate { others = counted k has_room } in r) count_missed
