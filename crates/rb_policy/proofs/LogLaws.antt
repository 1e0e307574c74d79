-- What follows of how many lines of a kind a log gets in a second.
use Rattle.std.proofs.Common.{◌≡◌, ◌<◌, ◌≤◌, ◌+◌, ◌-◌, ◌*◌, ◌/◌, ◌^◌, ◌∙◌, ℕ, suc, Bool, true, false, cond, if◌then◌else◌, ◌&&◌, ◌||◌, min, List, [], ◌∷◌, length, Option, Some, None, replicate, refl, sym, ap, subst, arith}
use Rattle.std.specs.Prelude.{◌==◌, bytes_eq, sum_by}
use Rattle.std.proofs.lemmas.Option.{none-some, same_Some}
use Rattle.std.specs.List.{AllByRecursion}
use Rattle.std.proofs.lemmas.Bool.Decides.{nat_tests}
use Rattle.std.proofs.lemmas.Slice.Eq.{bytes_eq-Decides}
use Rattle.std.proofs.lemmas.List.Sums.{sum_by-cons}
use Rattle.rb_address.specs.declared.host.Host.{Host}
use Rattle.rb_address.specs.declared.host.Host.TheVariants.{V4, V6}
use Rattle.rb_address.specs.declared.who.Owner.{Owner}
use Rattle.rb_address.specs.declared.who.Owner.TheVariants.{Unknown, Uid}
use Rattle.rb_address.specs.Hosts.{is_same_host}
use Rattle.rb_policy.specs.declared.caller_rate.LogCaller.{LogCaller}
use Rattle.rb_address.specs.Callers.{is_same_owner}
use Rattle.rb_policy.specs.declared.caller_rate.LogCaller.TheVariants as callers
use Rattle.rb_policy.specs.declared.caller_rate.Count.{Count}
use Rattle.rb_policy.specs.declared.caller_rate.CallerCount.{CallerCount}
use Rattle.rb_policy.specs.declared.caller_rate.CallerRate.{CallerRate}
use Rattle.rb_policy.specs.CallerRates.{lines_a_second, own_counts, second_of, greatest, is_same_caller, gets, counted, Places, fits, count_in, count_of, with_count, has_place, left_out_in, left_out_of, rate_new, rate_at, rate_by, rate_after}
use Rattle.rb_policy.specs.LogLaws.{LineAsked, rate_then, lines_got, lines_of, has_own, count_for, FewOfASecond, FewInAll, NoneIsLost, OwnCountsAreApart, OwnersAndHostsAreApart, TheyAreToldThen}

-- ---- callers

same_owner : (a b : Owner) → is_same_owner a b ≡ true → a ≡ b
same_owner Unknown Unknown is = refl
same_owner Unknown (Uid b) is = grind (arith, is)
same_owner (Uid a) Unknown is = grind (arith, is)
same_owner (Uid a) (Uid b) is = let same : a ≡ b = grind (arith, nat_tests, is) in ap (λ (uid : ℕ). let o : Owner = Uid uid in o) same

same_host : (a b : Host) → is_same_host a b ≡ true → a ≡ b
same_host (V4 a) (V4 b) is = ap (λ (octets : List ℕ). let h : Host = V4 octets in h) ((bytes_eq-Decides a b).0 is)
same_host (V6 a) (V6 b) is = ap (λ (octets : List ℕ). let h : Host = V6 octets in h) ((bytes_eq-Decides a b).0 is)
same_host (V4 a) (V6 b) is = grind (arith, is)
same_host (V6 a) (V4 b) is = grind (arith, is)

same_caller : (a b : LogCaller) → is_same_caller a b ≡ true → a ≡ b
same_caller (callers.Owner a) (callers.Owner b) is = ap (λ (o : Owner). let c : LogCaller = callers.Owner o in c) (same_owner a b is)
same_caller (callers.Host a) (callers.Host b) is = ap (λ (h : Host). let c : LogCaller = callers.Host h in c) (same_host a b is)
same_caller (callers.Owner a) (callers.Host b) is = grind (arith, is)
same_caller (callers.Host a) (callers.Owner b) is = grind (arith, is)

same_bytes : (a : List ℕ) → bytes_eq a a ≡ true
same_bytes a = (bytes_eq-Decides a a).1 refl

itself : (a : LogCaller) → is_same_caller a a ≡ true
itself (callers.Owner Unknown) = refl
itself (callers.Owner (Uid a)) = grind (arith, nat_tests)
itself (callers.Host (V4 a)) = same_bytes a
itself (callers.Host (V6 a)) = same_bytes a

-- ---- one count

counted_few : (count : Count) (has_room : Bool) → count.written ≤ lines_a_second → (counted count has_room).written ≤ lines_a_second
counted_few count has_room few = grind (arith, nat_tests, few)

counted_one : (count : Count) (has_room : Bool) → (counted count has_room).written ≡ count.written + cond (gets count has_room) 1 0
counted_one count has_room = split (gets count has_room)
  where
    split : (b : Bool) → (let k : Count = if b then record count { written = count.written + 1 } else record count { left_out = min (count.left_out + 1) greatest } in k).written ≡ count.written + cond b 1 0
    split true = refl
    split false = omega arith

left_one : (count : Count) (has_room : Bool) → count.left_out + 1 < 2 ^ 64 → cond (gets count has_room) 1 0 + (counted count has_room).left_out ≡ count.left_out + 1
left_one count has_room small = split (gets count has_room)
  where
    split : (b : Bool) → cond b 1 0 + (let k : Count = if b then record count { written = count.written + 1 } else record count { left_out = min (count.left_out + 1) greatest } in k).left_out ≡ count.left_out + 1
    split true = omega arith
    split false = omega (arith, small)

-- ---- a caller's count

module _ (caller : LogCaller) where
  own : (others count : Count) (places : Places) → has_place caller places ≡ true → count_of caller others (with_count caller count places) ≡ count
  own others count [] has = grind (arith, has)
  own others count (place ∷ more) has = split (fits caller place) refl has (λ h. own others count more h)
    where
      split : (b : Bool) → fits caller place ≡ b → (b || has_place caller more) ≡ true → (has_place caller more ≡ true → count_of caller others (with_count caller count more) ≡ count)
          → count_of caller others (cond b (Some (record { caller = caller; count = count }) ∷ more) (place ∷ with_count caller count more)) ≡ count
      split true is has rest = ap (λ (t : Bool). cond t count (count_of caller others more)) (itself caller)
      split false is has rest = ap (λ (t : Bool). cond t (count_in place) (count_of caller others (with_count caller count more))) is ∙ rest has

  nowhere : (others : Count) (places : Places) → has_place caller places ≡ false → count_of caller others places ≡ others
  nowhere others [] has = refl
  nowhere others (place ∷ more) has = split (fits caller place) has (λ h. nowhere others more h)
    where
      split : (b : Bool) → (b || has_place caller more) ≡ false → (has_place caller more ≡ false → count_of caller others more ≡ others)
          → cond b (count_in place) (count_of caller others more) ≡ others
      split true has rest = grind (arith, has)
      split false has rest = rest has

  by_itself : (rate : CallerRate) (has_room : Bool) → count_for (rate_by rate caller has_room) caller ≡ counted (count_for rate caller) has_room
  by_itself rate has_room = split (has_place caller rate.places) refl
    where
      k : Count
      k = counted (count_for rate caller) has_room

      split : (b : Bool) → has_place caller rate.places ≡ b
          → count_for (if b then record rate { places = with_count caller k rate.places } else record rate { others = k }) caller ≡ k
      split true has = own rate.others k rate.places has
      split false has = nowhere k rate.places has

-- ---- a caller's count, as another one asks

module _ (caller other : LogCaller) (apart : is_same_caller other caller ≡ false) where
  -- whose is the other's is not the caller's
  not_its : (one : LogCaller) → is_same_caller one other ≡ true → is_same_caller one caller ≡ false
  not_its one is = subst (λ (c : LogCaller). is_same_caller c caller ≡ false) (sym (same_caller one other is)) apart

  -- no fewer were written
  no_less_there : (others count : Count) (places : Places) → (count_of caller others places).written ≤ (count_of caller others (with_count other count places)).written
  no_less_there others count [] = omega arith
  no_less_there others count (None ∷ more) = omega arith
  no_less_there others count (Some one ∷ more) = split (is_same_caller one.caller other) refl (no_less_there others count more)
    where
      here : Option CallerCount
      here = Some (record { caller = other; count = count })

      split : (b : Bool) → is_same_caller one.caller other ≡ b
          → (count_of caller others more).written ≤ (count_of caller others (with_count other count more)).written
          → (cond (is_same_caller one.caller caller) one.count (count_of caller others more)).written
          ≤ (count_of caller others (cond b (Some (record { caller = other; count = count }) ∷ more) (Some one ∷ with_count other count more))).written
      split true is rest =
          let old : is_same_caller one.caller caller ≡ false = not_its one.caller is in
          rw (old, apart) (omega arith)
      split false is rest = at (is_same_caller one.caller caller)
        where
          at : (b : Bool) → (cond b one.count (count_of caller others more)).written ≤ (cond b one.count (count_of caller others (with_count other count more))).written
          at true = omega arith
          at false = rest

  no_less_beside : (others count : Count) (places : Places) → others.written ≤ count.written → (count_of caller others places).written ≤ (count_of caller count places).written
  no_less_beside others count [] less = less
  no_less_beside others count (place ∷ more) less = split (fits caller place) (no_less_beside others count more less)
    where
      split : (b : Bool) → (count_of caller others more).written ≤ (count_of caller count more).written
          → (cond b (count_in place) (count_of caller others more)).written ≤ (cond b (count_in place) (count_of caller count more)).written
      split true rest = omega arith
      split false rest = rest

  by_another : (rate : CallerRate) (has_room : Bool) → (count_for rate caller).written ≤ (count_for (rate_by rate other has_room) caller).written
  by_another rate has_room = split (has_place other rate.places) refl
    where
      k : Count
      k = counted (count_for rate other) has_room

      split : (b : Bool) → has_place other rate.places ≡ b
          → (count_for rate caller).written ≤ (count_for (if b then record rate { places = with_count other k rate.places } else record rate { others = k }) caller).written
      split true has = no_less_there rate.others k rate.places
      split false has =
          let is : count_for rate other ≡ rate.others = nowhere other rate.others rate.places has in
          let one : k.written ≡ (count_for rate other).written + cond (gets (count_for rate other) has_room) 1 0 = counted_one (count_for rate other) has_room in
          let more : rate.others.written ≤ k.written = omega (arith, one, ap (λ (c : Count). c.written) is) in
          no_less_beside rate.others k rate.places more

  -- a count of its own stays
  own_stays : (others count : Count) (places : Places) → has_own caller places ≡ true
      → (has_own caller (with_count other count places) ≡ true) × (count_of caller others (with_count other count places) ≡ count_of caller others places)
  own_stays others count [] has = grind (arith, has)
  own_stays others count (None ∷ more) has = grind (arith, has)
  own_stays others count (Some one ∷ more) has = split (is_same_caller one.caller other) refl (is_same_caller one.caller caller) refl has (λ h. own_stays others count more h)
    where
      split : (b : Bool) → is_same_caller one.caller other ≡ b → (t : Bool) → is_same_caller one.caller caller ≡ t → (t || has_own caller more) ≡ true
          → (has_own caller more ≡ true → (has_own caller (with_count other count more) ≡ true) × (count_of caller others (with_count other count more) ≡ count_of caller others more))
          → (has_own caller (cond b (Some (record { caller = other; count = count }) ∷ more) (Some one ∷ with_count other count more)) ≡ true)
          × (count_of caller others (cond b (Some (record { caller = other; count = count }) ∷ more) (Some one ∷ with_count other count more)) ≡ cond t one.count (count_of caller others more))
      split true is true own has rest = absurd (grind (arith, own, not_its one.caller is))
      split true is false own has rest = (rw apart has, rw apart refl)
      split false is true own has rest = (rw own refl, rw own refl)
      split false is false own has rest = let stays = rest has in (rw own stays.0, rw own stays.1)

  stays_beside : (others count : Count) (places : Places) → has_own caller places ≡ true → count_of caller count places ≡ count_of caller others places
  stays_beside others count [] has = grind (arith, has)
  stays_beside others count (None ∷ more) has = grind (arith, has)
  stays_beside others count (Some one ∷ more) has = split (is_same_caller one.caller caller) has (λ h. stays_beside others count more h)
    where
      split : (t : Bool) → (t || has_own caller more) ≡ true → (has_own caller more ≡ true → count_of caller count more ≡ count_of caller others more)
          → cond t one.count (count_of caller count more) ≡ cond t one.count (count_of caller others more)
      split true has rest = refl
      split false has rest = rest has

  own_by_another : (rate : CallerRate) (has_room : Bool) → has_own caller rate.places ≡ true
      → (has_own caller (rate_by rate other has_room).places ≡ true) × (count_for (rate_by rate other has_room) caller ≡ count_for rate caller)
  own_by_another rate has_room has = split (has_place other rate.places)
    where
      k : Count
      k = counted (count_for rate other) has_room

      after : Bool → CallerRate
      after b = if b then record rate { places = with_count other k rate.places } else record rate { others = k }

      split : (b : Bool) → (has_own caller (after b).places ≡ true) × (count_for (after b) caller ≡ count_for rate caller)
      split true = own_stays rate.others k rate.places has
      split false = (has, stays_beside rate.others k rate.places has)

-- a caller for whom there is a place has a count of its own then
own_at_once : (caller : LogCaller) (count : Count) (places : Places) → has_place caller places ≡ true → has_own caller (with_count caller count places) ≡ true
own_at_once caller count [] has = grind (arith, has)
own_at_once caller count (None ∷ more) has = rw (itself caller) refl
own_at_once caller count (Some one ∷ more) has = split (is_same_caller one.caller caller) refl has (λ h. own_at_once caller count more h)
  where
    split : (b : Bool) → is_same_caller one.caller caller ≡ b → (b || has_place caller more) ≡ true → (has_place caller more ≡ true → has_own caller (with_count caller count more) ≡ true)
        → has_own caller (cond b (Some (record { caller = caller; count = count }) ∷ more) (Some one ∷ with_count caller count more)) ≡ true
    split true is has rest = rw (itself caller) refl
    split false is has rest = rw is (rest has)

-- ---- the second of a line

second_by : (rate : CallerRate) (caller : LogCaller) (has_room : Bool) → (rate_by rate caller has_room).second ≡ rate.second
second_by rate caller has_room = split (has_place caller rate.places)
  where
    k : Count
    k = counted (count_for rate caller) has_room

    split : (b : Bool) → (let r : CallerRate = if b then record rate { places = with_count caller k rate.places } else record rate { others = k } in r).second ≡ rate.second
    split true = refl
    split false = refl

same_second : (rate : CallerRate) (now : ℕ) → second_of now ≡ rate.second → rate_at rate now ≡ rate
same_second rate now is = let t : (second_of now == rate.second) ≡ true = grind (arith, nat_tests, is) in rw t refl

second_at : (rate : CallerRate) (now : ℕ) → second_of now ≡ (rate_at rate now).second
second_at rate now = split (second_of now == rate.second) refl
  where
    split : (b : Bool) → (second_of now == rate.second) ≡ b
        → second_of now ≡ (let r : CallerRate = if b then rate else record { second = second_of now; places = replicate own_counts None; others = record { written = 0; left_out = left_out_of rate } } in r).second
    split true is = grind (arith, nat_tests, is)
    split false is = refl

-- ---- few are written

abbrev AreFew : Places → Type 0
AreFew places = AllByRecursion (λ (place : Option CallerCount). (count_in place).written ≤ lines_a_second) places

record IsFew (rate : CallerRate) : Type 0 where
  others : rate.others.written ≤ lines_a_second
  places : AreFew rate.places

few_of : (caller : LogCaller) (others : Count) (places : Places) → others.written ≤ lines_a_second → AreFew places → (count_of caller others places).written ≤ lines_a_second
few_of caller others [] few all = few
few_of caller others (place ∷ more) few all = split (fits caller place) (few_of caller others more few all.1)
  where
    split : (b : Bool) → (count_of caller others more).written ≤ lines_a_second → (cond b (count_in place) (count_of caller others more)).written ≤ lines_a_second
    split true rest = all.0
    split false rest = rest

few_with : (caller : LogCaller) (count : Count) (places : Places) → count.written ≤ lines_a_second → AreFew places → AreFew (with_count caller count places)
few_with caller count [] few all = tt
few_with caller count (place ∷ more) few all = split (fits caller place) (few_with caller count more few all.1)
  where
    split : (b : Bool) → AreFew (with_count caller count more) → AreFew (cond b (Some (record { caller = caller; count = count }) ∷ more) (place ∷ with_count caller count more))
    split true rest = (few, all.1)
    split false rest = (all.0, rest)

few_by : (rate : CallerRate) (caller : LogCaller) (has_room : Bool) → IsFew rate → IsFew (rate_by rate caller has_room)
few_by rate caller has_room few = split (has_place caller rate.places)
  where
    k : Count
    k = counted (count_for rate caller) has_room

    k_few : k.written ≤ lines_a_second
    k_few = counted_few (count_for rate caller) has_room (few_of caller rate.others rate.places few.others few.places)

    split : (b : Bool) → IsFew (if b then record rate { places = with_count caller k rate.places } else record rate { others = k })
    split true = record { others = few.others; places = few_with caller k rate.places k_few few.places }
    split false = record { others = k_few; places = few.places }

few_free : AreFew (replicate own_counts None)
few_free = (omega arith, (omega arith, (omega arith, (omega arith, (omega arith, (omega arith, (omega arith, (omega arith, tt))))))))

few_at : (rate : CallerRate) (now : ℕ) → IsFew rate → IsFew (rate_at rate now)
few_at rate now few = split (second_of now == rate.second)
  where
    split : (b : Bool) → IsFew (if b then rate else record { second = second_of now; places = replicate own_counts None; others = record { written = 0; left_out = left_out_of rate } })
    split true = few
    split false = record { others = omega arith; places = few_free }

few_then : (rate : CallerRate) (before : List LineAsked) → IsFew rate → IsFew (rate_then rate before)
few_then rate [] few = few
few_then rate (line ∷ more) few = few_then (rate_after rate line.moment line.caller line.has_room) more (few_by (rate_at rate line.moment) line.caller line.has_room (few_at rate line.moment few))

-- one line in the second of the one before
one_step : (rate : CallerRate) (caller : LogCaller) (line : LineAsked) → (count_for rate caller).written + cond (is_same_caller line.caller caller && gets (count_for rate line.caller) line.has_room) 1 0 ≤ (count_for (rate_by rate line.caller line.has_room) caller).written
one_step rate caller line = split (is_same_caller line.caller caller) refl
  where
    split : (b : Bool) → is_same_caller line.caller caller ≡ b
        → (count_for rate caller).written + cond (b && gets (count_for rate line.caller) line.has_room) 1 0 ≤ (count_for (rate_by rate line.caller line.has_room) caller).written
    split true is = subst
        (λ (c : LogCaller). (count_for rate c).written + cond (gets (count_for rate line.caller) line.has_room) 1 0 ≤ (count_for (rate_by rate line.caller line.has_room) c).written)
        (same_caller line.caller caller is)
        (omega (arith, ap (λ (k : Count). k.written) (by_itself line.caller rate line.has_room), counted_one (count_for rate line.caller) line.has_room))
    split false is = omega (arith, by_another caller line.caller is rate line.has_room)

few : (asked : List LineAsked) (rate : CallerRate) (second : ℕ) (caller : LogCaller) → rate.second ≡ second → IsFew rate → AllByRecursion (λ (line : LineAsked). second_of line.moment ≡ second) asked
    → (count_for rate caller).written + lines_of caller rate asked ≤ lines_a_second
few [] rate second caller at all_few all = let within = few_of caller rate.others rate.places all_few.others all_few.places in omega (arith, within)
few (line ∷ more) rate second caller at all_few all =
    let here : rate_at rate line.moment ≡ rate = same_second rate line.moment (all.0 ∙ sym at) in
    let next : CallerRate = rate_by rate line.caller line.has_room in
    let rest : (count_for next caller).written + lines_of caller next more ≤ lines_a_second = few more next second caller (second_by rate line.caller line.has_room ∙ at) (few_by rate line.caller line.has_room all_few) all.1 in
    rw here (omega (arith, rest, one_step rate caller line))

-- whatever was asked for before
few_first : (asked : List LineAsked) (rate : CallerRate) (second : ℕ) (caller : LogCaller) → IsFew rate → AllByRecursion (λ (line : LineAsked). second_of line.moment ≡ second) asked → lines_of caller rate asked ≤ lines_a_second
few_first [] rate second caller all_few all = omega arith
few_first (line ∷ more) rate second caller all_few all =
    let start : CallerRate = rate_at rate line.moment in
    let is_second : start.second ≡ second = sym (second_at rate line.moment) ∙ all.0 in
    let again : rate_at start line.moment ≡ start = same_second start line.moment (second_at rate line.moment) in
    let whole : (count_for start caller).written + lines_of caller start (line ∷ more) ≤ lines_a_second = few (line ∷ more) start second caller is_second (few_at rate line.moment all_few) all in
    let same : lines_of caller start (line ∷ more) ≡ lines_of caller rate (line ∷ more) = ap (λ (r : CallerRate). cond (is_same_caller line.caller caller && gets (count_for r line.caller) line.has_room) 1 0 + lines_of caller (rate_by r line.caller line.has_room) more) again in
    omega (arith, whole, same)

new_few : IsFew rate_new
new_few = record { others = omega arith; places = few_free }

pub few_of_a_second : FewOfASecond
few_of_a_second before asked second caller all = few_first asked (rate_then rate_new before) second caller (few_then rate_new before new_few) all

-- ---- counts of their own

stays_own : (asked : List LineAsked) (rate : CallerRate) (caller : LogCaller) → has_own caller rate.places ≡ true
    → AllByRecursion (λ (line : LineAsked). (second_of line.moment ≡ rate.second) × (is_same_caller line.caller caller ≡ false)) asked
    → count_for (rate_then rate asked) caller ≡ count_for rate caller
stays_own [] rate caller has all = refl
stays_own (line ∷ more) rate caller has all =
    let here : rate_at rate line.moment ≡ rate = same_second rate line.moment all.0.0 in
    let next : CallerRate = rate_by rate line.caller line.has_room in
    let stays = own_by_another caller line.caller all.0.1 rate line.has_room has in
    let all_more = subst (λ (s : ℕ). AllByRecursion (λ (l : LineAsked). (second_of l.moment ≡ s) × (is_same_caller l.caller caller ≡ false)) more) (sym (second_by rate line.caller line.has_room)) all.1 in
    ap (λ (r : CallerRate). count_for (rate_then (rate_by r line.caller line.has_room) more) caller) here ∙ stays_own more next caller stays.0 all_more ∙ stays.1

own_first : (rate : CallerRate) (caller : LogCaller) (has_room : Bool) → has_place caller rate.places ≡ true → has_own caller (rate_by rate caller has_room).places ≡ true
own_first rate caller has_room has = rw has (own_at_once caller (counted (count_for rate caller) has_room) rate.places has)

pub own_counts_are_apart : OwnCountsAreApart
own_counts_are_apart = record {
  first = own_first;
  others = λ rate caller asked has all. stays_own asked rate caller has all;
}

pub owners_and_hosts_are_apart : OwnersAndHostsAreApart
owners_and_hosts_are_apart = record { hosts = λ log now host has_room. refl; owners = λ log now owner has_room. refl }

-- ---- of all callers

module _ (f : Count → ℕ) where
  abbrev of_all : Places → ℕ
  of_all places = sum_by (λ (place : Option CallerCount). f (count_in place)) places

  sum_with : (caller : LogCaller) (others count : Count) (places : Places) → has_place caller places ≡ true
      → of_all (with_count caller count places) + f (count_of caller others places) ≡ of_all places + f count
  sum_with caller others count [] has = grind (arith, has)
  sum_with caller others count (place ∷ more) has = split (fits caller place) has (λ h. sum_with caller others count more h)
    where
      at : Option CallerCount → ℕ
      at one = f (count_in one)

      split : (b : Bool) → (b || has_place caller more) ≡ true
          → (has_place caller more ≡ true → of_all (with_count caller count more) + f (count_of caller others more) ≡ of_all more + f count)
          → of_all (cond b (Some (record { caller = caller; count = count }) ∷ more) (place ∷ with_count caller count more)) + f (cond b (count_in place) (count_of caller others more)) ≡ of_all (place ∷ more) + f count
      split true has rest = omega (arith, sum_by-cons at place more, sum_by-cons at (Some (record { caller = caller; count = count })) more)
      split false has rest = omega (arith, rest has, sum_by-cons at place more, sum_by-cons at place (with_count caller count more))

abbrev written_in : Count → ℕ
written_in count = count.written

abbrev written : CallerRate → ℕ
written rate = rate.others.written + of_all written_in rate.places

written_by : (rate : CallerRate) (caller : LogCaller) (has_room : Bool) → written (rate_by rate caller has_room) ≡ written rate + cond (gets (count_for rate caller) has_room) 1 0
written_by rate caller has_room = split (has_place caller rate.places) refl
  where
    old : Count
    old = count_for rate caller

    k : Count
    k = counted old has_room

    one : k.written ≡ old.written + cond (gets old has_room) 1 0
    one = counted_one old has_room

    split : (b : Bool) → has_place caller rate.places ≡ b
        → written (if b then record rate { places = with_count caller k rate.places } else record rate { others = k }) ≡ written rate + cond (gets old has_room) 1 0
    split true has = omega (arith, one, sum_with written_in caller rate.others k rate.places has)
    split false has = omega (arith, one, ap (λ (c : Count). c.written) (nowhere caller rate.others rate.places has))

few_of_all : (places : Places) → AreFew places → of_all written_in places ≤ lines_a_second * length places
few_of_all [] all = omega arith
few_of_all (place ∷ more) all = omega (arith, few_of_all more all.1, all.0, sum_by-cons (λ (one : Option CallerCount). (count_in one).written) place more)

count_with : (caller : LogCaller) (count : Count) (places : Places) → length (with_count caller count places) ≡ length places
count_with caller count [] = refl
count_with caller count (place ∷ more) = split (fits caller place) (count_with caller count more)
  where
    split : (b : Bool) → length (with_count caller count more) ≡ length more → length (cond b (Some (record { caller = caller; count = count }) ∷ more) (place ∷ with_count caller count more)) ≡ suc (length more)
    split true rest = refl
    split false rest = omega (arith, rest)

count_by : (rate : CallerRate) (caller : LogCaller) (has_room : Bool) → length (rate_by rate caller has_room).places ≡ length rate.places
count_by rate caller has_room = split (has_place caller rate.places)
  where
    k : Count
    k = counted (count_for rate caller) has_room

    split : (b : Bool) → length (let r : CallerRate = if b then record rate { places = with_count caller k rate.places } else record rate { others = k } in r).places ≡ length rate.places
    split true = count_with caller k rate.places
    split false = refl

count_at : (rate : CallerRate) (now : ℕ) → length rate.places ≡ own_counts → length (rate_at rate now).places ≡ own_counts
count_at rate now count = split (second_of now == rate.second)
  where
    split : (b : Bool) → length (let r : CallerRate = if b then rate else record { second = second_of now; places = replicate own_counts None; others = record { written = 0; left_out = left_out_of rate } } in r).places ≡ own_counts
    split true = count
    split false = refl

count_then : (rate : CallerRate) (before : List LineAsked) → length rate.places ≡ own_counts → length (rate_then rate before).places ≡ own_counts
count_then rate [] count = count
count_then rate (line ∷ more) count =
    let start : CallerRate = rate_at rate line.moment in
    count_then (rate_by start line.caller line.has_room) more (count_by start line.caller line.has_room ∙ count_at rate line.moment count)

most : (rate : CallerRate) → IsFew rate → length rate.places ≡ own_counts → written rate ≤ lines_a_second * (own_counts + 1)
most rate few count = omega (arith, few.others, few_of_all rate.places few.places, count)

in_all : (asked : List LineAsked) (rate : CallerRate) (second : ℕ) → rate.second ≡ second → IsFew rate → length rate.places ≡ own_counts → AllByRecursion (λ (line : LineAsked). second_of line.moment ≡ second) asked
    → written rate + lines_got rate asked ≤ lines_a_second * (own_counts + 1)
in_all [] rate second at all_few count all = omega (arith, most rate all_few count)
in_all (line ∷ more) rate second at all_few count all =
    let here : rate_at rate line.moment ≡ rate = same_second rate line.moment (all.0 ∙ sym at) in
    let next : CallerRate = rate_by rate line.caller line.has_room in
    let rest : written next + lines_got next more ≤ lines_a_second * (own_counts + 1) = in_all more next second (second_by rate line.caller line.has_room ∙ at) (few_by rate line.caller line.has_room all_few) (count_by rate line.caller line.has_room ∙ count) all.1 in
    rw here (omega (arith, rest, written_by rate line.caller line.has_room))

all_first : (asked : List LineAsked) (rate : CallerRate) (second : ℕ) → IsFew rate → length rate.places ≡ own_counts → AllByRecursion (λ (line : LineAsked). second_of line.moment ≡ second) asked → lines_got rate asked ≤ lines_a_second * (own_counts + 1)
all_first [] rate second all_few count all = omega arith
all_first (line ∷ more) rate second all_few count all =
    let start : CallerRate = rate_at rate line.moment in
    let is_second : start.second ≡ second = sym (second_at rate line.moment) ∙ all.0 in
    let again : rate_at start line.moment ≡ start = same_second start line.moment (second_at rate line.moment) in
    let whole : written start + lines_got start (line ∷ more) ≤ lines_a_second * (own_counts + 1) = in_all (line ∷ more) start second is_second (few_at rate line.moment all_few) (count_at rate line.moment count) all in
    let same : lines_got start (line ∷ more) ≡ lines_got rate (line ∷ more) = ap (λ (r : CallerRate). cond (gets (count_for r line.caller) line.has_room) 1 0 + lines_got (rate_by r line.caller line.has_room) more) again in
    omega (arith, whole, same)

pub few_in_all : FewInAll
few_in_all before asked second all = all_first asked (rate_then rate_new before) second (few_then rate_new before new_few) (count_then rate_new before refl) all

-- ---- none is lost

-- how many were left out
abbrev sum_left : Places → ℕ
sum_left places = sum_by left_out_in places

abbrev left : CallerRate → ℕ
left rate = rate.others.left_out + sum_left rate.places

-- no more were left out of a caller than of all
within_all : (caller : LogCaller) (others : Count) (places : Places) → (count_of caller others places).left_out ≤ others.left_out + sum_left places
within_all caller others [] = omega arith
within_all caller others (place ∷ more) = split (fits caller place) (within_all caller others more)
  where
    split : (b : Bool) → (count_of caller others more).left_out ≤ others.left_out + sum_left more → (cond b (count_in place) (count_of caller others more)).left_out ≤ others.left_out + sum_left (place ∷ more)
    split true rest = omega (arith, sum_by-cons left_out_in place more)
    split false rest = omega (arith, rest, sum_by-cons left_out_in place more)

left_by : (rate : CallerRate) (caller : LogCaller) (has_room : Bool) → left rate + 1 < 2 ^ 64
    → cond (gets (count_for rate caller) has_room) 1 0 + left (rate_by rate caller has_room) ≡ left rate + 1
left_by rate caller has_room small = split (has_place caller rate.places) refl
  where
    old : Count
    old = count_for rate caller

    k : Count
    k = counted old has_room

    one : cond (gets old has_room) 1 0 + k.left_out ≡ old.left_out + 1
    one = left_one old has_room (omega (arith, small, within_all caller rate.others rate.places))

    split : (b : Bool) → has_place caller rate.places ≡ b
        → cond (gets old has_room) 1 0 + left (if b then record rate { places = with_count caller k rate.places } else record rate { others = k }) ≡ left rate + 1
    split true has = omega (arith, one, sum_with (λ (c : Count). c.left_out) caller rate.others k rate.places has)
    split false has = omega (arith, one, ap (λ (c : Count). c.left_out) (nowhere caller rate.others rate.places has))

left_at : (rate : CallerRate) (now : ℕ) → left rate < 2 ^ 64 → left (rate_at rate now) ≡ left rate
left_at rate now small = split (second_of now == rate.second)
  where
    split : (b : Bool) → left (if b then rate else record { second = second_of now; places = replicate own_counts None; others = record { written = 0; left_out = left_out_of rate } }) ≡ left rate
    split true = refl
    split false = omega (arith, small)

lost : (asked : List LineAsked) (rate : CallerRate) → left rate + length asked < 2 ^ 64 → lines_got rate asked + left (rate_then rate asked) ≡ left rate + length asked
lost [] rate small = omega arith
lost (line ∷ more) rate small =
    let start : CallerRate = rate_at rate line.moment in
    let next : CallerRate = rate_by start line.caller line.has_room in
    let same : left start ≡ left rate = left_at rate line.moment (omega (arith, small)) in
    let one : cond (gets (count_for start line.caller) line.has_room) 1 0 + left next ≡ left start + 1 = left_by start line.caller line.has_room (omega (arith, small, same)) in
    let rest : lines_got next more + left (rate_then next more) ≡ left next + length more = lost more next (omega (arith, small, same, one)) in
    omega (arith, one, rest, same)

pub none_is_lost : NoneIsLost
none_is_lost asked small = let all : lines_got rate_new asked + left (rate_then rate_new asked) ≡ left rate_new + length asked = lost asked rate_new (omega (arith, small)) in omega (arith, all, small)

-- ---- when they are told

moment_is : (b : Bool) (moment at : ℕ) → (if b then None else Some moment) ≡ Some at → moment ≡ at
moment_is true moment at is = absurd (none-some at is)
moment_is false moment at is = same_Some moment at is

later_second : (second at now : ℕ) → min ((second + 1) * 1000) (2 ^ 64 - 1) ≡ at → now < 2 ^ 64 - 1 → at ≤ now → second < now / 1000
later_second second at now is small come = omega (arith, is, small, come)

early_second : (second at now : ℕ) → min ((second + 1) * 1000) (2 ^ 64 - 1) ≡ at → second ≤ now / 1000 → now < at → now / 1000 ≡ second
early_second second at now is not_before early = omega (arith, is, not_before, early)

pub they_are_told_then : TheyAreToldThen
they_are_told_then rate at now is not_before small =
    let moment = moment_is (left_out_of rate == 0) (min ((rate.second + 1) * 1000) (2 ^ 64 - 1)) at is in (
      λ come.
          let after = later_second rate.second at now moment small come in
          let t : (second_of now == rate.second) ≡ false = grind (arith, nat_tests, after) in
          rw t refl,
      λ early.
          let same = early_second rate.second at now moment not_before early in
          let t : (second_of now == rate.second) ≡ true = grind (arith, nat_tests, same) in
          rw t refl,
    )
