-- Lemmas on numbers in rising order, each with a key.
use Rattle.std.proofs.Common.{◌≡◌, ℕ, zero, suc, ◌+◌, ◌-◌, ◌/◌, ◌<◌, ◌≤◌, Bool, true, false, cond, eqb, List, [], ◌∷◌, Option, Some, None, refl, sym, ap, ◌∙◌, subst, inl, inr, length, get_or, add-one, eq-eqb, arith}
use Rattle.std.proofs.Math.Nat.{pow-succ'}
use Rattle.std.specs.Prelude.{nat_le, unwrap_or}
use Rattle.std.specs.List.{insert, remove}
use Rattle.std.proofs.lemmas.Bool.{cases_lt, cases_eq, eqb-true}
use Rattle.std.proofs.lemmas.Bool.Decides.{nat_tests}
use Rattle.rb_xdr.specs.Pool.{value_at, without, HasDistinctKeys}
use Rattle.rb_xdr.specs.Ordered.{IsRisingFrom, IsRising, LooksAreFew, count_upto, last_upto, with_number, halvings, looks}

-- ---- looks

same_halvings : (most other count : ℕ) → count ≤ most → count ≤ other → halvings most count ≡ halvings other count
same_halvings zero zero count a b = refl
same_halvings zero (suc other) count a b = let none : count ≡ 0 = omega arith in rw none refl
same_halvings (suc most) zero count a b = let none : count ≡ 0 = omega arith in rw none refl
same_halvings (suc most) (suc other) count a b =
    elim (cases_lt 1 count) [
      | inl more ↦ let fewer = same_halvings most other (count - count / 2) (omega arith) (omega arith) in grind (arith, nat_tests, fewer)
      | inr few ↦ grind (arith, nat_tests)
    ]

-- a look halves what is left, rounded up
pub looks_halved : (count : ℕ) → 1 < count → looks count ≡ looks (count - count / 2) + 1
unfolding looks
looks_halved zero more = absurd (omega arith)
looks_halved (suc count) more =
    let same = same_halvings count (suc count - suc count / 2) (suc count - suc count / 2) (omega arith) (omega arith) in
    grind (arith, nat_tests, same)

pub looks_one : looks 1 ≡ 1
unfolding looks
looks_one = refl

pub looks_none : looks 0 ≡ 0
unfolding looks
looks_none = refl

-- ---- places

pub count_within : (number : ℕ) (es : List (ℕ × ℕ)) → count_upto number es ≤ length es
count_within number [] = omega arith
count_within number (e ∷ rest) =
    let further = count_within number rest in
    elim (nat_le e.0 number) as (λ b. cond b (count_upto number rest + 1) 0 ≤ length (e ∷ rest)) [ true ↦ omega arith | false ↦ omega arith ]

rising_least : (low : ℕ) (es : List (ℕ × ℕ)) (i : ℕ) (d : ℕ × ℕ) → IsRisingFrom low es → i < length es → low ≤ (get_or es i d).0
rising_least low [] i d rising within = absurd (omega arith)
rising_least low (e ∷ rest) zero d rising within = rising.0
rising_least low (e ∷ rest) (suc i) d rising within =
    let further = rising_least (e.0 + 1) rest i d rising.1 (omega arith) in
    let here : low ≤ e.0 = rising.0 in
    omega arith

-- a number that is looked at and too great stands after the place
pub count_high : (number : ℕ) (es : List (ℕ × ℕ)) (i : ℕ) (d : ℕ × ℕ) → i < length es → number < (get_or es i d).0 → count_upto number es ≤ i
count_high number [] i d within above = absurd (omega arith)
count_high number (e ∷ rest) zero d within above = let above' : number < e.0 = above in grind (arith, nat_tests)
count_high number (e ∷ rest) (suc i) d within above =
    let further = count_high number rest i d (omega arith) above in
    elim (nat_le e.0 number) as (λ b. cond b (count_upto number rest + 1) 0 ≤ suc i) [ true ↦ omega arith | false ↦ omega arith ]

-- and one that isn't before it
pub count_low : (number low : ℕ) (es : List (ℕ × ℕ)) (i : ℕ) (d : ℕ × ℕ) → IsRisingFrom low es → i < length es → (get_or es i d).0 ≤ number → i + 1 ≤ count_upto number es
count_low number low [] i d rising within upto = absurd (omega arith)
count_low number low (e ∷ rest) zero d rising within upto = let upto' : e.0 ≤ number = upto in grind (arith, nat_tests)
count_low number low (e ∷ rest) (suc i) d rising within upto =
    let least = rising_least (e.0 + 1) rest i d rising.1 (omega arith) in
    let further = count_low number (e.0 + 1) rest i d rising.1 (omega arith) upto in
    let here : e.0 ≤ number = omega (arith, least, upto) in
    grind (arith, nat_tests)

pub last_none : (number : ℕ) (es : List (ℕ × ℕ)) → count_upto number es ≡ 0 → last_upto number es ≡ None
last_none number [] none = refl
last_none number (e ∷ rest) none = by_cases (nat_le e.0 number) none
  where
    by_cases : (b : Bool) → cond b (count_upto number rest + 1) 0 ≡ 0 → cond b (Some (unwrap_or (last_upto number rest) e)) None ≡ None
    by_cases true none = absurd (omega arith)
    by_cases false none = refl

pub last_at : (number : ℕ) (es : List (ℕ × ℕ)) (i : ℕ) (d : ℕ × ℕ) → count_upto number es ≡ i + 1 → last_upto number es ≡ Some (get_or es i d)
last_at number [] i d count = absurd (omega arith)
last_at number (e ∷ rest) i d count = by_cases (nat_le e.0 number) count (λ j. last_at number rest j d)
  where
    by_place : (i : ℕ) → count_upto number rest ≡ i → ((j : ℕ) → count_upto number rest ≡ j + 1 → last_upto number rest ≡ Some (get_or rest j d))
        → Some (unwrap_or (last_upto number rest) e) ≡ Some (get_or (e ∷ rest) i d)
    by_place zero count further = rw (last_none number rest count) refl
    by_place (suc i) count further = rw (further i (omega arith)) refl

    by_cases : (b : Bool) → cond b (count_upto number rest + 1) 0 ≡ i + 1 → ((j : ℕ) → count_upto number rest ≡ j + 1 → last_upto number rest ≡ Some (get_or rest j d))
        → cond b (Some (unwrap_or (last_upto number rest) e)) None ≡ Some (get_or (e ∷ rest) i d)
    by_cases true count further = by_place i (omega arith) further
    by_cases false count further = absurd (omega arith)

-- ---- look-ups

missing_below : (number low : ℕ) (es : List (ℕ × ℕ)) → IsRisingFrom low es → number < low → value_at es number ≡ None
missing_below number low [] rising below = refl
missing_below number low (e ∷ rest) rising below =
    let further = missing_below number (e.0 + 1) rest rising.1 (let here : low ≤ e.0 = rising.0 in omega arith) in
    let here : low ≤ e.0 = rising.0 in
    grind (arith, nat_tests, further)

last_below : (number low : ℕ) (es : List (ℕ × ℕ)) → IsRisingFrom low es → number < low → last_upto number es ≡ None
last_below number low [] rising below = refl
last_below number low (e ∷ rest) rising below = let here : low ≤ e.0 = rising.0 in grind (arith, nat_tests)

-- the key of the last number, if that is this one
abbrev pub key_if : ℕ → Option (ℕ × ℕ) → Option ℕ
key_if number None = None
key_if number (Some e) = cond (eqb e.0 number) (Some e.1) None

pub found_last : (number low : ℕ) (es : List (ℕ × ℕ)) → IsRisingFrom low es → key_if number (last_upto number es) ≡ value_at es number
found_last number low [] rising = refl
found_last number low (e ∷ rest) rising =
    let further = found_last number (e.0 + 1) rest rising.1 in
    elim (cases_lt number e.0) [
      | inl less ↦
          let missing = missing_below number (e.0 + 1) rest rising.1 (omega arith) in
          let above : nat_le e.0 number ≡ false = grind (arith, nat_tests) in
          let other : eqb e.0 number ≡ false = grind (arith, nat_tests) in
          rw (above, other, missing) refl
      | inr upto ↦
          let here : nat_le e.0 number ≡ true = grind (arith, nat_tests) in
          elim (cases_eq e.0 number) [
            | inl same ↦
                let none = last_below number (e.0 + 1) rest rising.1 (omega arith) in
                let is : eqb e.0 number ≡ true = grind (arith, nat_tests) in
                rw (here, none, is) refl
            | inr differ ↦
                let other : eqb e.0 number ≡ false = grind (arith, nat_tests) in
                rw (here, other) (by_last (last_upto number rest) further other)
          ]
    ]
  where
    by_last : (last : Option (ℕ × ℕ)) → key_if number last ≡ value_at rest number → eqb e.0 number ≡ false → key_if number (Some (unwrap_or last e)) ≡ value_at rest number
    by_last None same other = rw other same
    by_last (Some l) same other = same

module _ (number : ℕ) (es : List (ℕ × ℕ)) (place : ℕ) (is : place ≡ count_upto number es) where
  pub none_upto : place ≡ 0 → None ≡ last_upto number es
  none_upto none = sym (last_none number es (sym is ∙ none))

  pub one_upto : (e : ℕ × ℕ) → (place ≡ 0 → ⊥) → e ≡ get_or es (place - 1) e → Some e ≡ last_upto number es
  one_upto e some at =
      let more : count_upto number es ≡ (place - 1) + 1 = omega arith in
      ap (λ (o : ℕ × ℕ). Some o) at ∙ sym (last_at number es (place - 1) e more)

module _ (number : ℕ) (es : List (ℕ × ℕ)) (rising : IsRising es) where
  pub found_none : None ≡ last_upto number es → None ≡ value_at es number
  found_none none = let found = found_last number 0 es rising in rw (← none) at found

  pub found_here : (e : ℕ × ℕ) → Some e ≡ last_upto number es → e.0 ≡ number → Some e.1 ≡ value_at es number
  found_here e last same =
      let found : key_if number (Some e) ≡ value_at es number = ap (key_if number) last ∙ found_last number 0 es rising in
      let is : eqb e.0 number ≡ true = eq-eqb e.0 number same in
      let here : Some e.1 ≡ key_if number (Some e) = rw is refl in
      here ∙ found

  pub found_other : (e : ℕ × ℕ) → Some e ≡ last_upto number es → (e.0 ≡ number → ⊥) → None ≡ value_at es number
  found_other e last differ =
      let found : key_if number (Some e) ≡ value_at es number = ap (key_if number) last ∙ found_last number 0 es rising in
      let is : eqb e.0 number ≡ false = grind (arith, nat_tests) in
      let here : None ≡ key_if number (Some e) = rw is refl in
      here ∙ found

-- what stands at a place is found by its number
pub found_at : (low : ℕ) (es : List (ℕ × ℕ)) → IsRisingFrom low es → (place : ℕ) (e : ℕ × ℕ) → place < length es → e ≡ get_or es place e → value_at es e.0 ≡ Some e.1
found_at low [] rising place e within here = absurd (omega (arith, within))
found_at low (x ∷ rest) rising zero e within here = by_test (eqb x.0 e.0) refl
  where
    by_test : (b : Bool) → eqb x.0 e.0 ≡ b → cond b (Some x.1) (value_at rest e.0) ≡ Some e.1
    by_test true same = ap (λ (y : ℕ × ℕ). Some y.1) (sym here)
    by_test false other = let is : e.0 ≡ x.0 = ap (λ (y : ℕ × ℕ). y.0) here in absurd (grind (arith, nat_tests, other, is))
found_at low (x ∷ rest) rising (suc place) e within here = by_test (eqb x.0 e.0) refl (found_at (x.0 + 1) rest rising.1 place e (omega (arith, within)) here)
  where
    by_test : (b : Bool) → eqb x.0 e.0 ≡ b → value_at rest e.0 ≡ Some e.1 → cond b (Some x.1) (value_at rest e.0) ≡ Some e.1
    by_test true same there =
        let is : x.0 ≡ e.0 = grind (arith, nat_tests, same) in
        let none : value_at rest e.0 ≡ None = missing_below e.0 (x.0 + 1) rest rising.1 (omega (arith, is)) in
        let clash : None ≡ Some e.1 = sym none ∙ there in
        absurd cc
    by_test false other there = there

-- ---- a number more

pub insert_place : (number key : ℕ) (es : List (ℕ × ℕ)) → insert es (count_upto number es) (number, key) ≡ with_number es number key
insert_place number key [] = refl
insert_place number key (e ∷ rest) =
    let further = insert_place number key rest in
    elim (nat_le e.0 number) as (λ b. insert (e ∷ rest) (cond b (count_upto number rest + 1) 0) (number, key) ≡ cond b (e ∷ with_number rest number key) ((number, key) ∷ e ∷ rest)) [
      | true ↦ rw (add-one, ← further) refl
      | false ↦ refl
    ]

pub rising_with : (number key low : ℕ) (es : List (ℕ × ℕ)) → IsRisingFrom low es → low ≤ number → value_at es number ≡ None → IsRisingFrom low (with_number es number key)
rising_with number key low [] rising upto missing = (upto, tt)
rising_with number key low (e ∷ rest) rising upto missing = by_order (nat_le e.0 number) refl (eqb e.0 number) refl missing (rising_with number key (e.0 + 1) rest rising.1)
  where
    by_order : (b : Bool) → nat_le e.0 number ≡ b → (t : Bool) → eqb e.0 number ≡ t → cond t (Some e.1) (value_at rest number) ≡ None
        → (e.0 + 1 ≤ number → value_at rest number ≡ None → IsRisingFrom (e.0 + 1) (with_number rest number key))
        → IsRisingFrom low (cond b (e ∷ with_number rest number key) ((number, key) ∷ e ∷ rest))
    by_order b order true same missing further = absurd (cc)
    by_order true order false differ missing further = (rising.0, further (grind (arith, nat_tests)) missing)
    by_order false order false differ missing further = (upto, (grind (arith, nat_tests), rising.1))

pub length-with_number : (number key : ℕ) (es : List (ℕ × ℕ)) → length (with_number es number key) ≡ length es + 1
length-with_number number key [] = refl
length-with_number number key (e ∷ rest) =
    let further = length-with_number number key rest in
    elim (nat_le e.0 number) as (λ b. length (cond b (e ∷ with_number rest number key) ((number, key) ∷ e ∷ rest)) ≡ length (e ∷ rest) + 1) [ true ↦ omega arith | false ↦ omega arith ]

pub value_at-with_number : (number key m : ℕ) (es : List (ℕ × ℕ)) → value_at es number ≡ None → value_at (with_number es number key) m ≡ cond (eqb number m) (Some key) (value_at es m)
value_at-with_number number key m [] missing = refl
value_at-with_number number key m (e ∷ rest) missing = by_order (nat_le e.0 number) (eqb e.0 number) refl missing (value_at-with_number number key m rest)
  where
    by_test : (b : Bool) → eqb e.0 m ≡ b → eqb e.0 number ≡ false → cond b (Some e.1) (cond (eqb number m) (Some key) (value_at rest m)) ≡ cond (eqb number m) (Some key) (cond b (Some e.1) (value_at rest m))
    by_test false t differ = refl
    by_test true t differ = let other : eqb number m ≡ false = grind (arith, nat_tests) in rw other refl

    by_order : (b : Bool) (t : Bool) → eqb e.0 number ≡ t → cond t (Some e.1) (value_at rest number) ≡ None
        → (value_at rest number ≡ None → value_at (with_number rest number key) m ≡ cond (eqb number m) (Some key) (value_at rest m))
        → value_at (cond b (e ∷ with_number rest number key) ((number, key) ∷ e ∷ rest)) m ≡ cond (eqb number m) (Some key) (value_at (e ∷ rest) m)
    by_order b true same missing further = absurd (cc)
    by_order true false differ missing further = rw (further missing) (by_test (eqb e.0 m) refl differ)
    by_order false false differ missing further = refl

-- ---- a number less

rising_weaken : (low high : ℕ) (es : List (ℕ × ℕ)) → IsRisingFrom high es → low ≤ high → IsRisingFrom low es
rising_weaken low high [] rising lower = tt
rising_weaken low high (e ∷ rest) rising lower = (let here : high ≤ e.0 = rising.0 in omega arith, rising.1)

pub remove_place : (number low : ℕ) (es : List (ℕ × ℕ)) (i : ℕ) (d : ℕ × ℕ) → IsRisingFrom low es → i < length es → (get_or es i d).0 ≡ number → remove es i ≡ without es number
remove_place number low [] i d rising within is = absurd (omega arith)
remove_place number low (e ∷ rest) zero d rising within is =
    let same : eqb e.0 number ≡ true = eq-eqb e.0 number is in rw same refl
remove_place number low (e ∷ rest) (suc i) d rising within is =
    let least = rising_least (e.0 + 1) rest i d rising.1 (omega arith) in
    let differ : eqb e.0 number ≡ false = grind (arith, nat_tests) in
    rw (differ, ← remove_place number (e.0 + 1) rest i d rising.1 (omega arith) is) refl

pub rising_without : (number low : ℕ) (es : List (ℕ × ℕ)) → IsRisingFrom low es → IsRisingFrom low (without es number)
rising_without number low [] rising = tt
rising_without number low (e ∷ rest) rising =
    elim (eqb e.0 number) as (λ b. IsRisingFrom low (cond b rest (e ∷ without rest number))) [
      | true ↦ rising_weaken low (e.0 + 1) rest rising.1 (let here : low ≤ e.0 = rising.0 in omega arith)
      | false ↦ (rising.0, rising_without number (e.0 + 1) rest rising.1)
    ]

pub without_absent : (number : ℕ) (es : List (ℕ × ℕ)) → value_at es number ≡ None → without es number ≡ es
without_absent number [] missing = refl
without_absent number (e ∷ rest) missing = by_test (eqb e.0 number) missing (without_absent number rest)
  where
    by_test : (b : Bool) → cond b (Some e.1) (value_at rest number) ≡ None → (value_at rest number ≡ None → without rest number ≡ rest) → cond b rest (e ∷ without rest number) ≡ e ∷ rest
    by_test true missing further = absurd (cc)
    by_test false missing further = rw (further missing) refl

-- no number stands twice
pub distinct_rising : (low : ℕ) (es : List (ℕ × ℕ)) → IsRisingFrom low es → HasDistinctKeys es
distinct_rising low [] rising = tt
distinct_rising low (e ∷ rest) rising = (missing_below e.0 (e.0 + 1) rest rising.1 (omega arith), distinct_rising (e.0 + 1) rest rising.1)

-- ---- a search by halves

module _ (number : ℕ) (es : List (ℕ × ℕ)) (base size : ℕ) (look : ℕ × ℕ) where
  -- what is left of the places, if the look at the middle gave this
  pub record Halved (next : ℕ) : Type 0 where
    pub within : next + (size - size / 2) ≤ length es
    pub low : next ≤ count_upto number es
    pub high : count_upto number es ≤ next + (size - size / 2)

  module _ (more : 1 < size) (within : base + size ≤ length es) (is : look ≡ get_or es (base + size / 2) look) where
    pub halved_low : IsRising es → count_upto number es ≤ base + size → look.0 ≤ number → Halved (base + size / 2)
    halved_low rising high upto =
        let upto' : (get_or es (base + size / 2) look).0 ≤ number = rw (← is) upto in
        let low = count_low number 0 es (base + size / 2) look rising (omega arith) upto' in
        record { within = omega arith; low = omega arith; high = omega arith }

    pub halved_high : base ≤ count_upto number es → number < look.0 → Halved base
    halved_high low above =
        let above' : number < (get_or es (base + size / 2) look).0 = rw (← is) above in
        let high = count_high number es (base + size / 2) look (omega arith) above' in
        record { within = omega arith; low = omega arith; high = omega arith }

-- ---- for callers

more_halvings : (most other few many : ℕ) → few ≤ most → many ≤ other → few ≤ many → halvings most few ≤ halvings other many
more_halvings zero other few many a b le = omega arith
more_halvings (suc most) zero few many a b le = let none : few ≡ 0 = omega arith in rw none (omega arith)
more_halvings (suc most) (suc other) few many a b le =
    elim (cases_lt 1 few) [
      | inl more ↦ let fewer = more_halvings most other (few - few / 2) (many - many / 2) (omega arith) (omega arith) (omega arith) in grind (arith, nat_tests, fewer)
      | inr one ↦ elim (cases_lt 1 many) [ inl more ↦ grind (arith, nat_tests) | inr upto ↦ grind (arith, nat_tests) ]
    ]

-- among more numbers there are no fewer looks
pub looks_more : (few many : ℕ) → few ≤ many → looks few ≤ looks many
unfolding looks
looks_more few many le = more_halvings few many few many (omega arith) (omega arith) le

-- the last number is no less than the least that is possible
last_least : (number low : ℕ) (es : List (ℕ × ℕ)) (e : ℕ × ℕ) → IsRisingFrom low es → last_upto number es ≡ Some e → low ≤ e.0
last_least number low [] e rising last = absurd (cc)
last_least number low (a ∷ rest) e rising last = by_cases (nat_le a.0 number) (last_upto number rest) refl last (λ l. last_least number (a.0 + 1) rest l rising.1)
  where
    here : low ≤ a.0
    here = rising.0

    by_cases : (b : Bool) (o : Option (ℕ × ℕ)) → last_upto number rest ≡ o → cond b (Some (unwrap_or o a)) None ≡ Some e → ((l : ℕ × ℕ) → last_upto number rest ≡ Some l → a.0 + 1 ≤ l.0) → low ≤ e.0
    by_cases true None is last further = let same : a ≡ e = cc in rw (← same) here
    by_cases true (Some l) is last further = let same : l ≡ e = cc in let less : a.0 + 1 ≤ l.0 = further l is in rw (← same) (omega (arith, less, here))
    by_cases false o is last further = absurd (cc)

-- among at most 2^k numbers there are at most k + 1
pub looks_few : LooksAreFew
looks_few count zero few = let most = looks_more count 1 few in let one = looks_one in omega arith
looks_few count (suc power) few =
    let twice = pow-succ' 2 power in
    elim (cases_lt 1 count) [
      | inl more ↦
          let fewer = looks_few (count - count / 2) power (omega arith) in
          let step = looks_halved count more in
          omega arith
      | inr upto ↦ let most = looks_more count 1 upto in let one = looks_one in omega arith
    ]

-- a number that is there, and at most that one, is at most the last of those
pub last_greatest : (number m k low : ℕ) (es : List (ℕ × ℕ)) → IsRisingFrom low es → value_at es m ≡ Some k → m ≤ number → (e : ℕ × ℕ) × (last_upto number es ≡ Some e) × (m ≤ e.0)
last_greatest number m k low [] rising there upto = absurd (cc)
last_greatest number m k low (a ∷ rest) rising there upto =
    by_test (eqb a.0 m) refl there (λ t. last_greatest number m k (a.0 + 1) rest rising.1 t upto) (λ l. last_least number (a.0 + 1) rest l rising.1)
  where
    -- a number that is there is greater than those before it
    above : value_at rest m ≡ Some k → nat_le a.0 number ≡ true
    above there =
        elim (cases_lt m (a.0 + 1)) [
          | inl below ↦ let missing = missing_below m (a.0 + 1) rest rising.1 below in absurd (cc)
          | inr least ↦ grind (arith, nat_tests)
        ]

    by_last : (last : Option (ℕ × ℕ)) → last_upto number rest ≡ last → a.0 ≡ m → nat_le a.0 number ≡ true → ((l : ℕ × ℕ) → last_upto number rest ≡ Some l → a.0 + 1 ≤ l.0)
        → (e : ℕ × ℕ) × (last_upto number (a ∷ rest) ≡ Some e) × (m ≤ e.0)
    by_last None is same here least = (a, rw (here, is) refl, omega arith)
    by_last (Some l) is same here least = let less : a.0 + 1 ≤ l.0 = least l is in (l, rw (here, is) refl, omega (arith, less, same))

    by_test : (b : Bool) → eqb a.0 m ≡ b → cond b (Some a.1) (value_at rest m) ≡ Some k → (value_at rest m ≡ Some k → (e : ℕ × ℕ) × (last_upto number rest ≡ Some e) × (m ≤ e.0))
        → ((l : ℕ × ℕ) → last_upto number rest ≡ Some l → a.0 + 1 ≤ l.0)
        → (e : ℕ × ℕ) × (last_upto number (a ∷ rest) ≡ Some e) × (m ≤ e.0)
    by_test true same there further least =
        let is : a.0 ≡ m = eqb-true a.0 m same in
        by_last (last_upto number rest) refl is (grind (arith, nat_tests)) least
    by_test false differ there further least =
        let f = further there in
        let less : a.0 + 1 ≤ f.0.0 = least f.0 f.1 in
        let m_least : m ≤ f.0.0 = f.2 in
        let here : nat_le a.0 number ≡ true = above there in
        (f.0, rw (here, f.1) refl, f.2)

pub last_there : (number low : ℕ) (es : List (ℕ × ℕ)) (e : ℕ × ℕ) → IsRisingFrom low es → last_upto number es ≡ Some e → (e.0 ≤ number) × (value_at es e.0 ≡ Some e.1)
last_there number low [] e rising last = absurd (cc)
last_there number low (a ∷ rest) e rising last =
    by_cases (nat_le a.0 number) refl (last_upto number rest) refl last (λ l. last_there number (a.0 + 1) rest l rising.1) (λ l. last_least number (a.0 + 1) rest l rising.1)
  where
    by_cases : (b : Bool) → nat_le a.0 number ≡ b → (o : Option (ℕ × ℕ)) → last_upto number rest ≡ o → cond b (Some (unwrap_or o a)) None ≡ Some e
        → ((l : ℕ × ℕ) → last_upto number rest ≡ Some l → (l.0 ≤ number) × (value_at rest l.0 ≡ Some l.1))
        → ((l : ℕ × ℕ) → last_upto number rest ≡ Some l → a.0 + 1 ≤ l.0)
        → (e.0 ≤ number) × (value_at (a ∷ rest) e.0 ≡ Some e.1)
    by_cases true here None is last further least =
        let same : a ≡ e = cc in
        let upto : a.0 ≤ number = grind (arith, nat_tests) in
        let itself : eqb a.0 a.0 ≡ true = eq-eqb a.0 a.0 refl in
        subst (λ (o : ℕ × ℕ). (o.0 ≤ number) × (value_at (a ∷ rest) o.0 ≡ Some o.1)) same (upto, rw itself refl)
    by_cases true here (Some l) is last further least =
        let same : l ≡ e = cc in
        let less : a.0 + 1 ≤ l.0 = least l is in
        let other : eqb a.0 l.0 ≡ false = grind (arith, nat_tests, less) in
        let f = further l is in
        subst (λ (o : ℕ × ℕ). (o.0 ≤ number) × (value_at (a ∷ rest) o.0 ≡ Some o.1)) same (f.0, rw other f.1)
    by_cases false here o is last further least = absurd (cc)
