-- Places in a table whose keys are distinct.
use Rattle.std.proofs.Common.{◌≡◌, ℕ, ◌+◌, Bool, true, false, cond, eqb, List, [], ◌∷◌, ◌++◌, Option, Some, None, refl, sym, ap, ◌∙◌, eq-eqb, arith}
use Rattle.std.specs.Prelude.{option_map, IsSome}
use Rattle.std.proofs.lemmas.Bool.{eqb-true}
use Rattle.std.proofs.lemmas.Bool.Decides.{nat_tests}
use Rattle.rb_xdr.specs.Pool.{value_at, without, first_key, HasDistinctKeys}
use Rattle.rb_xdr.specs.Places.{behind, count_to, to_come, count_passed}

by_test : (P : Bool → Type 0) (b : Bool) → ((b ≡ true) → P true) → ((b ≡ false) → P false) → P b
by_test P true t f = t refl
by_test P false t f = f refl

same_test : (m n : ℕ) → eqb m n ≡ eqb n m
same_test m n = grind (arith, nat_tests)

module _ {T : Type 0} where
  -- the entries up to that of a key
  abbrev pub up_to : List (ℕ × T) → ℕ → List (ℕ × T)
  up_to [] key = []
  up_to (e ∷ rest) key = cond (eqb e.0 key) (e ∷ []) (e ∷ up_to rest key)

  -- the entries before a place
  abbrev pub passed : List (ℕ × T) → Option ℕ → List (ℕ × T)
  passed entries None = []
  passed entries (Some key) = up_to entries key

  -- two keys differ if one has a value and the other none
  pub apart : (entries : List (ℕ × T)) (a b : ℕ) (v : T) → value_at entries a ≡ None → value_at entries b ≡ Some v → eqb a b ≡ false
  apart entries a b v no_value some_value =
      by_test (λ t. t ≡ false) (eqb a b)
      (λ same. let e : a ≡ b = eqb-true a b same in let clash : value_at entries a ≡ Some v = rw e some_value in absurd cc)
      (λ differ. refl)

  -- one entry further: the entry of this key is the next one at that place
  pub record Steps (entries : List (ℕ × T)) (place : Option ℕ) (key : ℕ) : Type 0 where
    pub value : T
    pub found : value_at entries key ≡ Some value
    pub come : to_come entries place ≡ (key, value) ∷ behind entries key
    pub pass : up_to entries key ≡ passed entries place ++ (key, value) ∷ []
    pub come_without : to_come (without entries key) place ≡ behind entries key
    pub pass_without : passed (without entries key) place ≡ passed entries place
    pub count : count_to entries key ≡ option_map (λ n. n + 1) (count_passed entries place)

  step_first : (entries : List (ℕ × T)) (key : ℕ) → first_key entries ≡ Some key → Steps entries None key
  step_first [] key h = absurd cc
  step_first (e ∷ rest) key h =
      let same : e.0 ≡ key = cc in
      let test : eqb e.0 key ≡ true = eq-eqb e.0 key same in
      let here : e ∷ rest ≡ (key, e.1) ∷ rest = ap (λ (k : ℕ). (k, e.1) ∷ rest) same in
      let one : e ∷ [] ≡ (key, e.1) ∷ [] = ap (λ (k : ℕ). (k, e.1) ∷ []) same in
      record {
        value = e.1;
        found = rw test refl;
        come = rw test here;
        pass = rw test one;
        come_without = rw test refl;
        pass_without = refl;
        count = rw test refl;
      }

  step_behind : (entries : List (ℕ × T)) (a key : ℕ) → HasDistinctKeys entries → first_key (behind entries a) ≡ Some key → Steps entries (Some a) key
  step_behind [] a key d h = absurd cc
  step_behind (e ∷ rest) a key d h =
      elim_test (eqb e.0 a) refl (step_behind rest a key d.1)
    where
      elim_test : (b : Bool) → eqb e.0 a ≡ b → (first_key (behind rest a) ≡ Some key → Steps rest (Some a) key) → Steps (e ∷ rest) (Some a) key
      elim_test true t further =
          let s = step_first rest key (rw t at h) in
          let other : eqb e.0 key ≡ false = apart rest e.0 key s.value d.0 s.found in
          record {
            value = s.value;
            found = rw other s.found;
            come = rw (t, other) s.come;
            pass = rw (t, other) (ap (λ (es : List (ℕ × T)). e ∷ es) s.pass);
            come_without = rw (other, t) s.come_without;
            pass_without = rw (other, t) refl;
            count = rw (other, t, s.count) refl;
          }
      elim_test false f further =
          let s = further (rw f at h) in
          let other : eqb e.0 key ≡ false = apart rest e.0 key s.value d.0 s.found in
          record {
            value = s.value;
            found = rw other s.found;
            come = rw (f, other) s.come;
            pass = rw (f, other) (ap (λ (es : List (ℕ × T)). e ∷ es) s.pass);
            come_without = rw (other, f) s.come_without;
            pass_without = rw (other, f) (ap (λ (es : List (ℕ × T)). e ∷ es) s.pass_without);
            count = rw (other, f, s.count) refl;
          }

  -- if a key comes next, it has an entry, and the walk goes on after it
  pub step : (entries : List (ℕ × T)) (place : Option ℕ) (key : ℕ) → HasDistinctKeys entries → first_key (to_come entries place) ≡ Some key → Steps entries place key
  step entries None key d h = step_first entries key h
  step entries (Some a) key d h = step_behind entries a key d h

  pub next_entry : (entries : List (ℕ × T)) (place : Option ℕ) (key : ℕ) (value : T) → HasDistinctKeys entries → first_key (to_come entries place) ≡ Some key → value_at entries key ≡ Some value
      → to_come entries place ≡ (key, value) ∷ behind entries key
  next_entry entries place key value d h found =
      let s = step entries place key d h in
      let same : s.value ≡ value = cc (s.found, found) in
      rw (← same) s.come

  abbrev first_value : T → List (ℕ × T) → T
  first_value other [] = other
  first_value other (e ∷ es) = e.1

  -- what comes next is there, and has then been passed
  pub next_found : (entries : List (ℕ × T)) (place : Option ℕ) (key : ℕ) (value : T) → HasDistinctKeys entries → to_come entries place ≡ (key, value) ∷ behind entries key → value_at entries key ≡ Some value
  next_found entries place key value d next =
      let s = step entries place key d (ap (λ (es : List (ℕ × T)). first_key es) next) in
      let same : s.value ≡ value = ap (λ (es : List (ℕ × T)). first_value value es) (sym s.come ∙ next) in
      s.found ∙ ap (λ (v : T). Some v) same

  pub next_passed : (entries : List (ℕ × T)) (place : Option ℕ) (key : ℕ) (value : T) → HasDistinctKeys entries → to_come entries place ≡ (key, value) ∷ behind entries key
      → up_to entries key ≡ passed entries place ++ (key, value) ∷ []
  next_passed entries place key value d next =
      let s = step entries place key d (ap (λ (es : List (ℕ × T)). first_key es) next) in
      let same : s.value ≡ value = ap (λ (es : List (ℕ × T)). first_value value es) (sym s.come ∙ next) in
      rw (← same) s.pass

  pub has_entry : (entries : List (ℕ × T)) (place : Option ℕ) (key : ℕ) → HasDistinctKeys entries → first_key (to_come entries place) ≡ Some key → value_at entries key ≡ None → ⊥
  has_entry entries place key d h missing =
      let s = step entries place key d h in
      let clash : Some s.value ≡ None = sym s.found ∙ missing in
      cc

  -- after a key that is not there comes nothing
  pub nothing_behind : (entries : List (ℕ × T)) (key : ℕ) → (IsSome (value_at entries key) → ⊥) → behind entries key ≡ []
  nothing_behind [] key h = refl
  nothing_behind (e ∷ rest) key h = by_cases (eqb e.0 key) refl (nothing_behind rest key)
    where
      by_cases : (b : Bool) → eqb e.0 key ≡ b → ((IsSome (value_at rest key) → ⊥) → behind rest key ≡ []) → behind (e ∷ rest) key ≡ []
      by_cases true t further = absurd (h (rw t refl))
      by_cases false t further = rw t (further (rw t at h))

  -- a value under a fresh key
  missing-push : (entries : List (ℕ × T)) (key a : ℕ) (value : T) → value_at entries a ≡ None → eqb key a ≡ false → value_at (entries ++ (key, value) ∷ []) a ≡ None
  missing-push [] key a value h other = rw other refl
  missing-push (e ∷ rest) key a value h other = by_cases (eqb e.0 a) refl (missing-push rest key a value)
    where
      by_cases : (b : Bool) → eqb e.0 a ≡ b → (value_at rest a ≡ None → eqb key a ≡ false → value_at (rest ++ (key, value) ∷ []) a ≡ None)
          → value_at ((e ∷ rest) ++ (key, value) ∷ []) a ≡ None
      by_cases true t further = let clash : Some e.1 ≡ None = rw t at h in absurd cc
      by_cases false f further = rw f (further (rw f at h) other)

  pub distinct-push : (entries : List (ℕ × T)) (key : ℕ) (value : T) → HasDistinctKeys entries → value_at entries key ≡ None → HasDistinctKeys (entries ++ (key, value) ∷ [])
  distinct-push [] key value d fresh = (refl, tt)
  distinct-push (e ∷ rest) key value d fresh = by_cases (eqb e.0 key) refl (distinct-push rest key value d.1)
    where
      by_cases : (b : Bool) → eqb e.0 key ≡ b → (value_at rest key ≡ None → HasDistinctKeys (rest ++ (key, value) ∷ [])) → HasDistinctKeys ((e ∷ rest) ++ (key, value) ∷ [])
      by_cases true t further = let clash : Some e.1 ≡ None = rw t at fresh in absurd cc
      by_cases false f further =
          let other : eqb key e.0 ≡ false = same_test key e.0 ∙ f in
          (missing-push rest key e.0 value d.0 other, further (rw f at fresh))
