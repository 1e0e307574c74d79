-- Tables, the lists of their values, and lists beside them.
use Rattle.std.proofs.Common.{◌≡◌, ℕ, suc, ◌+◌, Bool, true, false, eqb, List, [], ◌∷◌, ◌++◌, Some, None, refl, sym, ap, ◌∙◌, length, eq-eqb, arith}
use Rattle.std.specs.Prelude.{find}
use Rattle.std.specs.List.{AllZip, sum_by, list_any}
use Rattle.std.specs.Map.{values_of}
use Rattle.std.proofs.lemmas.Bool.{eqb-true}
use Rattle.std.proofs.lemmas.List.Sums.{sum_by-cons}
use Rattle.rb_xdr.specs.Pool.{value_at, without, with_value, HasDistinctKeys}
use Rattle.rb_xdr.specs.Search.{key_of}
use Rattle.rb_forward.specs.Forwards.{without_first, change_first}

pub some_is : {X : Type 0} (x y : X) → Some x ≡ Some y → x ≡ y
some_is x y h = cc

pub none_some : {X : Type 0} (x : X) → None ≡ Some x → ⊥
none_some x h = absurd cc

-- ---- a table and the list of its values

module _ {A : Type 0} (p : A → Bool) where
  -- the entry of that key is the first whose value passes
  pub record IsFirst (es : List (ℕ × A)) (k : ℕ) : Type 0 where
    pub value : A
    pub here : value_at es k ≡ Some value
    pub found : find p (values_of es) ≡ Some value
    pub passes : p value ≡ true
    pub taken_out : values_of (without es k) ≡ without_first p (values_of es)
    pub changed : (b : A) → values_of (with_value es k b) ≡ change_first p (λ a. b) (values_of es)

  pub is_first : (es : List (ℕ × A)) (k : ℕ) → HasDistinctKeys es → key_of p es ≡ Some k → IsFirst es k
  is_first [] k d h = absurd (none_some k h)
  is_first (e ∷ es) k d h = by_cases (p e.1) refl (is_first es k d.1)
    where
      by_cases : (t : Bool) → p e.1 ≡ t → (key_of p es ≡ Some k → IsFirst es k) → IsFirst (e ∷ es) k
      by_cases true t further =
          let is : e.0 ≡ k = some_is e.0 k (rw t at h) in
          let test : eqb e.0 k ≡ true = eq-eqb e.0 k is in
          record {
            value = e.1;
            here = rw test refl;
            found = rw t refl;
            passes = t;
            taken_out = rw (test, t) refl;
            changed = λ b. rw (test, t) refl;
          }
      by_cases false t further =
          let f = further (rw t at h) in
          let other : eqb e.0 k ≡ false = apart (eqb e.0 k) refl f in
          record {
            value = f.value;
            here = rw other f.here;
            found = rw t f.found;
            passes = f.passes;
            taken_out = rw (other, t) (ap (λ (xs : List A). e.1 ∷ xs) f.taken_out);
            changed = λ b. rw (other, t) (ap (λ (xs : List A). e.1 ∷ xs) (f.changed b));
          }
        where
          apart : (b : Bool) → eqb e.0 k ≡ b → IsFirst es k → eqb e.0 k ≡ false
          apart true y f =
              let key : e.0 ≡ k = eqb-true e.0 k y in
              absurd (none_some f.value (sym (rw key at d.0) ∙ f.here))
          apart false y f = y

  pub nothing_found : (es : List (ℕ × A)) → key_of p es ≡ None → find p (values_of es) ≡ None
  nothing_found [] h = refl
  nothing_found (e ∷ es) h = by_cases (p e.1) refl (nothing_found es)
    where
      by_cases : (t : Bool) → p e.1 ≡ t → (key_of p es ≡ None → find p (values_of es) ≡ None) → find p (values_of (e ∷ es)) ≡ None
      by_cases true t further = absurd (none_some e.0 (sym (rw t at h)))
      by_cases false t further = rw t (further (rw t at h))

-- ---- a list without its first value that passes, or with it changed

module _ {A : Type 0} (p : A → Bool) where
  pub all_stay : (xs : List A) → find p xs ≡ None → without_first p xs ≡ xs
  all_stay [] h = refl
  all_stay (x ∷ xs) h = by_cases (p x) refl (all_stay xs)
    where
      by_cases : (t : Bool) → p x ≡ t → (find p xs ≡ None → without_first p xs ≡ xs) → without_first p (x ∷ xs) ≡ x ∷ xs
      by_cases true t further = absurd (none_some x (sym (rw t at h)))
      by_cases false t further = rw t (ap (λ (ys : List A). x ∷ ys) (further (rw t at h)))

  pub found_any : (xs : List A) (a : A) → find p xs ≡ Some a → list_any p xs ≡ true
  found_any [] a h = absurd (none_some a h)
  found_any (x ∷ xs) a h = by_cases (p x) refl (found_any xs a)
    where
      by_cases : (t : Bool) → p x ≡ t → (find p xs ≡ Some a → list_any p xs ≡ true) → list_any p (x ∷ xs) ≡ true
      by_cases true t further = rw t refl
      by_cases false t further = rw t (further (rw t at h))

  pub found_none : (xs : List A) → find p xs ≡ None → list_any p xs ≡ false
  found_none [] h = refl
  found_none (x ∷ xs) h = by_cases (p x) refl (found_none xs)
    where
      by_cases : (t : Bool) → p x ≡ t → (find p xs ≡ None → list_any p xs ≡ false) → list_any p (x ∷ xs) ≡ false
      by_cases true t further = absurd (none_some x (sym (rw t at h)))
      by_cases false t further = rw t (further (rw t at h))

  module _ (f : A → ℕ) where
    pub sum-without : (xs : List A) (a : A) → find p xs ≡ Some a → sum_by f xs ≡ f a + sum_by f (without_first p xs)
    sum-without [] a h = absurd (none_some a h)
    sum-without (x ∷ xs) a h = by_cases (p x) refl (sum-without xs a)
      where
        by_cases : (t : Bool) → p x ≡ t → (find p xs ≡ Some a → sum_by f xs ≡ f a + sum_by f (without_first p xs)) → sum_by f (x ∷ xs) ≡ f a + sum_by f (without_first p (x ∷ xs))
        by_cases true t further =
            let is : x ≡ a = some_is x a (rw t at h) in
            rw (t, ← is) (sum_by-cons f x xs)
        by_cases false t further =
            let l = further (rw t at h) in
            rw t (omega (arith, l, sum_by-cons f x xs, sum_by-cons f x (without_first p xs)))

    pub sum-changed : (xs : List A) (a b : A) → find p xs ≡ Some a → sum_by f (change_first p (λ c. b) xs) + f a ≡ sum_by f xs + f b
    sum-changed [] a b h = absurd (none_some a h)
    sum-changed (x ∷ xs) a b h = by_cases (p x) refl (sum-changed xs a b)
      where
        by_cases : (t : Bool) → p x ≡ t → (find p xs ≡ Some a → sum_by f (change_first p (λ c. b) xs) + f a ≡ sum_by f xs + f b) → sum_by f (change_first p (λ c. b) (x ∷ xs)) + f a ≡ sum_by f (x ∷ xs) + f b
        by_cases true t further =
            let is : x ≡ a = some_is x a (rw t at h) in
            rw (t, ← is) (omega (arith, sum_by-cons f x xs, sum_by-cons f b xs))
        by_cases false t further =
            let l = further (rw t at h) in
            rw t (omega (arith, l, sum_by-cons f x xs, sum_by-cons f x (change_first p (λ c. b) xs)))

-- ---- two lists beside one another

module _ {A B : Type 0} (R : A → B → Type 0) (p : A → Bool) (q : B → Bool) (same : (a : A) (b : B) → R a b → p a ≡ q b) where
  -- the first of the other list that passes
  pub record Beside (bs : List B) (a : A) : Type 0 where
    pub value : B
    pub found : find q bs ≡ Some value
    pub related : R a value

  pub found_beside : (xs : List A) (bs : List B) (a : A) → AllZip R xs bs → find p xs ≡ Some a → Beside bs a
  found_beside [] bs a z h = absurd (none_some a h)
  found_beside (x ∷ xs) [] a z h = absurd z
  found_beside (x ∷ xs) (b ∷ bs) a z h = by_cases (p x) refl (found_beside xs bs a z.1)
    where
      by_cases : (t : Bool) → p x ≡ t → (find p xs ≡ Some a → Beside bs a) → Beside (b ∷ bs) a
      by_cases true t further =
          let is : x ≡ a = some_is x a (rw t at h) in
          let other : q b ≡ true = sym (same x b z.0) ∙ t in
          record { value = b; found = rw other refl; related = rw (← is) z.0 }
      by_cases false t further =
          let l = further (rw t at h) in
          let other : q b ≡ false = sym (same x b z.0) ∙ t in
          record { value = l.value; found = rw other l.found; related = l.related }

  pub none_beside : (xs : List A) (bs : List B) → AllZip R xs bs → find p xs ≡ None → find q bs ≡ None
  none_beside [] [] z h = refl
  none_beside [] (b ∷ bs) z h = absurd z
  none_beside (x ∷ xs) [] z h = absurd z
  none_beside (x ∷ xs) (b ∷ bs) z h = by_cases (p x) refl (none_beside xs bs z.1)
    where
      by_cases : (t : Bool) → p x ≡ t → (find p xs ≡ None → find q bs ≡ None) → find q (b ∷ bs) ≡ None
      by_cases true t further = absurd (none_some x (sym (rw t at h)))
      by_cases false t further =
          let other : q b ≡ false = sym (same x b z.0) ∙ t in
          rw other (further (rw t at h))

  pub without_beside : (xs : List A) (bs : List B) → AllZip R xs bs → AllZip R (without_first p xs) (without_first q bs)
  without_beside [] [] z = tt
  without_beside [] (b ∷ bs) z = absurd z
  without_beside (x ∷ xs) [] z = absurd z
  without_beside (x ∷ xs) (b ∷ bs) z = by_cases (p x) refl (without_beside xs bs z.1)
    where
      by_cases : (t : Bool) → p x ≡ t → AllZip R (without_first p xs) (without_first q bs) → AllZip R (without_first p (x ∷ xs)) (without_first q (b ∷ bs))
      by_cases true t further =
          let other : q b ≡ true = sym (same x b z.0) ∙ t in
          rw (t, other) z.1
      by_cases false t further =
          let other : q b ≡ false = sym (same x b z.0) ∙ t in
          rw (t, other) (z.0, further)

  pub changed_beside : (change : B → B) (xs : List A) (bs : List B) (a c : A) → AllZip R xs bs → find p xs ≡ Some a → ((b : B) → R a b → R c (change b))
      → AllZip R (change_first p (λ x. c) xs) (change_first q change bs)
  changed_beside change [] bs a c z h r = absurd (none_some a h)
  changed_beside change (x ∷ xs) [] a c z h r = absurd z
  changed_beside change (x ∷ xs) (b ∷ bs) a c z h r = by_cases (p x) refl (changed_beside change xs bs a c z.1)
    where
      by_cases : (t : Bool) → p x ≡ t → (find p xs ≡ Some a → ((b : B) → R a b → R c (change b)) → AllZip R (change_first p (λ x. c) xs) (change_first q change bs))
          → AllZip R (change_first p (λ x. c) (x ∷ xs)) (change_first q change (b ∷ bs))
      by_cases true t further =
          let is : x ≡ a = some_is x a (rw t at h) in
          let other : q b ≡ true = sym (same x b z.0) ∙ t in
          rw (t, other) (r b (rw (← is) z.0), z.1)
      by_cases false t further =
          let other : q b ≡ false = sym (same x b z.0) ∙ t in
          rw (t, other) (z.0, further (rw t at h) r)

module _ {A B : Type 0} (R : A → B → Type 0) where
  pub same_length : (xs : List A) (bs : List B) → AllZip R xs bs → length xs ≡ length bs
  same_length [] [] z = refl
  same_length [] (b ∷ bs) z = absurd z
  same_length (a ∷ xs) [] z = absurd z
  same_length (a ∷ xs) (b ∷ bs) z = ap suc (same_length xs bs z.1)

  pub one_more_each : (xs : List A) (bs : List B) (a : A) (b : B) → AllZip R xs bs → R a b → AllZip R (xs ++ a ∷ []) (bs ++ b ∷ [])
  one_more_each [] [] a b z r = (r, tt)
  one_more_each [] (y ∷ bs) a b z r = absurd z
  one_more_each (x ∷ xs) [] a b z r = absurd z
  one_more_each (x ∷ xs) (y ∷ bs) a b z r = (z.0, one_more_each xs bs a b z.1 r)

  pub same_sum : (f : A → ℕ) (g : B → ℕ) → ((a : A) (b : B) → R a b → f a ≡ g b) → (xs : List A) (bs : List B) → AllZip R xs bs → sum_by f xs ≡ sum_by g bs
  same_sum f g same [] [] z = refl
  same_sum f g same [] (b ∷ bs) z = absurd z
  same_sum f g same (x ∷ xs) [] z = absurd z
  same_sum f g same (x ∷ xs) (b ∷ bs) z =
      let rest = same_sum f g same xs bs z.1 in
      let here = same x b z.0 in
      sum_by-cons f x xs ∙ omega (arith, rest, here, sum_by-cons g b bs)
