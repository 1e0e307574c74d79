-- What is in a list once it was changed.
use Rattle.std.specs.Prelude.{filter}
use Rattle.std.specs.List.{AllZip, AllPairs, Contains}
use Rattle.std.proofs.Common.{◌≡◌, ◌⊎◌, inl, inr, ◌<◌, ℕ, Bool, true, false, cond, List, [], ◌∷◌, length, get_or, map, refl, sym, ap, subst, ◌∙◌, arith}
use Rattle.std.proofs.lemmas.List.{get_or_default}
use Rattle.std.proofs.lemmas.Bool.{cases_order}
use Rattle.std.proofs.lemmas.List.Elements.{Contains-append_left, Contains-append_right, Contains-append_cases, Contains-push, Contains-push_cases, Contains-get_or, length_all_zip, AllZip-get_or}

contains-first : {A : Type 0} (x : A) (xs : List A) → Contains (x ∷ xs) x
contains-first x xs = Contains-append_left (x ∷ []) xs x (Contains-push [] x)

contains-later : {A : Type 0} (x : A) (xs : List A) (y : A) → Contains xs y → Contains (x ∷ xs) y
contains-later x xs y in_rest = Contains-append_right (x ∷ []) xs y in_rest

contains-cases : {A : Type 0} (x : A) (xs : List A) (y : A) → Contains (x ∷ xs) y → (x ≡ y) ⊎ Contains xs y
contains-cases x xs y within = elim (Contains-append_cases (x ∷ []) xs y within) [
  | inl first ↦ elim (Contains-push_cases [] x y first) [ inl none ↦ absurd (omega (arith, none.1)) | inr same ↦ inl same ]
  | inr later ↦ inr later
]

pub contains-filter : {A : Type 0} (test : A → Bool) (xs : List A) (y : A) → Contains xs y → test y ≡ true → Contains (filter test xs) y
contains-filter test [] y within passes = within
contains-filter test (x ∷ xs) y within passes = by_test (test x) refl (contains-cases x xs y within) (contains-filter test xs y)
  where
    by_test : (b : Bool) → test x ≡ b → (x ≡ y) ⊎ Contains xs y → (Contains xs y → test y ≡ true → Contains (filter test xs) y) → Contains (cond b (x ∷ filter test xs) (filter test xs)) y
    by_test true e (inl same) rest = subst (Contains (x ∷ filter test xs)) same (contains-first x (filter test xs))
    by_test true e (inr later) rest = contains-later x (filter test xs) y (rest later passes)
    by_test false e (inl same) rest = let not : test x ≡ true = ap test same ∙ passes in absurd cc
    by_test false e (inr later) rest = rest later passes

pub contains-from_filter : {A : Type 0} (test : A → Bool) (xs : List A) (y : A) → Contains (filter test xs) y → Contains xs y
contains-from_filter test [] y within = within
contains-from_filter test (x ∷ xs) y within = by_test (test x) within (contains-from_filter test xs y)
  where
    by_test : (b : Bool) → Contains (cond b (x ∷ filter test xs) (filter test xs)) y → (Contains (filter test xs) y → Contains xs y) → Contains (x ∷ xs) y
    by_test true within rest = elim (contains-cases x (filter test xs) y within) [
      | inl same ↦ subst (Contains (x ∷ xs)) same (contains-first x xs)
      | inr later ↦ contains-later x xs y (rest later)
    ]
    by_test false within rest = contains-later x xs y (rest within)

-- ---- lists of which each element is as the one at its place

-- an element of one list and the one at its place in the other
pub zip-forward : {A : Type 0} (R : A → A → Type 0) (xs ys : List A) (x : A) → AllZip R xs ys → Contains xs x → (y : A) × Contains ys y × R x y
zip-forward R xs ys x zip (k, low, is) =
    let lengths : length xs ≡ length ys = length_all_zip R xs ys zip in
    (get_or ys k x, Contains-get_or ys k x (omega (arith, low, lengths)), subst (λ z. R z (get_or ys k x)) is (AllZip-get_or R xs ys k x x zip low))

pub zip-back : {A : Type 0} (R : A → A → Type 0) (xs ys : List A) (y : A) → AllZip R xs ys → Contains ys y → (x : A) × Contains xs x × R x y
zip-back R xs ys y zip (k, low, is) =
    let lengths : length xs ≡ length ys = length_all_zip R xs ys zip in
    let within : k < length xs = omega (arith, low, lengths) in
    (get_or xs k y, Contains-get_or xs k y within, subst (λ z. R (get_or xs k y) z) is (AllZip-get_or R xs ys k y y zip within))

pub zip-same : {A : Type 0} (R : A → A → Type 0) → ((x : A) → R x x) → (xs : List A) → AllZip R xs xs
zip-same R same [] = tt
zip-same R same (x ∷ xs) = (same x, zip-same R same xs)

pub zip-map : {A : Type 0} (R : A → A → Type 0) (f : A → A) → ((x : A) → R x (f x)) → (xs : List A) → AllZip R xs (map f xs)
zip-map R f each [] = tt
zip-map R f each (x ∷ xs) = (each x, zip-map R f each xs)

pub zip-twice : {A : Type 0} (R : A → A → Type 0) → ((x y z : A) → R x y → R y z → R x z) → (xs ys zs : List A) → AllZip R xs ys → AllZip R ys zs → AllZip R xs zs
zip-twice R join [] [] zs a b = b
zip-twice R join [] (y ∷ ys) zs a b = absurd a
zip-twice R join (x ∷ xs) [] zs a b = absurd a
zip-twice R join (x ∷ xs) (y ∷ ys) [] a b = absurd b
zip-twice R join (x ∷ xs) (y ∷ ys) (z ∷ zs) a b = (join x y z a.0 b.0, zip-twice R join xs ys zs a.1 b.1)

-- ---- elements that are told apart by what rises from each to all later ones

pub alone : {A : Type 0} (number : A → ℕ) (xs : List A) (x y : A) → AllPairs (λ (a b : A). number a < number b) xs → Contains xs x → Contains xs y → number x ≡ number y → x ≡ y
alone {A} number xs x y rising (i, low, is) (j, high, are) same = elim (cases_order i j) [
  | inl here ↦ sym is ∙ ap (λ (k : ℕ). get_or xs k x) here ∙ any_default ∙ are
  | inr apart ↦ elim apart [
    | inl before ↦ absurd (omega (arith, same, first-below before))
    | inr behind ↦ absurd (omega (arith, same, last-below behind))
  ]
]
  where
    any_default : get_or xs j x ≡ get_or xs j y
    any_default = get_or_default xs j x y high

    first-below : i < j → number x < number y
    first-below before = subst (λ z. number z < number y) is (subst (λ z. number (get_or xs i x) < number z) (any_default ∙ are) (rising i j x before high))

    last-below : j < i → number y < number x
    last-below behind = subst (λ z. number z < number x) are (subst (λ z. number (get_or xs j y) < number z) (get_or_default xs i y x low ∙ is) (rising j i y behind low))
