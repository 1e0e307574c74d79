-- What is found among rows, and among those of them that pass a test.
use Rattle.std.specs.Prelude.{filter, find}
use Rattle.std.specs.List.{AllByRecursion}
use Rattle.std.proofs.Common.{◌≡◌, Bool, true, false, cond, ◌&&◌, Option, Some, None, List, [], ◌∷◌, refl, sym, ap, subst, ◌∙◌}
use Rattle.rb_registry.specs.declared.row.Row.{Row}
use mathlib.Core.Bool.{true≢false}

-- ---- those that pass a test

pub all-kept : (f : Row → Bool) (xs : List Row) → AllByRecursion (λ x. f x ≡ true) xs → filter f xs ≡ xs
all-kept f [] a = refl
all-kept f (x ∷ xs) a = ap (λ (b : Bool). cond b (x ∷ filter f xs) (filter f xs)) a.0 ∙ ap (λ (ys : List Row). x ∷ ys) (all-kept f xs a.1)

pub same-kept : (f g : Row → Bool) (xs : List Row) → AllByRecursion (λ x. f x ≡ g x) xs → filter f xs ≡ filter g xs
same-kept f g [] a = refl
same-kept f g (x ∷ xs) a =
    ap (λ (b : Bool). cond b (x ∷ filter f xs) (filter f xs)) a.0 ∙ ap (λ (ys : List Row). cond (g x) (x ∷ ys) ys) (same-kept f g xs a.1)

pub kept-twice : (f g : Row → Bool) (xs : List Row) → filter f (filter g xs) ≡ filter (λ x. g x && f x) xs
kept-twice f g [] = refl
kept-twice f g (x ∷ xs) = by_test (g x) (kept-twice f g xs)
  where
    by_test : (b : Bool) → filter f (filter g xs) ≡ filter (λ x. g x && f x) xs
        → filter f (cond b (x ∷ filter g xs) (filter g xs)) ≡ cond (b && f x) (x ∷ filter (λ x. g x && f x) xs) (filter (λ x. g x && f x) xs)
    by_test true e = ap (λ (ys : List Row). cond (f x) (x ∷ ys) ys) e
    by_test false e = e

pub each-kept : (P : Row → Type 0) (g : Row → Bool) (xs : List Row) → AllByRecursion P xs → AllByRecursion P (filter g xs)
each-kept P g [] a = tt
each-kept P g (x ∷ xs) a = by_test (g x) (each-kept P g xs a.1)
  where
    by_test : (b : Bool) → AllByRecursion P (filter g xs) → AllByRecursion P (cond b (x ∷ filter g xs) (filter g xs))
    by_test true more = (a.0, more)
    by_test false more = more

pub each-passes : (g : Row → Bool) (xs : List Row) → AllByRecursion (λ x. g x ≡ true) (filter g xs)
each-passes g [] = tt
each-passes g (x ∷ xs) = by_test (g x) refl (each-passes g xs)
  where
    by_test : (b : Bool) → g x ≡ b → AllByRecursion (λ x. g x ≡ true) (filter g xs) → AllByRecursion (λ x. g x ≡ true) (cond b (x ∷ filter g xs) (filter g xs))
    by_test true is more = (is, more)
    by_test false is more = more

-- ---- what is found

pub none-passes : (f : Row → Bool) (xs : List Row) → find f xs ≡ None → AllByRecursion (λ x. f x ≡ false) xs
none-passes f [] e = tt
none-passes f (x ∷ xs) e = by_test (f x) refl e (none-passes f xs)
  where
    by_test : (b : Bool) → f x ≡ b → cond b (Some x) (find f xs) ≡ None → (find f xs ≡ None → AllByRecursion (λ x. f x ≡ false) xs) → (f x ≡ false) × AllByRecursion (λ x. f x ≡ false) xs
    by_test true is e more = absurd cc
    by_test false is e more = (is, more e)

pub found-passes : (f : Row → Bool) (xs : List Row) (r : Row) → find f xs ≡ Some r → f r ≡ true
found-passes f [] r e = absurd cc
found-passes f (x ∷ xs) r e = by_test (f x) refl e (found-passes f xs r)
  where
    by_test : (b : Bool) → f x ≡ b → cond b (Some x) (find f xs) ≡ Some r → (find f xs ≡ Some r → f r ≡ true) → f r ≡ true
    by_test true is e more = let same : x ≡ r = cc e in subst (λ (y : Row). f y ≡ true) same is
    by_test false is e more = more e

pub found-holds : (P : Row → Type 0) (f : Row → Bool) (xs : List Row) (r : Row) → AllByRecursion P xs → find f xs ≡ Some r → P r
found-holds P f [] r a e = absurd cc
found-holds P f (x ∷ xs) r a e = by_test (f x) e (found-holds P f xs r a.1)
  where
    by_test : (b : Bool) → cond b (Some x) (find f xs) ≡ Some r → (find f xs ≡ Some r → P r) → P r
    by_test true e more = let same : x ≡ r = cc e in subst P same a.0
    by_test false e more = more e

-- ---- what is found among those that pass another test

pub none-of-kept : (f g : Row → Bool) (xs : List Row) → find f (filter g xs) ≡ None → AllByRecursion (λ x. f x ≡ true → g x ≡ false) xs
none-of-kept f g [] e = tt
none-of-kept f g (x ∷ xs) e = by_test (g x) refl e (none-of-kept f g xs)
  where
    by_found : g x ≡ true → (b : Bool) → f x ≡ b → cond b (Some x) (find f (filter g xs)) ≡ None → (find f (filter g xs) ≡ None → AllByRecursion (λ x. f x ≡ true → g x ≡ false) xs)
        → (f x ≡ true → g x ≡ false) × AllByRecursion (λ x. f x ≡ true → g x ≡ false) xs
    by_found kept true is e more = absurd cc
    by_found kept false is e more = (λ t. absurd (true≢false (sym t ∙ is)), more e)

    by_test : (b : Bool) → g x ≡ b → find f (cond b (x ∷ filter g xs) (filter g xs)) ≡ None → (find f (filter g xs) ≡ None → AllByRecursion (λ x. f x ≡ true → g x ≡ false) xs)
        → (f x ≡ true → g x ≡ false) × AllByRecursion (λ x. f x ≡ true → g x ≡ false) xs
    by_test true is e more = by_found is (f x) refl e more
    by_test false is e more = (λ t. is, more e)

pub no-kept : (f g : Row → Bool) (xs : List Row) → AllByRecursion (λ x. f x ≡ true → g x ≡ false) xs → find f (filter g xs) ≡ None
no-kept f g [] a = refl
no-kept f g (x ∷ xs) a = by_test (g x) refl (no-kept f g xs a.1)
  where
    by_found : g x ≡ true → (b : Bool) → f x ≡ b → find f (filter g xs) ≡ None → cond b (Some x) (find f (filter g xs)) ≡ None
    by_found kept true is more = absurd (true≢false (sym kept ∙ a.0 is))
    by_found kept false is more = more

    by_test : (b : Bool) → g x ≡ b → find f (filter g xs) ≡ None → find f (cond b (x ∷ filter g xs) (filter g xs)) ≡ None
    by_test true is more = by_found is (f x) refl more
    by_test false is more = more

-- the test lets through all that may be found
pub kept-found : (f g : Row → Bool) → ((x : Row) → f x ≡ true → g x ≡ true) → (xs : List Row) → find f (filter g xs) ≡ find f xs
kept-found f g through [] = refl
kept-found f g through (x ∷ xs) = by_tests (f x) refl (g x) refl (kept-found f g through xs)
  where
    by_tests : (b : Bool) → f x ≡ b → (c : Bool) → g x ≡ c → find f (filter g xs) ≡ find f xs → find f (cond c (x ∷ filter g xs) (filter g xs)) ≡ cond b (Some x) (find f xs)
    by_tests true is true kept more = ap (λ (b : Bool). cond b (Some x) (find f (filter g xs))) is
    by_tests true is false kept more = absurd (true≢false (sym (through x is) ∙ kept))
    by_tests false is true kept more = ap (λ (b : Bool). cond b (Some x) (find f (filter g xs))) is ∙ more
    by_tests false is false kept more = more

-- what is found among some is found among all
pub found-among : (f g : Row → Bool) (xs : List Row) (r : Row) → find f (filter g xs) ≡ Some r → find f xs ≡ None → ⊥
found-among f g xs r some none =
    true≢false (sym (found-passes f (filter g xs) r some) ∙ found-holds (λ x. f x ≡ false) f (filter g xs) r (each-kept (λ x. f x ≡ false) g xs (none-passes f xs none)) some)
