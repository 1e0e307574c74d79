-- What is left is looked for at one place after another.
use Rattle.std.specs.Prelude.{slice_get}
use Rattle.std.proofs.Common.{◌≡◌, ◌<◌, ◌≤◌, ◌+◌, ℕ, Bool, true, false, List, Option, Some, None, subst, sym, ◌∙◌, arith, inl, inr}
use Rattle.std.proofs.lemmas.Bool.{cases_lt}
use Rattle.rb_policy.specs.Rounds.{is_left_at, IsLeft}
use mathlib.Core.Bool.{true≢false}

-- none of the places from this one on, in front of that one, is left
abbrev pub NoneBefore : List Bool → ℕ → ℕ → Type 0
NoneBefore left from key = (k : ℕ) → from ≤ k → k < key → IsLeft k left → ⊥

pub not_left : (key : ℕ) (left : List Bool) → is_left_at left key ≡ false → IsLeft key left → ⊥
not_left key left off on = true≢false (sym on ∙ off)

pub none_next : (left : List Bool) (from key : ℕ) → NoneBefore left from key → (IsLeft key left → ⊥) → NoneBefore left from (key + 1)
none_next left from key before here k above less = elim (cases_lt k key) [
  | inl lower ↦ before k above lower
  | inr upper ↦
      let same : key ≡ k = omega (arith, upper, less) in
      subst (λ (n : ℕ). IsLeft n left → ⊥) same here
]
