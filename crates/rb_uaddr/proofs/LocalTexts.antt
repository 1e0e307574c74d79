-- The address of a local socket is any text of 1 to 128 bytes, none of them zero.
use Rattle.std.proofs.Common.{◌≡◌, ◌≢◌, ℕ, true, false, not, List, [], ◌∷◌, length, ap, lt-ltb, le-leb, inl, inr}
use Rattle.std.specs.Prelude.{All, ◌==◌}
use Rattle.std.specs.List.{list_any}
use Rattle.std.proofs.lemmas.Bool.{and_parts, ltb-true, leb-true, ne_eqb, eq-eqb, false≢true, cases_eq}
use Rattle.std.proofs.lemmas.List.Elements.{All-nil, All-cons, All-weaker}
use Rattle.std.proofs.lemmas.List.Folds.{list_any_none}
use Rattle.rb_uaddr.specs.Uaddr.{is_local_text}
use Rattle.rb_uaddr.specs.Grammar.{IsLocalText, LocalIsAnyText}

none_passes : (text : List ℕ) → not (list_any (λ b. b == 0) text) ≡ true → All (λ b. b ≢ 0) text
none_passes [] none = All-nil (λ b. b ≢ 0)
none_passes (c ∷ text) none =
    elim (cases_eq c 0) [
      | inl here ↦ absurd (false≢true (rw (eq-eqb c 0 here) at none))
      | inr other ↦ All-cons (λ b. b ≢ 0) c text other (none_passes text (rw (ne_eqb c 0 other) at none))
    ]

no_zero_passes : (text : List ℕ) → All (λ b. b ≢ 0) text → not (list_any (λ b. b == 0) text) ≡ true
no_zero_passes text none =
    ap not (list_any_none (λ b. b == 0) text (All-weaker (λ b. b ≢ 0) (λ b. (b == 0) ≡ false) (λ b other. ne_eqb b 0 other) text none))

is_of_bytes : (text : List ℕ) → is_local_text text ≡ true → IsLocalText text
unfolding is_local_text
is_of_bytes text test =
    let (sizes, none) = and_parts _ _ test in
    let (some, few) = and_parts _ _ sizes in
    record { some = ltb-true _ _ some; few = leb-true _ _ few; no_zero = none_passes text none }

of_bytes_is : (text : List ℕ) → IsLocalText text → is_local_text text ≡ true
unfolding is_local_text
of_bytes_is text is =
    let some = lt-ltb 0 (length text) is.some in
    let few = le-leb (length text) 128 is.few in
    let none = no_zero_passes text is.no_zero in
    rw (some, few, none)

pub local_is_any_text : LocalIsAnyText
local_is_any_text text = (is_of_bytes text, of_bytes_is text)
