-- The one of many that no other goes before.
use Rattle.std.proofs.Common.{◌≡◌, ◌<◌, ◌≤◌, ◌+◌, ◌⊎◌, ℕ, Bool, true, false, length, Option, Some, None, slice_get, nat_lt, arith, refl, sym, ap, ◌∙◌, subst, inl, inr, if◌then◌else◌}
use Rattle.std.proofs.lemmas.Bool.Decides.{nat_tests}
use mathlib.Core.Logic.{⊎_elim}
use mathlib.Core.Bool.{true≢false}
use Rattle.std.proofs.lemmas.Option.{none-some, same_Some, cond_some, slice_get_within}
use Rattle.std.specs.declared.cmp.Ordering.{Ordering}
use Rattle.std.specs.declared.cmp.Ordering.TheVariants.{Less, Equal, Greater}
use Rattle.std.specs.Ordering.{is_lt, ordering_reverse}
use Rattle.std.specs.Cmp.{IsTotalOrder, bool_cmp_total}
use Rattle.std.proofs.lemmas.Cmp.{nat_cmp_total, on_total, then_total}
use Rattle.std.proofs.lemmas.Bool.{cond-true}
use Rattle.rb_policy.specs.declared.origin.Origin.{Origin}
use Rattle.rb_policy.specs.declared.door.Holder.{Holder}
use Rattle.rb_policy.specs.declared.door.Candidate.{Candidate}
use Rattle.rb_policy.specs.Door.{Places, rank, candidate_of, by_precedence, GoesBefore, MayBeGivenUp, IsGivenUp}
use Rattle.rb_policy.specs.Candidates.{candidate_at, held_candidate, first_of, IsFirstOf, NobodyMayBeGivenUp}

pub by_precedence_total : IsTotalOrder by_precedence
by_precedence_total =
    then_total (then_total (then_total (then_total (then_total (then_total
    (on_total (λ s. s.class) nat_cmp_total)
    (on_total (λ s. s.is_within_share) bool_cmp_total))
    (on_total (λ s. s.is_local) bool_cmp_total))
    (on_total (λ s. s.is_active) bool_cmp_total))
    (on_total (λ s. rank s.standing) nat_cmp_total))
    (on_total (λ s. s.goes_by) nat_cmp_total))
    (on_total (λ s. s.place) nat_cmp_total)

less_is : (o : Ordering) → is_lt o ≡ true → o ≡ Less
less_is Less e = refl
less_is Equal e = absurd (true≢false (sym e))
less_is Greater e = absurd (true≢false (sym e))

-- nobody goes before itself
not_itself : (s : Candidate) → ¬ GoesBefore s s
not_itself s e = itself (by_precedence s s) (by_precedence_total.antisymm s s) e
  where
    itself : (o : Ordering) → o ≡ ordering_reverse o → ¬ (o ≡ Less)
    itself Less r e = true≢false (ap is_lt r)
    itself Equal r e = true≢false (sym (ap is_lt e))
    itself Greater r e = true≢false (sym (ap is_lt e))

below : (k n : ℕ) → k < n + 1 → (k < n) ⊎ (k ≡ n)
below k n lt = split (nat_lt k n) refl
  where
    split : (b : Bool) → nat_lt k n ≡ b → (k < n) ⊎ (k ≡ n)
    split true e = inl (grind (arith, nat_tests, e))
    split false e = inr (grind (arith, nat_tests, e, lt))

-- one more is looked at
pub step : (f : ℕ → Option Candidate) (n : ℕ) (best : Option Candidate) → IsFirstOf f n best → IsFirstOf f (n + 1) (first_of best (f n))
step f n best is = with_next (f n) refl best is
  where
    none_yet : f n ≡ None → ((k : ℕ) → k < n → f k ≡ None) → (k : ℕ) → k < n + 1 → f k ≡ None
    none_yet e none k lt = ⊎_elim (λ l. none k l) (λ is. ap f is ∙ e) (below k n lt)

    first_found : (s : Candidate) → f n ≡ Some s → ((k : ℕ) → k < n → f k ≡ None) → IsFirstOf f (n + 1) (Some s)
    first_found s e none = (
      (n, omega arith, e),
      λ k t lt at before.
          ⊎_elim (λ l. none-some t (sym (none k l) ∙ at))
          (λ is. not_itself s (subst (λ x. GoesBefore x s) (same_Some t s (sym at ∙ ap f is ∙ e)) before))
          (below k n lt),
    )

    stays : (s : Candidate) → IsFirstOf f n (Some s) → ((t : Candidate) → f n ≡ Some t → ¬ GoesBefore t s) → IsFirstOf f (n + 1) (Some s)
    stays s is last = (
      (is.0.0, grind (arith, is.0.1), is.0.2),
      λ k t lt at before.
          ⊎_elim (λ l. is.1 k t l at before) (λ e. last t (sym (ap f e) ∙ at) before) (below k n lt),
    )

    -- whoever would go before t would go before s
    passes : (s t : Candidate) → f n ≡ Some t → GoesBefore t s → IsFirstOf f n (Some s) → IsFirstOf f (n + 1) (Some t)
    passes s t e goes is = (
      (n, omega arith, e),
      λ k u lt at before.
          ⊎_elim (λ l. is.1 k u l at (by_precedence_total.trans u t s before goes))
          (λ same. not_itself t (subst (λ x. GoesBefore x t) (same_Some u t (sym at ∙ ap f same ∙ e)) before))
          (below k n lt),
    )

    either : (s t : Candidate) → f n ≡ Some t → IsFirstOf f n (Some s) → (b : Bool) → is_lt (by_precedence t s) ≡ b → IsFirstOf f (n + 1) (if b then Some t else Some s)
    either s t e is true lt = passes s t e (less_is (by_precedence t s) lt) is
    either s t e is false lt = stays s is (λ u at before.
        true≢false (sym (ap is_lt (subst (λ x. GoesBefore x s) (same_Some u t (sym at ∙ e)) before)) ∙ lt))

    with_next : (o : Option Candidate) → f n ≡ o → (best : Option Candidate) → IsFirstOf f n best → IsFirstOf f (n + 1) (first_of best o)
    with_next None e None is = none_yet e is
    with_next (Some s) e None is = first_found s e is
    with_next None e (Some s) is = stays s is (λ t at. absurd (none-some t (sym e ∙ at)))
    with_next (Some t) e (Some s) is = either s t e is (is_lt (by_precedence t s)) refl

-- ---- the holders of places

found_at : (places : Places) (newcomer : Origin) (now k : ℕ) (holder : Holder) → MayBeGivenUp places newcomer k holder → candidate_at places newcomer now k ≡ Some (candidate_of places now k holder)
found_at places newcomer now k holder may =
    ap (held_candidate places newcomer now k) may.holds ∙ cond-true _ _ _ may.may

candidate_is : (places : Places) (newcomer : Origin) (now k : ℕ) (s : Candidate) → candidate_at places newcomer now k ≡ Some s → (holder : Holder) × MayBeGivenUp places newcomer k holder × (candidate_of places now k holder ≡ s)
candidate_is places newcomer now k s is = at (slice_get places k) refl is
  where
    at : (held : Option (Option Holder)) → slice_get places k ≡ held → held_candidate places newcomer now k held ≡ Some s → (holder : Holder) × MayBeGivenUp places newcomer k holder × (candidate_of places now k holder ≡ s)
    at None e i = absurd (none-some s i)
    at (Some None) e i = absurd (none-some s i)
    at (Some (Some holder)) e i =
        let is = cond_some _ (candidate_of places now k holder) s i in (holder, record { holds = e; may = is.0 }, is.1)

pub nobody : (places : Places) (newcomer : Origin) (now : ℕ) → IsFirstOf (candidate_at places newcomer now) (length places) None → NobodyMayBeGivenUp places newcomer
nobody places newcomer now none k holder may =
    none-some (candidate_of places now k holder)
    (sym (none k (slice_get_within places k (Some holder) may.holds)) ∙ found_at places newcomer now k holder may)

pub somebody : (places : Places) (newcomer : Origin) (now : ℕ) (s : Candidate) → IsFirstOf (candidate_at places newcomer now) (length places) (Some s) → IsGivenUp places newcomer now s.place
somebody places newcomer now s is =
    let k = is.0.0 in
    let of = candidate_is places newcomer now k s is.0.2 in
    subst (IsGivenUp places newcomer now) (ap (λ t. t.place) of.2) (record {
      holder = of.0;
      may = of.1;
      first = λ j other may before. is.1 j (candidate_of places now j other)
          (slice_get_within places j (Some other) may.holds)
          (found_at places newcomer now j other may)
          (subst (GoesBefore (candidate_of places now j other)) of.2 before);
    })

-- if all were looked at
pub at_end : (f : ℕ → Option Candidate) (n count : ℕ) (best is : Option Candidate) → count ≤ n → n ≤ count → best ≡ is → IsFirstOf f n best → IsFirstOf f count is
at_end f n count best is low high e first =
    subst (IsFirstOf f count) e (subst (λ m. IsFirstOf f m best) (omega (arith, low, high)) first)
