-- Calls of a socket are made one after another.
use Rattle.std.proofs.Common.{◌≡◌, ℕ, List, [], ◌∷◌, ◌++◌, true, refl, subst, sym}
use Rattle.rb_policy.specs.declared.drains.Came.{Came}
use Rattle.rb_policy.specs.declared.drains.CallsSoFar.{CallsSoFar}
use Rattle.rb_policy.specs.Drains.{AreMade, after, goes_on, nothing_yet}

-- so many as the turn has made
pub record Made {S : Type 0} (comes : S → CallsSoFar → Came → S → Type 0) (most share : ℕ) (first now : S) (drain : CallsSoFar) : Type 0 where
  pub calls : List Came
  pub made : AreMade comes most share calls nothing_yet first drain now

one_more : {S : Type 0} (comes : S → CallsSoFar → Came → S → Type 0) (most share : ℕ) (calls : List Came) (begin drain : CallsSoFar) (old mid new : S) (came : Came)
    → AreMade comes most share calls begin old drain mid → goes_on most share drain ≡ true → comes mid drain came new
    → AreMade comes most share (calls ++ came ∷ []) begin old (after came drain) new
unfolding AreMade
one_more comes most share [] begin drain old mid new came (last, same) on step =
    subst (λ (d : CallsSoFar). AreMade comes most share (came ∷ []) d old (after came drain) new) last
    (on, record { mid = new; first = subst (λ x. comes x drain came new) same step; rest = (refl, refl) })
one_more comes most share (c ∷ calls) begin drain old mid new came (on_first, called) on step = (
  on_first,
  record {
    mid = called.mid;
    first = called.first;
    rest = one_more comes most share calls (after c begin) drain called.mid mid new came called.rest on step;
  },
)

pub none_made : {S : Type 0} (comes : S → CallsSoFar → Came → S → Type 0) (most share : ℕ) (socket : S) (drain : CallsSoFar) → drain ≡ nothing_yet → Made comes most share socket socket drain
unfolding AreMade
none_made comes most share socket drain is = record { calls = []; made = (is, refl) }

pub made_more : {S : Type 0} (comes : S → CallsSoFar → Came → S → Type 0) (most share : ℕ) (first mid new : S) (drain next : CallsSoFar) (came : Came)
    → Made comes most share first mid drain → goes_on most share drain ≡ true → comes mid drain came new → next ≡ after came drain → Made comes most share first new next
made_more comes most share first mid new drain next came m on step is = record {
  calls = m.calls ++ came ∷ [];
  made = subst (λ (d : CallsSoFar). AreMade comes most share (m.calls ++ came ∷ []) nothing_yet first d new) (sym is)
      (one_more comes most share m.calls nothing_yet drain first mid new came m.made on step);
}
