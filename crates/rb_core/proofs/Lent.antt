-- What is looked at after the beginning of an event was so before it.
use Rattle.std.proofs.Common.{◌≡◌, ℕ, List, Result, subst}
use Rattle.std.specs.Borrow.{Bor}
use Rattle.rb_model.specs.declared.types.CoreFault.{CoreFault}
use Rattle.rb_model.specs.State.{State}
use Rattle.rb_connections.specs.Slots.{Lends, Shows}
use Rattle.rb_core.specs.StandsFor.{CoreView, StandsFor}
use Rattle.rb_core.specs.Events.{count_shown, BeginsAt}
use Rattle.rb_core.specs.Metered.{Metered}
use Rattle.rb_core.proofs.Begun.{stands_begun}

-- `inside` is the core and its meter by their other names
module _ (inside old : Metered) (is : inside ≡ old) (begun : CoreView) (begins : BeginsAt inside.meter inside.core begun) where
  pub begins_old : BeginsAt old.meter old.core begun
  begins_old = subst (λ (m : Metered). BeginsAt m.meter m.core begun) is begins

  pub lent_before : (show : State → Result (List ℕ) CoreFault) (result : Result (Bor (List ℕ)) CoreFault) → Lends StandsFor show begun result → Lends StandsFor show old.core result
  lent_before show result lends s h = lends s (stands_begun old.core begun (count_shown old.meter) begins_old s h)

  pub shown_before : {A : Type 0} (show : State → A) (x : A) → Shows StandsFor show begun x → Shows StandsFor show old.core x
  shown_before show x shows s h = shows s (stands_begun old.core begun (count_shown old.meter) begins_old s h)

  pub shown_inside : {A : Type 0} (show : State → A) (x : A) → Shows StandsFor show begun x → Shows StandsFor show inside.core x
  shown_inside show x shows s h = shows s (stands_begun inside.core begun (count_shown inside.meter) begins s h)
