-- An event and the look that is part of it, added up.
use Rattle.std.proofs.Common.{◌≤◌, ◌+◌, ℕ, ◌∙◌, arith}
use Rattle.rb_xdr.specs.Meter.{Meter, PaysAtMost}
use Rattle.rb_model.specs.State.{State}
use Rattle.rb_model.specs.Costs.{event_cost}
use Rattle.rb_model.specs.Step.{Event}
use Rattle.rb_core.specs.Metered.{Metered}
use Rattle.rb_core.specs.MeteredCalls.{PricedWithLook}
use Rattle.rb_core.specs.StandsFor.{StandsFor}

module _ (event : Event) (look : ℕ) (old mid : Metered) where
  -- the look after it is not taken
  pub no_look : old.meter.steps ≤ mid.meter.steps → PricedWithLook look event old mid → (s : State) → StandsFor old.core s → PaysAtMost old.meter mid.meter (event_cost s event)
  no_look rises priced = λ s h. let p = priced s h in record { rises = rises; steps = omega (arith, p.steps); tie = p.tie }

  -- it is taken, and `now` is the meter after it
  pub then_look : (now : Meter) → old.meter.steps ≤ mid.meter.steps → PricedWithLook look event old mid → PaysAtMost mid.meter now look → (s : State) → StandsFor old.core s → PaysAtMost old.meter now (event_cost s event)
  then_look now rises priced paid = λ s h. let p = priced s h in record {
    rises = omega (arith, rises, paid.rises);
    steps = omega (arith, p.steps, paid.steps);
    tie = paid.tie ∙ p.tie;
  }

  -- the look is taken before it, and changes nothing of the core
  pub look_then : (new : Metered) → mid.meter.steps ≤ new.meter.steps → PaysAtMost old.meter mid.meter look → PricedWithLook look event (record { core = old.core; meter = mid.meter }) new
      → (s : State) → StandsFor old.core s → PaysAtMost old.meter new.meter (event_cost s event)
  look_then new rises paid priced = λ s h. let p = priced s h in record {
    rises = omega (arith, rises, paid.rises);
    steps = omega (arith, p.steps, paid.steps);
    tie = p.tie ∙ paid.tie;
  }
