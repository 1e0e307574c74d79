use Rattle.std.proofs.Common.{◌∙◌, sym}
use Rattle.rb_core.proofs.Reached.{gave_reached}
use Rattle.rb_core.proofs.Metering.{bounded, gave_priced}
use Rattle.rb_core.proofs.CallBounds.{gave_within}
use Rattle.rb_core.proofs.metered.Metered.gave.Goals as goal

pub invariant_of-self : goal.invariant_of-self
invariant_of-self c = record {
  tie = c.gave.ensures.same_meter ∙ c.self.invariant.tie ∙ sym c.gave.ensures.tie;
  reached = gave_reached _ _ c.self.invariant.reached c.args.now c.args.id c.args.n _ c.gave.ensures.acts;
}

pub returns-clause-priced : goal.returns-clause-priced
returns-clause-priced c =
    gave_priced _ c.args.self.now c.self.view_is (record { core = c.gave.new.self; meter = c.gave.new.meter }) c.args.now c.args.id c.args.n c.gave.ensures.cost

pub returns-clause-bound : goal.returns-clause-bound
returns-clause-bound c =
    bounded _ c.args.self.now c.self.view_is (record { core = c.gave.new.self; meter = c.gave.new.meter }) 0 0 c.self.invariant.reached (gave_within _ _ _ c.args.id 0 c.gave.ensures.cost)
