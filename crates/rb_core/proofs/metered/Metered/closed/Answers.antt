use Rattle.std.proofs.Common.{◌∙◌, sym}
use Rattle.rb_core.proofs.Reached.{closed_reached}
use Rattle.rb_core.proofs.Metering.{bounded, closed_priced}
use Rattle.rb_core.proofs.CallBounds.{closed_within}
use Rattle.rb_core.proofs.metered.Metered.closed.Goals as goal

pub invariant_of-self : goal.invariant_of-self
invariant_of-self c = record {
  tie = c.closed.ensures.cost.tie ∙ c.self.invariant.tie ∙ sym c.closed.ensures.tie;
  reached = closed_reached _ _ c.self.invariant.reached c.args.id _ c.closed.ensures.acts;
}

pub returns-clause-priced : goal.returns-clause-priced
returns-clause-priced c =
    closed_priced _ c.args.self.now c.self.view_is (record { core = c.closed.new.self; meter = c.closed.new.meter }) c.args.id c.closed.ensures.cost

pub returns-clause-bound : goal.returns-clause-bound
returns-clause-bound c =
    bounded _ c.args.self.now c.self.view_is (record { core = c.closed.new.self; meter = c.closed.new.meter }) 0 0 c.self.invariant.reached (closed_within _ _ _ c.closed.ensures.cost)
