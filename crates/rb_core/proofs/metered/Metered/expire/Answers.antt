use Rattle.std.proofs.Common.{◌∙◌, sym}
use Rattle.rb_core.proofs.Reached.{expired_reached}
use Rattle.rb_core.proofs.Metering.{bounded, expired_priced}
use Rattle.rb_core.proofs.CallBounds.{ending_within}
use Rattle.rb_core.proofs.metered.Metered.expire.Goals as goal

pub invariant_of-self : goal.invariant_of-self
invariant_of-self c = record {
  tie = c.expire.ensures.cost.tie ∙ c.self.invariant.tie ∙ sym c.expire.ensures.tie;
  reached = expired_reached _ _ c.self.invariant.reached c.args.now _ c.expire.ensures.acts;
}

pub returns-clause-priced : goal.returns-clause-priced
returns-clause-priced c =
    expired_priced _ c.args.self.now c.self.view_is (record { core = c.expire.new.self; meter = c.expire.new.meter }) c.args.now _ c.expire.ensures.acts c.expire.ensures.cost

pub returns-clause-bound : goal.returns-clause-bound
returns-clause-bound c =
    bounded _ c.args.self.now c.self.view_is (record { core = c.expire.new.self; meter = c.expire.new.meter }) 0 0 c.self.invariant.reached (ending_within _ _ _ 0 c.expire.ensures.cost)
