use Rattle.std.proofs.Common.{◌∙◌, sym}
use Rattle.rb_core.proofs.Reached.{sent_reached}
use Rattle.rb_core.proofs.Metering.{bounded, sent_priced}
use Rattle.rb_core.proofs.CallBounds.{sent_within}
use Rattle.rb_core.proofs.metered.Metered.sent.Goals as goal

pub invariant_of-self : goal.invariant_of-self
invariant_of-self c = record {
  tie = c.sent.ensures.cost.tie ∙ c.self.invariant.tie ∙ sym c.sent.ensures.tie;
  reached = sent_reached _ _ c.self.invariant.reached c.args.id.number _ c.sent.ensures.acts;
}

pub returns-clause-priced : goal.returns-clause-priced
returns-clause-priced c =
    sent_priced _ c.args.self.now c.self.view_is (record { core = c.sent.new.self; meter = c.sent.new.meter }) c.args.id.number c.sent.ensures.cost

pub returns-clause-bound : goal.returns-clause-bound
returns-clause-bound c =
    bounded _ c.args.self.now c.self.view_is (record { core = c.sent.new.self; meter = c.sent.new.meter }) 0 0 c.self.invariant.reached (sent_within _ _ _ c.sent.ensures.cost)
