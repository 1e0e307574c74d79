use Rattle.std.proofs.Common.{length, ◌∙◌, sym}
use Rattle.rb_core.proofs.Reached.{replied_reached}
use Rattle.rb_core.proofs.Metering.{bounded, replied_priced}
use Rattle.rb_core.proofs.CallBounds.{ending_within}
use Rattle.rb_core.proofs.metered.Metered.forward_reply.Goals as goal

pub invariant_of-self : goal.invariant_of-self
invariant_of-self c = record {
  tie = c.forward_reply.ensures.cost.tie ∙ c.self.invariant.tie ∙ sym c.forward_reply.ensures.tie;
  reached = replied_reached _ _ c.self.invariant.reached c.args.now c.args.from c.args.bytes.now _ c.forward_reply.ensures.acts;
}

pub returns-clause-priced : goal.returns-clause-priced
returns-clause-priced c =
    replied_priced _ c.args.self.now c.self.view_is (record { core = c.forward_reply.new.self; meter = c.forward_reply.new.meter }) c.args.now c.args.from c.args.bytes.now _ c.forward_reply.ensures.acts c.forward_reply.ensures.cost

pub returns-clause-bound : goal.returns-clause-bound
returns-clause-bound c =
    bounded _ c.args.self.now c.self.view_is (record { core = c.forward_reply.new.self; meter = c.forward_reply.new.meter }) (length c.args.bytes.now) 0 c.self.invariant.reached (ending_within _ _ _ (length c.args.bytes.now) c.forward_reply.ensures.cost)
