use Rattle.std.proofs.Common.{◌∙◌, sym}
use Rattle.rb_core.proofs.Reached.{zeroed_reached}
use Rattle.rb_core.proofs.Metering.{bounded}
use Rattle.rb_core.proofs.CallBounds.{zero_within}
use Rattle.rb_core.proofs.metered.Metered.zero_stats.Goals as goal

pub invariant_of-self : goal.invariant_of-self
invariant_of-self c = record {
  tie = c.zero_stats.ensures.cost.tie ∙ c.self.invariant.tie ∙ sym c.zero_stats.ensures.tie;
  reached = zeroed_reached _ _ c.self.invariant.reached c.zero_stats.ensures.acts;
}

pub returns-clause-bound : goal.returns-clause-bound
returns-clause-bound c =
    bounded _ c.args.self.now c.self.view_is (record { core = c.zero_stats.new.self; meter = c.zero_stats.new.meter }) 0 0 c.self.invariant.reached (zero_within _ _ _ c.zero_stats.ensures.cost)
