use Rattle.std.proofs.Common.{◌∙◌, sym}
use Rattle.rb_core.proofs.Reached.{into_reached}
use Rattle.rb_core.proofs.Metering.{giving_bounded, giving_priced}
use Rattle.rb_core.proofs.metered.Metered.write_into.Goals as goal

pub invariant_of-self : goal.invariant_of-self
invariant_of-self c = record {
  tie = c.write_into.ensures.same_meter ∙ c.self.invariant.tie ∙ sym c.write_into.ensures.tie;
  reached = into_reached _ _ c.self.invariant.reached c.args.now c.args.id _ _ c.write_into.ensures.acts;
}

pub returns-clause-priced : goal.returns-clause-priced
returns-clause-priced c =
    giving_priced _ c.args.self.now c.self.view_is (record { core = c.write_into.new.self; meter = c.write_into.new.meter }) c.args.id c.write_into.result c.write_into.ensures.cost

pub returns-clause-bound : goal.returns-clause-bound
returns-clause-bound c =
    giving_bounded _ c.args.self.now c.self.view_is (record { core = c.write_into.new.self; meter = c.write_into.new.meter }) c.args.id c.write_into.result c.self.invariant.reached c.write_into.ensures.cost
