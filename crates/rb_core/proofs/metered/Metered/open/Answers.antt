use Rattle.std.proofs.Common.{◌∙◌, sym}
use Rattle.rb_core.proofs.Reached.{opened_reached}
use Rattle.rb_core.proofs.metered.Metered.open.Goals as goal

pub invariant_of-self : goal.invariant_of-self
invariant_of-self c = record {
  tie = c.open.ensures.cost.tie ∙ c.self.invariant.tie ∙ sym c.open.ensures.tie;
  reached = opened_reached _ _ c.self.invariant.reached c.args.now c.args.who _ c.open.ensures.acts;
}
