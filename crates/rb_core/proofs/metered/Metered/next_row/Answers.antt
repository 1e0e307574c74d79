use Rattle.std.proofs.Common.{◌∙◌}
use Rattle.rb_core.proofs.metered.Metered.next_row.Goals as goal

pub invariant_of-self : goal.invariant_of-self
invariant_of-self c = record { tie = c.lend_row.ensures.cost.tie ∙ c.self.invariant.tie; reached = c.self.invariant.reached }
