use Rattle.std.proofs.Common.{◌∙◌}
use Rattle.rb_core.proofs.Metering.{bounded}
use Rattle.rb_core.proofs.RowLooks.{row_within}
use Rattle.rb_core.proofs.metered.Metered.row_at.Goals as goal

pub invariant_of-self : goal.invariant_of-self
invariant_of-self c = record { tie = c.row_at.ensures.cost.tie ∙ c.self.invariant.tie; reached = c.self.invariant.reached }

pub returns-clause-bound : goal.returns-clause-bound
returns-clause-bound c =
    bounded _ c.args.self.now c.self.view_is (record { core = c.self.inside.core; meter = c.row_at.new.meter }) 0 0 c.self.invariant.reached (row_within _ _ _ c.row_at.ensures.cost)
