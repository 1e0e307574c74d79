use Rattle.rb_model.specs.Step.{zero_stats}
use Rattle.rb_core.specs.contracts.holding.Core.{the_view}
use Rattle.rb_core.proofs.Steps.{zeroed}
use Rattle.rb_core.proofs.Begun.{with_steps_before, acts_begun}
use Rattle.rb_core.proofs.holding.Core.zero_stats.Goals as goal

pub returns-clause-acts : goal.returns-clause-acts
returns-clause-acts c =
    acts_begun (λ s. (tt {0}, zero_stats s)) (the_view c.self.inside) c.args.self.now _ c.count-self-inside.result (tt {0}) c.self.view_is
    (zeroed (with_steps_before (the_view c.self.inside) c.count-self-inside.result) c.clear_stats.new.self c.clear_stats.ensures.registry c.clear_stats.ensures.frame c.clear_stats.ensures.cleared)
