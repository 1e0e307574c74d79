use Rattle.std.proofs.lemmas.Result.{err_from_is_err_and}
use Rattle.std.proofs.Common.{subst}
use Rattle.rb_core.specs.CallCosts.{PaysToGive}
use Rattle.rb_core.specs.StandsFor.{CoreView}
use Rattle.rb_core.specs.contracts.holding.Core.{the_view}
use Rattle.rb_core.proofs.Steps.{gave_done, gave_refused}
use Rattle.rb_core.proofs.Begun.{with_steps_before, acts_begun}
use Rattle.rb_core.proofs.holding.Core.gave.Goals as goal

pub returns-in_err-standing-clause-acts : goal.returns-in_err-standing-clause-acts
returns-in_err-standing-clause-acts c =
    let p = err_from_is_err_and c.from_residual.result c.from_residual.ensures.1 in
    rw (p.1, p.2, c.in_err-standing.ensures.refused) (
    acts_begun _ (the_view c.self.inside) c.args.self.now _ c.count-self-inside.result _ c.self.view_is
    (gave_refused (with_steps_before (the_view c.self.inside) c.count-self-inside.result) c.args.now c.max-clock.result c.max-clock.ensures c.gave.new.self c.args.id c.args.n _ c.in_err-standing.ensures.acts))

pub returns-clause-acts : goal.returns-clause-acts
returns-clause-acts c =
    acts_begun _ (the_view c.self.inside) c.args.self.now _ c.count-self-inside.result _ c.self.view_is
    (gave_done (with_steps_before (the_view c.self.inside) c.count-self-inside.result) c.args.now c.max-clock.result c.max-clock.ensures c.gave.new.self c.args.id c.args.n _ c.in_ok-standing.ensures.stays c.in_ok-standing.ensures.acts)

pub returns-clause-stands : goal.returns-clause-stands
returns-clause-stands c = λ s h. c.in_ok-standing.ensures.stands _ s.connections h.connections

-- ---- what it costs

pub returns-in_err-standing-clause-cost : goal.returns-in_err-standing-clause-cost
returns-in_err-standing-clause-cost c =
    subst (λ (held : CoreView). PaysToGive held c.args.id c.args.meter.now c.gave.new.meter) c.self.view_is (λ s h. c.in_err-standing.ensures.cost s.connections h.connections)

pub returns-clause-cost : goal.returns-clause-cost
returns-clause-cost c =
    subst (λ (held : CoreView). PaysToGive held c.args.id c.args.meter.now c.gave.new.meter) c.self.view_is (λ s h. c.in_ok-standing.ensures.cost s.connections h.connections)
