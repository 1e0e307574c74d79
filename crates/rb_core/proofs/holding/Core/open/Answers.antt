use Rattle.std.proofs.lemmas.Result.{err_from_is_err_and}
use Rattle.rb_core.specs.contracts.holding.Core.{the_view}
use Rattle.rb_core.proofs.Steps.{open_done, open_refused}
use Rattle.rb_core.proofs.Begun.{with_steps_before, acts_begun}
use Rattle.rb_core.proofs.Cores.{core_moved}
use Rattle.rb_core.proofs.Awaited.{awaited_by_table}
use Rattle.rb_core.proofs.holding.Core.open.Goals as goal

pub returns-in_err-number-clause-acts : goal.returns-in_err-number-clause-acts
returns-in_err-number-clause-acts c =
    let p = err_from_is_err_and c.from_residual.result c.from_residual.ensures.1 in
    rw (p.1, p.2, c.in_err-number.ensures.refused) (
    acts_begun _ (the_view c.self.inside) c.args.self.now _ c.count-self-inside.result _ c.self.view_is
    (open_refused (with_steps_before (the_view c.self.inside) c.count-self-inside.result) c.args.now c.max-clock.result c.max-clock.ensures c.open.new.self c.args.who _ (c.in_err-number.ensures.acts c.self.inside.books.registry)))

pub returns-clause-acts : goal.returns-clause-acts
returns-clause-acts c =
    acts_begun _ (the_view c.self.inside) c.args.self.now _ c.count-self-inside.result _ c.self.view_is
    (open_done (with_steps_before (the_view c.self.inside) c.count-self-inside.result) c.args.now c.max-clock.result c.max-clock.ensures c.open.new.self c.args.who c.in_ok-number.number c.in_ok-number.ensures.goes_on.stays (c.in_ok-number.ensures.acts c.self.inside.books.registry))

pub invariant_of-self-2 : goal.invariant_of-self-2
invariant_of-self-2 c =
    core_moved _ _ _ _ _ _ _ _ _ _ c.self.invariant c.in_ok-number.ensures.goes_on.stays (awaited_by_table c.self.inside.books.forwards _ _ c.self.invariant.awaited c.in_ok-number.ensures.goes_on.free) (c.in_ok-number.ensures.goes_on.lists _)
    c.self.invariant.is_draft c.self.invariant.empty c.self.invariant.has_arguments
