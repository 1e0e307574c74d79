use Rattle.std.proofs.lemmas.Result.{err_from_is_err_and}
use Rattle.std.proofs.Common.{refl, rules}
use Rattle.rb_core.specs.contracts.holding.Core.{the_view}
use Rattle.rb_core.proofs.Steps.{closed_acts, closed_refused}
use Rattle.rb_core.proofs.Begun.{with_steps_before, acts_begun}
use Rattle.rb_core.proofs.Cores.{core_changed}
use Rattle.rb_core.proofs.holding.Core.closed.Goals as goal

pub returns-in_err-close-clause-acts : goal.returns-in_err-close-clause-acts
returns-in_err-close-clause-acts c =
    let p = err_from_is_err_and c.from_residual.result c.from_residual.ensures.1 in
    rw (p.1, p.2, c.in_err-close.ensures.refused) (
    acts_begun _ (the_view c.self.inside) c.args.self.now _ c.count-self-inside.result _ c.self.view_is
    (closed_refused (with_steps_before (the_view c.self.inside) c.count-self-inside.result) c.args.id c.close.new.self _ (c.in_err-close.ensures.acts c.self.inside.books.registry)))

pub returns-clause-acts : goal.returns-clause-acts
returns-clause-acts c =
    acts_begun _ (the_view c.self.inside) c.args.self.now _ c.count-self-inside.result _ c.self.view_is
    (closed_acts (with_steps_before (the_view c.self.inside) c.count-self-inside.result) c.args.id c.close.new.self c.drop_caller.new.self _ c.drop_caller.ensures.registry c.in_ok-close.ensures.goes_on.stays c.drop_caller.ensures.frame (c.in_ok-close.ensures.acts c.self.inside.books.registry) c.drop_caller.ensures.dropped)

pub invariant_of-self-2 : goal.invariant_of-self-2
invariant_of-self-2 c =
    core_changed _ _ _ _ _ _ _ _ _ _ _ _ _ c.self.invariant c.in_ok-close.ensures.goes_on.stays c.drop_caller.ensures.frame refl refl c.self.invariant.len c.self.invariant.short
    (search rules) (rw c.drop_caller.ensures.registry (c.in_ok-close.ensures.goes_on.lists c.self.inside.books.registry c.self.invariant.lists))
    c.self.invariant.is_draft c.self.invariant.empty c.self.invariant.has_arguments
