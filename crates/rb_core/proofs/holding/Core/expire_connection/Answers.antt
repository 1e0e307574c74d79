use Rattle.std.proofs.Common.{◌≡◌, sym, ap, ◌∙◌}
use Rattle.rb_model.specs.Ending.{lost_as, expire_connection}
use Rattle.rb_core.specs.contracts.holding.Core.{the_view}
use Rattle.rb_core.proofs.Steps.{acts_from}
use Rattle.rb_core.proofs.Expiries.{due_closed}
use Rattle.rb_core.proofs.Cores.{core_moved}
use Rattle.rb_core.proofs.Awaited.{awaited_by_table}
use Rattle.rb_core.proofs.holding.Core.expire_connection.Goals as goal
use Rattle.rb_core.proofs.holding.Core.expire_connection.Goals.{in-Some, in-None}

pub returns-clause-acts : goal.returns-clause-acts
returns-clause-acts c =
    let is : c.match-expire.result ≡ lost_as c.expire.result =
    elim c.match-expire.branch [ in-Some w ↦ w.result-is ∙ ap lost_as (sym w.in-Some.is) | in-None w ↦ w.result-is ∙ ap lost_as (sym w.in-None.is) ] in
    acts_from expire_connection (the_view c.self.inside) c.args.self.now _ _ c.self.view_is
    (due_closed (the_view c.self.inside) c.expire.new.self c.expire.result c.match-expire.result is c.expire.ensures.goes_on.stays (c.expire.ensures.acts c.self.inside.books.registry))

pub invariant_of-self : goal.invariant_of-self
invariant_of-self c =
    core_moved _ _ _ _ _ _ _ _ _ _ c.self.invariant c.expire.ensures.goes_on.stays (awaited_by_table c.self.inside.books.forwards _ _ c.self.invariant.awaited c.expire.ensures.goes_on.free) (c.expire.ensures.goes_on.lists _)
    c.self.invariant.is_draft c.self.invariant.empty c.self.invariant.has_arguments
