use Rattle.std.proofs.Common.{sym, subst}
use Rattle.rb_model.specs.Step.{pending}
use Rattle.rb_core.specs.StandsFor.{CoreView, StandsFor}
use Rattle.rb_core.proofs.holding.Core.lend_pending.Goals as goal

pub returns-clause-lent : goal.returns-clause-lent
unfolding pending
returns-clause-lent c = λ s h.
    let z = subst (λ (held : CoreView). StandsFor held s) (sym c.self.view_is) h in
    c.pending.ensures.lent c.self.inside.books.registry s.connections z.connections
