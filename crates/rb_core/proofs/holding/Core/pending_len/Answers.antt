use Rattle.std.proofs.Common.{sym, subst}
use Rattle.rb_model.specs.Step.{pending}
use Rattle.rb_core.specs.StandsFor.{StandsFor}
use Rattle.rb_core.proofs.holding.Core.pending_len.Goals as goal

pub returns-clause-len : goal.returns-clause-len
unfolding pending
returns-clause-len c = λ s h.
    let z = subst (λ held. StandsFor held s) (sym c.self.view_is) h in
    c.pending_len.ensures.len c.self.inside.books.registry s.connections z.connections
