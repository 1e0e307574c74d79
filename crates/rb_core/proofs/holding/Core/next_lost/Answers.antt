use Rattle.std.proofs.Common.{sym, subst}
use Rattle.rb_model.specs.Step.{next_lost}
use Rattle.rb_core.specs.StandsFor.{StandsFor}
use Rattle.rb_core.proofs.holding.Core.next_lost.Goals as goal

pub returns-clause-lost : goal.returns-clause-lost
unfolding next_lost
returns-clause-lost c = λ s h.
    let z = subst (λ held. StandsFor held s) (sym c.self.view_is) h in
    c.next_lost.ensures.lost c.self.inside.books.registry s.connections z.connections
