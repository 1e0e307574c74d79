use Rattle.std.proofs.Common.{sym, subst}
use Rattle.rb_model.specs.NextDeadlines.{next_deadline}
use Rattle.rb_core.specs.StandsFor.{StandsFor}
use Rattle.rb_core.proofs.holding.Core.next_deadline.Goals as goal

pub returns-clause-soonest : goal.returns-clause-soonest
unfolding next_deadline
returns-clause-soonest c = λ s h.
    let z = subst (λ held. StandsFor held s) (sym c.self.view_is) h in
    rw (← c.next_deadline-of_connections.ensures.soonest c.self.inside.books.registry s.connections z.connections, ← c.next_deadline-of_forwards.ensures.soonest s.ledger.forwards z.ledger.forwards)
    c.sooner.ensures
