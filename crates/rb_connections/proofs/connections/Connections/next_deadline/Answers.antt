use Rattle.std.specs.Map.{values_of}
use Rattle.std.proofs.Common.{sym, subst, ap, ◌∙◌, rules}
use Rattle.rb_forward.specs.Deadlines.{soonest_of}
use Rattle.rb_connections.specs.StandsFor.{StandsForConnections}
use Rattle.rb_connections.specs.Deadlines.{slot_deadline}
use Rattle.rb_connections.proofs.Soonest.{deadlines_alike}
use Rattle.rb_connections.proofs.connections.Connections.next_deadline.Goals as goal

pub returns-clause-soonest : goal.returns-clause-soonest
returns-clause-soonest c = λ registry o h.
    let z = subst (λ t. StandsForConnections registry t o) (sym c.self.view_is) h in
    c.soonest_in.ensures.soonest slot_deadline (λ slot answer returns. search rules) ∙ ap soonest_of (deadlines_alike registry (values_of c.self.inside.slots.entries) o.all z.all)
