use Rattle.rb_connections.proofs.Holding.{held_within}
use Rattle.rb_connections.proofs.connections.Connections.held.Goals as goal

pub returns-clause-bound : goal.returns-clause-bound
returns-clause-bound c = rw (← c.self.view_is) (held_within c.self.inside.slots c.self.inside.spare c.self.inside.last_number c.self.inside.conns c.self.inside.held c.self.invariant)
