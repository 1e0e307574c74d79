use Rattle.std.proofs.Common.{arith}
use Rattle.rb_registry.proofs.Holding.{held_bound}
use Rattle.rb_registry.proofs.registry.Registry.held.Goals as goal

pub returns-clause-bound : goal.returns-clause-bound
returns-clause-bound c =
    let most = held_bound c.self.inside.changes c.self.inside.slots.entries c.self.invariant.stamped in
    rw (← c.self.view_is) (omega (arith, most, c.self.invariant.within, c.self.invariant.is_held))
