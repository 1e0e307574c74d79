use Rattle.rb_registry.proofs.MappedRows.{mapped-without}
use Rattle.rb_registry.proofs.table.Table.remove.Goals as goal

pub invariant_of-self : goal.invariant_of-self
invariant_of-self c =
    rw c.remove.ensures.entries
    (mapped-without c.self.inside.slots.entries c.self.inside.mapped.items c.args.key (rw c.self.view_is c.requires.distinct) c.self.invariant.0, c.self.invariant.1)
