use Rattle.std.proofs.Common.{arith}
use Rattle.std.proofs.lemmas.List.{length-set}
use Rattle.rb_registry.proofs.MappedRows.{mapped-push}
use Rattle.rb_registry.proofs.table.Table.insert.Goals as goal

pub invariant_of-self-2 : goal.invariant_of-self-2
invariant_of-self-2 c =
    rw (c.in_ok-key.ensures.ok, c.of-mapped.ensures) (
      mapped-push c.self.inside.slots.entries c.self.inside.mapped.items c.in_ok-key.key c.args.slot c.in_ok-key.ensures.fresh (omega (arith, c.in_ok-key.ensures.below, c.self.invariant.1)) c.self.invariant.0,
      rw length-set c.self.invariant.1,
    )
