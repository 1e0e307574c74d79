use Rattle.std.proofs.Common.{sym}
use Rattle.std.proofs.lemmas.List.{length-set}
use Rattle.rb_registry.proofs.MappedRows.{mapped-with}
use Rattle.rb_registry.proofs.table.Table.mark.Goals as goal

pub invariant_of-self : goal.invariant_of-self
invariant_of-self c =
    rw c.end.ensures (
      mapped-with c.self.inside.slots.entries c.self.inside.mapped.items c.args.key c.in-Some.slot.now _ (sym c.in-Some.ensures.value) c.self.invariant.0,
      rw length-set c.self.invariant.1,
    )
