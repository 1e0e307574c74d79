use Rattle.std.proofs.Common.{is_some, sym, ap, arith}
use Rattle.rb_registry.proofs.MappedRows.{seen_within, seen_found, seen_next}
use Rattle.rb_registry.proofs.table.Table.mapped_next.Goals as goal

pub index-requires : goal.index-requires
index-requires c =
    let within = seen_within c.self.inside.slots.entries c.self.inside.mapped.items c.args.place c.in_ok-key.key c.in_ok-key.ensures.distinct (sym c.in_ok-key.ensures.key) c.self.invariant.0 in
    omega (arith, within, c.self.inside.mapped.ok.0)

pub returns-clause-next : goal.returns-clause-next
returns-clause-next c =
    rw (← c.self.view_is)
    (seen_next c.self.inside.slots.entries c.self.inside.mapped.items c.args.place c.in_ok-key.key c.in_ok-key.ensures.distinct (sym c.in_ok-key.ensures.key) c.self.invariant.0 c.index.result.now c.index.ensures)

pub returns-clause-there : goal.returns-clause-there
returns-clause-there c =
    rw (← c.self.view_is)
    (ap is_some (seen_found c.self.inside.slots.entries c.self.inside.mapped.items c.args.place c.in_ok-key.key c.in_ok-key.ensures.distinct (sym c.in_ok-key.ensures.key) c.self.invariant.0 c.index.result.now c.index.ensures))
