use Rattle.std.proofs.Common.{sym}
use Rattle.rb_stats.specs.Statistics.{Count}
use Rattle.rb_stats.specs.Table.{is_item}
use Rattle.rb_stats.proofs.Entries.{has_value, values-with, table-with}
use Rattle.rb_stats.proofs.table.count_at.Goals as goal

pub unreachable-requires : goal.unreachable-requires
unreachable-requires c = has_value (is_item c.args.key) c.args.items.now.entries c.args.place c.requires.found (sym c.in_default.ensures.value)

pub returns-clause-items : goal.returns-clause-items
returns-clause-items c =
    let one : Count = record { key = c.args.key; passed = c.args.passed; indirect = c.args.indirect } in
    rw c.count.ensures
    (values-with one c.args.items.now.entries c.args.place c.in-Some.item.now c.requires.table.distinct c.requires.found (sym c.in-Some.ensures.value) (c.requires.table.once c.args.key))

pub returns-clause-table : goal.returns-clause-table
returns-clause-table c =
    let one : Count = record { key = c.args.key; passed = c.args.passed; indirect = c.args.indirect } in
    rw c.count.ensures (table-with one c.args.items.now c.args.place c.in-Some.item.now c.requires.table c.requires.found (sym c.in-Some.ensures.value))
