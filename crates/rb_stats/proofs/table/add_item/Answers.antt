use Rattle.std.proofs.Common.{◌≡◌, ap, ◌∙◌}
use Rattle.rb_stats.specs.Statistics.{Count}
use Rattle.rb_stats.specs.Table.{is_item, item_after, new_item}
use Rattle.rb_stats.proofs.Entries.{none-found, room_left, table-push}
use Rattle.rb_stats.proofs.table.add_item.Goals as goal

pub add-requires-clause-room : goal.add-requires-clause-room
add-requires-clause-room c =
    let one : Count = record { key = c.args.key; passed = c.args.passed; indirect = c.args.indirect } in
    room_left one c.args.items.now c.requires.table c.requires.room

pub returns-clause-table : goal.returns-clause-table
returns-clause-table c =
    let one : Count = record { key = c.args.key; passed = c.args.passed; indirect = c.args.indirect } in
    let is : c.count.new.self ≡ item_after c.args.passed c.args.indirect (new_item c.args.key) = c.count.ensures ∙ ap (item_after c.args.passed c.args.indirect) c.new-item.ensures in
    rw (c.add.ensures.entry, is)
    (table-push one c.args.items.now c.requires.table c.add.result (none-found (is_item c.args.key) c.args.items.now.entries c.requires.missing) c.requires.room c.add.ensures.fresh)
