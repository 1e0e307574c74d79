use Rattle.std.proofs.Common.{sym}
use Rattle.rb_answers.specs.Results.{row_bytes, mapping_of}
use Rattle.rb_answers.proofs.MappingItems.{mapping_item_length, leaves_by_length}
use Rattle.rb_answers.proofs.rows.room_after_row.Goals as goal

pub returns-in-Mappings : goal.returns-in-Mappings
unfolding row_bytes
returns-in-Mappings c =
    rw (c.in-Mappings.is, ← (rw c.in-Mappings.is at c.if-not-is_shown.ensures)) (leaves_by_length _ 20 c.args.room c.checked_sub.result (mapping_item_length (mapping_of c.args.listed.now)) c.checked_sub.ensures)

pub returns-in-Rpcbs : goal.returns-in-Rpcbs
unfolding row_bytes
returns-in-Rpcbs c =
    rw c.in-Rpcbs.is (leaves_by_length _ c.item_len.result c.args.room c.checked_sub-in-Rpcbs.result (sym c.item_len.ensures.len) c.checked_sub-in-Rpcbs.ensures)
