use Rattle.std.specs.Prelude.{false}
use Rattle.rb_xdr.specs.Xdr.{boolean}
use Rattle.rb_answers.proofs.Searching.{nothing_written, row_written, row_fits, end_fits, all_written, sought_now, sought_found}
use Rattle.rb_answers.proofs.rows.write_rows.Goals as goal

pub rows-init : goal.rows-init
rows-init c =
    nothing_written _ _ c.args.registry.now _ c.requires.sought _ _ _ (c.start-cursor.ensures.place c.args.registry.now c.args.stamp c.requires.stamp)
    (c.start-cursor.ensures.passed c.args.registry.now c.args.stamp) (c.start-cursor.ensures.slots c.args.registry.now)

pub next_row-requires-clause-found : goal.next_row-requires-clause-found
next_row-requires-clause-found c = sought_found _ _ _ _ c.requires.sought

pub next_row-requires-clause-now : goal.next_row-requires-clause-now
next_row-requires-clause-now c = sought_now _ _ _ _ c.requires.sought

pub write_row-requires-clause-room : goal.write_row-requires-clause-room
write_row-requires-clause-room c short =
    row_fits _ _ _ _ c.requires.sought _ _ _ _ _ c.rows.invariant c.in-Some.found.1.now c.in-Some.found.0 c.in-Some.ensures.row (boolean false) c.requires.room

pub rows-preserved : goal.rows-preserved
rows-preserved c =
    row_written _ _ _ _ c.requires.sought _ _ _ _ _ c.rows.invariant c.in-Some.found.1.now c.in-Some.found.0 c.in-Some.ensures.row c.write_row.new.out c.next_row.new.meter c.write_row.new.meter c.write_row.ensures.written _ c.next_row.ensures.cost c.in-Some.ensures.cost_row c.write_row.ensures.cost

pub write-requires-clause-room : goal.write-requires-clause-room
write-requires-clause-room c = end_fits _ _ _ _ c.requires.sought _ _ _ _ _ c.rows.invariant (boolean false) c.requires.room

pub returns-clause-written : goal.returns-clause-written
returns-clause-written c = all_written _ _ _ _ c.requires.sought _ _ _ _ _ c.rows.invariant (boolean false) c.write.new.out (rw c.in_default.is at c.next_row.ensures.end) c.write.ensures.written
