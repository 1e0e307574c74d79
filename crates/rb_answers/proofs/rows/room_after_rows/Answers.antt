use Rattle.std.specs.Prelude.{false}
use Rattle.rb_xdr.specs.Xdr.{boolean}
use Rattle.rb_answers.proofs.Searching.{nothing_measured, row_measured, no_room, room_measured, sought_now, sought_found}
use Rattle.rb_answers.proofs.rows.room_after_rows.Goals as goal

pub rows-init : goal.rows-init
rows-init c =
    nothing_measured _ _ c.args.registry.now _ c.requires.sought _ _ _ (c.start-cursor.ensures.place c.args.registry.now c.args.stamp c.requires.stamp)
    (c.start-cursor.ensures.passed c.args.registry.now c.args.stamp) (c.start-cursor.ensures.slots c.args.registry.now)

pub next_row-requires-clause-found : goal.next_row-requires-clause-found
next_row-requires-clause-found c = sought_found _ _ _ _ c.requires.sought

pub next_row-requires-clause-now : goal.next_row-requires-clause-now
next_row-requires-clause-now c = sought_now _ _ _ _ c.requires.sought

pub rows-preserved : goal.rows-preserved
rows-preserved c =
    row_measured _ _ _ _ c.requires.sought _ _ _ _ _ c.rows.invariant c.in-Some.found.1.now c.in-Some.found.0 c.in-Some.ensures.row c.in_ok-left.left c.next_row.new.meter c.in_ok-left.ensures _ c.next_row.ensures.cost c.in-Some.ensures.cost_row

pub returns-in_err-left-clause-room : goal.returns-in_err-left-clause-room
returns-in_err-left-clause-room c =
    rw c.from_residual.ensures
    (no_room _ _ _ _ c.requires.sought _ _ _ _ _ c.rows.invariant c.in-Some.found.1.now c.in-Some.found.0 c.in-Some.ensures.row (boolean false) c.in_err-left.ensures)

pub returns-clause-room : goal.returns-clause-room
returns-clause-room c = room_measured _ _ _ _ c.requires.sought _ _ _ _ _ c.rows.invariant (boolean false) _ (rw c.in_default.is at c.next_row.ensures.end) c.room_after.ensures
