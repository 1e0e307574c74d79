use Rattle.rb_engine.proofs.Rows.{one_more, fewer_left}
use Rattle.rb_engine.proofs.engine.count_rows.Goals as goal

pub rows-preserved : goal.rows-preserved
rows-preserved c =
    one_more _ _ _ _ c.rows.invariant c.in-Some._row.now c.in-Some.ensures.row c.next_row.new.cursor c.in-Some.ensures.place c.in-Some.ensures.passed
    _ _ (rw c.in-Some.is at c.next_row.follows.holds-at-none)

pub rows-smaller : goal.rows-smaller
rows-smaller c =
    fewer_left _ _ _ _ c.rows.invariant c.in-Some._row.now c.in-Some.ensures.row c.next_row.new.cursor c.in-Some.ensures.place c.in-Some.ensures.passed
    _ _ (rw c.in-Some.is at c.next_row.follows.holds-at-none)
