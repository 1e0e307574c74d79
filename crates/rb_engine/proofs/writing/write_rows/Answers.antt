use Rattle.rb_engine.proofs.Walks.{row_written, all_written}
use Rattle.rb_engine.proofs.writing.write_rows.Goals as goal

pub rows-preserved : goal.rows-preserved
rows-preserved g c =
    row_written _ _ _ _ _ c.rows.invariant c.in-Some.row.now c.next_row.new.cursor c.in-Some.ensures.row c.in-Some.ensures.place c.in-Some.ensures.passed
    _ _ c.clock-now.ensures.value c.in_ok-write_where_set.ensures _ _ (rw c.in-Some.is at c.next_row.follows.holds-at-none)

pub returns-clause-written : goal.returns-clause-written
returns-clause-written g c = λ s h r. all_written _ _ _ _ _ _ c.rows.invariant c.in_default.ensures.unmoved c.in_default.ensures.end s h r
