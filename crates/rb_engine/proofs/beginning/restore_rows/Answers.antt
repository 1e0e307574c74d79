use Rattle.rb_engine.proofs.Restorings.{none_again, more_again, all_again}
use Rattle.rb_engine.proofs.beginning.restore_rows.Goals as goal

pub loop-row-init : goal.loop-row-init
loop-row-init g c = none_again _ _

pub loop-row-preserved : goal.loop-row-preserved
loop-row-preserved g c = more_again c.args.rows.now c.loop-row.row-index c.row-item.result _ _ _ c.loop-row-test.true c.row-item.is c.loop-row.invariant c.restore_row.ensures.acts c.restore_row.ensures.moment

pub returns : goal.returns
returns g c = all_again c.args.rows.now c.loop-row.row-index _ _ c.loop-row-test.false c.loop-row.invariant
