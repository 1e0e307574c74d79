use Rattle.rb_engine.proofs.Restorings.{zeroed, left_alone}
use Rattle.rb_engine.proofs.beginning.restore.Goals as goal

pub returns-then-is_empty : goal.returns-then-is_empty
returns-then-is_empty g c = left_alone c.args.rows.now c.args.engine.now c.restore_rows.new.engine c.is_empty.result c.is_empty.ensures c.if-is_empty.true c.in_ok-restore_rows.ensures

pub returns : goal.returns
returns g c = zeroed c.args.rows.now c.args.engine.now c.restore_rows.new.engine c.zero_stats.new.self c.is_empty.result c.is_empty.ensures c.if-is_empty.false c.in_ok-restore_rows.ensures c.zero_stats.ensures.acts
