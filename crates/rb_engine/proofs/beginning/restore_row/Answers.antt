use Rattle.rb_engine.proofs.Restorings.{one_again}
use Rattle.rb_engine.proofs.beginning.restore_row.Goals as goal

pub returns-in_err-push-clause-acts : goal.returns-in_err-push-clause-acts
returns-in_err-push-clause-acts g c = one_again c.args.engine.now c.restore-is_set.new.self c.note.new.engine c.args.row.now c.restore-is_set.ensures.acts c.note.ensures.engine

pub returns-in_ok-push-clause-acts : goal.returns-in_ok-push-clause-acts
returns-in_ok-push-clause-acts g c = one_again c.args.engine.now c.restore-is_set.new.self c.note.new.engine c.args.row.now c.restore-is_set.ensures.acts c.note.ensures.engine

pub returns-else-not-is_set-clause-acts : goal.returns-else-not-is_set-clause-acts
returns-else-not-is_set-clause-acts g c = one_again c.args.engine.now c.restore-is_set.new.self c.note.new.engine c.args.row.now c.restore-is_set.ensures.acts c.note.ensures.engine
