use Rattle.rb_engine.proofs.Restorings.{AreAgain}
use Rattle.rb_engine.proofs.beginning.restore_rows.Given as goal

abbrev pub invariant-loop-row : goal.invariant-loop-row
invariant-loop-row g l = AreAgain l.rows l.row-index l.fn.engine l.engine
