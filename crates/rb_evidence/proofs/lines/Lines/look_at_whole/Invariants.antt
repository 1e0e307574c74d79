-- The lines so far were looked at.
use Rattle.std.proofs.Common.{length}
use Rattle.rb_evidence.specs.Walks.{HasPassed}
use Rattle.rb_evidence.proofs.lines.Lines.look_at_whole.Given as goal

abbrev pub invariant-lines : goal.invariant-lines
invariant-lines l = HasPassed l.fn.self l.self l.fn.sights l.sights

abbrev pub decreases-lines : goal.decreases-lines
decreases-lines l = length l.self
