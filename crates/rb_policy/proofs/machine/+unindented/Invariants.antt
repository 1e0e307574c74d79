-- The text is one byte shorter.
use Rattle.std.proofs.Common.{length}
use Rattle.rb_policy.proofs.machine.+unindented.Given as goal

abbrev pub decreases-unindented : goal.decreases-unindented
decreases-unindented l = length l.text.now
