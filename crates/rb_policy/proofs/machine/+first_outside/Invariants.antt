-- There is one host fewer.
use Rattle.std.proofs.Common.{length}
use Rattle.rb_policy.proofs.machine.+first_outside.Given as goal

abbrev pub decreases-first_outside : goal.decreases-first_outside
decreases-first_outside l = length l.hosts.now
