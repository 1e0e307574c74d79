-- The first of the three is one shorter.
use Rattle.std.proofs.Common.{length}
use Rattle.rb_policy.proofs.machine.+are_within.Given as goal

abbrev pub decreases-are_within : goal.decreases-are_within
decreases-are_within l = length l.first.now
