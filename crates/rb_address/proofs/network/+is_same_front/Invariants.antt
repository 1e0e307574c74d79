use Rattle.std.proofs.Common.{length}
use Rattle.rb_address.proofs.network.+is_same_front.Given as goal

abbrev pub decreases-is_same_front : goal.decreases-is_same_front
decreases-is_same_front l = length l.a.now
