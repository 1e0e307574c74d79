use Rattle.std.proofs.Common.{length}
use Rattle.rb_address.proofs.network.+is_clear_behind.Given as goal

abbrev pub decreases-is_clear_behind : goal.decreases-is_clear_behind
decreases-is_clear_behind l = length l.octets.now
