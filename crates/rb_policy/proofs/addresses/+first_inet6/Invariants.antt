use Rattle.std.proofs.Common.{length}
use Rattle.rb_policy.proofs.addresses.+first_inet6.Given as goal

abbrev pub decreases-first_inet6 : goal.decreases-first_inet6
decreases-first_inet6 l = length l.hosts.now
