use Rattle.std.proofs.Common.{length}
use Rattle.rb_policy.proofs.addresses.+first_inet.Given as goal

abbrev pub decreases-first_inet : goal.decreases-first_inet
decreases-first_inet l = length l.hosts.now
