use Rattle.std.proofs.Common.{◌≡◌, drop, length}
use Rattle.rb_commands.specs.Serving.{host_at, hosts_from}
use Rattle.rb_commands.proofs.Binds.{with_front}
use Rattle.rb_commands.proofs.serving.read_hosts.Given as goal

abbrev pub invariant-loop-text : goal.invariant-loop-text
invariant-loop-text l = with_front host_at l.hosts (hosts_from (length l.hosts) (drop l.text-index l.texts)) ≡ hosts_from 0 l.texts
