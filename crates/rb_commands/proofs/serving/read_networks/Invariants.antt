use Rattle.std.proofs.Common.{◌≡◌, drop, length}
use Rattle.rb_commands.specs.Serving.{network_at, networks_from}
use Rattle.rb_commands.proofs.Binds.{with_front}
use Rattle.rb_commands.proofs.serving.read_networks.Given as goal

abbrev pub invariant-loop-text : goal.invariant-loop-text
invariant-loop-text l = with_front network_at l.networks (networks_from (length l.networks) (drop l.text-index l.texts)) ≡ networks_from 0 l.texts
