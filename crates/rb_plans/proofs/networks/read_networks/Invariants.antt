-- The networks of the lines so far are there.
use Rattle.std.proofs.Common.{◌≡◌, take}
use Rattle.std.specs.List.{flat_map}
use Rattle.rb_plans.specs.Networks.{networks_in_line}
use Rattle.rb_plans.proofs.networks.read_networks.Given as goal

abbrev pub invariant-loop-line : goal.invariant-loop-line
invariant-loop-line l = l.networks.items ≡ flat_map (λ line. networks_in_line line.now) (take l.line-index l.line-items)
