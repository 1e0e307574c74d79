use Rattle.std.proofs.Common.{◌≡◌, ◌∙◌, ap, arith, take}
use Rattle.std.specs.List.{flat_map}
use Rattle.std.proofs.lemmas.List.{take_all}
use Rattle.rb_plans.specs.Networks.{networks_in_line}
use Rattle.rb_plans.proofs.Pieces.{flat_map_now}
use Rattle.rb_plans.proofs.networks.read_networks.Goals as goal

pub returns : goal.returns
returns c =
    let lines = c.in_ok-lines.lines.items in
    let all : take c.loop-line.line-index c.deref-line-items.result.now ≡ lines = take_all c.loop-line.line-index c.deref-line-items.result.now (omega arith) ∙ c.deref-line-items.ensures.value in
    c.loop-line.invariant ∙ ap (flat_map (λ line. networks_in_line line.now)) all ∙ flat_map_now networks_in_line lines ∙ ap (flat_map networks_in_line) c.in_ok-lines.ensures
