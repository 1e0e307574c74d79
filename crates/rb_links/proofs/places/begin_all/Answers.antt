use Rattle.std.proofs.Common.{arith, ◌∙◌, ap, sym}
use Rattle.std.specs.Prelude.{slice_set}
use Rattle.std.proofs.lemmas.List.Edits.{map_over_more}
use Rattle.rb_links.specs.Served.{in_pass}
use Rattle.rb_links.proofs.places.begin_all.Goals as goal

pub loop-link-preserved : goal.loop-link-preserved
loop-link-preserved c =
    ap (slice_set c.loop-link.links c.loop-link.link-index) (c.begin_pass.ensures ∙ ap in_pass (sym c.link-item.is))
    ∙ map_over_more in_pass c.args.links.now c.loop-link.links c.loop-link.link-index c.link-item.result (omega arith) c.loop-link.invariant c.link-item.is
