use Rattle.std.proofs.Common.{ℕ, List, arith, get_or, ◌∙◌, ap, sym}
use Rattle.std.specs.Prelude.{slice_set}
use Rattle.std.proofs.lemmas.List.Edits.{map_over_more}
use Rattle.rb_evidence.specs.Walks.{place_after}
use Rattle.rb_evidence.proofs.sight.look_at.Goals as goal

pub loop-place-preserved : goal.loop-place-preserved
loop-place-preserved c =
    let places = c.loop-place.sights in
    let i = c.loop-place.place-index in
    let place = c.place-item.result in
    ap (slice_set places i)
    (c.look_at_for.ensures ∙ ap (λ (t : List ℕ). place_after t (get_or places i place)) c.new-line.ensures ∙ ap (place_after c.args.line.now) (sym c.place-item.is))
    ∙ map_over_more (place_after c.args.line.now) c.args.sights.now places i place (omega arith) c.loop-place.invariant c.place-item.is
