-- Connections whose replies waited have gone on, and none of them counts as served.
use Rattle.std.proofs.Common.{List, [], ◌∷◌, refl, ◌∙◌}
use Rattle.rb_links.specs.declared.places.Places.{Places}
use Rattle.rb_around.specs.declared.held.HeldLink.{HeldLink}
use Rattle.rb_around.specs.Turning.{ServesNone, ServesEach}

pub each_serves_none : (all : List HeldLink) (old new : Places) → ServesEach all old new → ServesNone old new
unfolding ServesEach
each_serves_none [] old new same = rw same (record { served = refl; count = refl })
each_serves_none (held ∷ more) old new each =
    let rest = each_serves_none more each.mid new each.after in
    record { served = rest.served ∙ each.before.none.served; count = rest.count ∙ each.before.none.count }
