use Rattle.std.proofs.Common.{drop}
use Rattle.rb_links.specs.declared.places.Places.{Places}
use Rattle.rb_around.specs.Turning.{ServesEach}
use Rattle.rb_inside.proofs.served.go_on_each.Given as goal

-- whatever the places become once the others have gone on, they become once all have
abbrev pub invariant-loop-held : goal.invariant-loop-held
invariant-loop-held g l = (x : Places) → ServesEach (drop l.held-index l.all) l.places x → ServesEach l.all l.fn.places x
