use Rattle.rb_links.proofs.Looks.{SeenBefore}
use Rattle.rb_links.proofs.places.note_all.Given as goal

abbrev pub invariant-places : goal.invariant-places
invariant-places l = SeenBefore l.key l.is_whole l.fn.sights l.sights l.fn.links l.links
