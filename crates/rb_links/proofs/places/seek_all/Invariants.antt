use Rattle.rb_links.proofs.Looks.{SoughtBefore}
use Rattle.rb_links.proofs.places.seek_all.Given as goal

abbrev pub invariant-places : goal.invariant-places
invariant-places l = SoughtBefore l.key l.table l.links l.sights
