use Rattle.rb_links.proofs.Looks.{seen_none, seen_next, seen_all}
use Rattle.rb_links.proofs.places.note_all.Goals as goal

pub places-init : goal.places-init
places-init c = seen_none _ _ _

pub places-preserved : goal.places-preserved
places-preserved c = seen_next _ _ _ _ _ _ _ _ c.places.invariant c.note_at.ensures.here c.note_at.ensures.others c.note_at.ensures.sights

pub returns : goal.returns
returns c = seen_all _ _ _ _ _ _ c.places.invariant c.places-test.false
