use Rattle.std.proofs.Common.{arith}
use Rattle.rb_links.proofs.Looks.{sought_next, sought_all}
use Rattle.rb_links.proofs.places.seek_all.Goals as goal

pub places-init : goal.places-init
places-init c = λ k less. absurd (omega (arith, less))

pub places-preserved : goal.places-preserved
places-preserved c = sought_next _ _ _ _ _ c.places.invariant c.seek_at-is_some.ensures.here c.seek_at-is_some.ensures.others

pub returns : goal.returns
returns c = sought_all _ _ _ _ c.places.invariant c.places-test.false
