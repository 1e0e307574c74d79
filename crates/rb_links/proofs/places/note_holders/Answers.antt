use Rattle.std.proofs.Common.{arith}
use Rattle.rb_links.proofs.Holders.{noted_next, noted_all}
use Rattle.rb_links.proofs.places.note_holders.Goals as goal

pub holders-init : goal.holders-init
holders-init c = λ k less. absurd (omega (arith, less))

pub holders-preserved : goal.holders-preserved
holders-preserved c = noted_next _ _ _ _ c.holders.invariant c.note_holder.ensures.here c.note_holder.ensures.others

pub returns : goal.returns
returns c = noted_all _ _ _ c.holders.invariant c.holders-test.false
