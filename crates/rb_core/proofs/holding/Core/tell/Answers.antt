use Rattle.std.proofs.Common.{rules}
use Rattle.rb_core.proofs.Cores.{core_moved}
use Rattle.rb_core.proofs.holding.Core.tell.Goals as goal

pub invariant_of-self : goal.invariant_of-self
invariant_of-self c =
    core_moved _ _ _ _ _ _ _ _ _ _ c.self.invariant c.settle.ensures.stays (search rules) (λ told. c.settle.ensures.lists)
    (search rules) (search rules) c.self.invariant.has_arguments
