use Rattle.std.proofs.Common.{◌≤◌, subst}
use Rattle.rb_model.specs.Bounds.{bytes_bound}
use Rattle.rb_core.specs.HeldBytes.{held}
use Rattle.rb_core.specs.Metered.{Metered}
use Rattle.rb_core.proofs.Reached.{held_within}
use Rattle.rb_core.proofs.metered.Metered.held.Goals as goal

pub returns-clause-few : goal.returns-clause-few
returns-clause-few c =
    subst (λ (m : Metered). held m.core ≤ bytes_bound m.core.setting.limits) c.self.view_is (held_within _ c.self.invariant.reached)
