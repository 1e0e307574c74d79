use Rattle.std.proofs.Common.{sym, subst, ap, ◌∙◌}
use Rattle.std.specs.Map.{values_of}
use Rattle.rb_forward.specs.Forwards.{held}
use Rattle.rb_forward.specs.StandsFor.{StandsForForwards}
use Rattle.rb_forward.proofs.Stands.{held_alike}
use Rattle.rb_forward.proofs.TableSteps.{held_within}
use Rattle.rb_forward.proofs.forwards.Forwards.held.Goals as goal

pub returns-clause-entries : goal.returns-clause-entries
returns-clause-entries c = λ f h.
    let z = subst (λ t. StandsForForwards t f) (sym c.self.view_is) h in
    c.self.invariant.is_held ∙ held_alike c.self.inside.first_xid (values_of c.self.inside.slots.entries) f z.all ∙ ap (λ t. held t.first_xid f) c.self.view_is

pub returns-clause-bound : goal.returns-clause-bound
returns-clause-bound c = rw (← c.self.view_is) (held_within c.self.inside.slots c.self.inside.spare c.self.inside.cap c.self.inside.held c.self.invariant)
