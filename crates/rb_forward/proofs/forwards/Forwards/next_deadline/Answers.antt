use Rattle.std.specs.Map.{values_of}
use Rattle.std.proofs.Common.{Some, sym, subst, ap, ◌∙◌, rules}
use Rattle.rb_forward.specs.declared.entries.Slot.{Slot}
use Rattle.rb_forward.specs.StandsFor.{StandsForForwards}
use Rattle.rb_forward.specs.Deadlines.{soonest_of}
use Rattle.rb_forward.proofs.Soonest.{deadlines_alike}
use Rattle.rb_forward.proofs.forwards.Forwards.next_deadline.Goals as goal

pub returns-clause-soonest : goal.returns-clause-soonest
returns-clause-soonest c = λ f h.
    let z = subst (λ t. StandsForForwards t f) (sym c.self.view_is) h in
    c.soonest_in.ensures.soonest (λ (slot : Slot). Some slot.deadline) (λ slot told returns. search rules)
    ∙ ap soonest_of (deadlines_alike c.self.inside.first_xid (values_of c.self.inside.slots.entries) f.all z.all)
