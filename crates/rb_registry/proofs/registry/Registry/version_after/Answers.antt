use Rattle.std.proofs.Common.{◌≡◌, Some, None, ◌∙◌}
use Rattle.rb_registry.proofs.NextOf.{nothing_next, none_next, next_is}
use Rattle.rb_registry.proofs.Tables.{ours_if_own}
use Rattle.rb_registry.proofs.registry.Registry.version_after.Goals as goal

pub own_after-requires-clause-ours : goal.own_after-requires-clause-ours
own_after-requires-clause-ours c = ours_if_own c.self.inside.changes c.self.inside.slots.entries c.self.invariant.stamped

pub returns-in_err-after-clause-next : goal.returns-in_err-after-clause-next
returns-in_err-after-clause-next c =
    rw (← c.self.view_is, c.from_residual.ensures) (nothing_next c.args.version.now.prog c.args.version.now.vers c.self.inside.slots.entries c.self.invariant.distinct c.args.start c.in_err-after.ensures.added)

pub returns-in_err-key-clause-next : goal.returns-in_err-key-clause-next
returns-in_err-key-clause-next c =
    let none = rw (← c.self.view_is) at c.in_err-key.ensures.key in
    rw (← c.self.view_is, c.from_residual-in_err-key.ensures)
    (none_next c.args.version.now.prog c.args.version.now.vers c.self.inside.slots.entries c.self.invariant.distinct c.args.start c.in_ok-after.after c.self.invariant.ordered c.in_ok-after.ensures.added (rw c.in_default.is at c.own_after.ensures.none) none)

pub returns-in_err-slot-clause-next : goal.returns-in_err-slot-clause-next
returns-in_err-slot-clause-next c =
    let key = rw (← c.self.view_is) at c.in_ok-key.ensures.key in
    let next = next_is c.args.version.now.prog c.args.version.now.vers c.self.inside.slots.entries c.self.invariant.distinct c.args.start c.in_ok-after.after c.self.invariant.ordered c.in_ok-after.ensures.added (rw c.in_default.is at c.own_after.ensures.none) c.in_ok-key.key key in
    let clash : None ≡ Some next.slot = c.in_err-slot.ensures.value ∙ next.there in
    absurd (cc)

pub returns-clause-next : goal.returns-clause-next
returns-clause-next c =
    let key = rw (← c.self.view_is) at c.in_ok-key.ensures.key in
    let next = next_is c.args.version.now.prog c.args.version.now.vers c.self.inside.slots.entries c.self.invariant.distinct c.args.start c.in_ok-after.after c.self.invariant.ordered c.in_ok-after.ensures.added (rw c.in_default.is at c.own_after.ensures.none) c.in_ok-key.key key in
    let same : Some c.in_ok-slot.slot.now ≡ Some next.slot = c.in_ok-slot.ensures.value ∙ next.there in
    let slot : c.in_ok-slot.slot.now ≡ next.slot = cc in
    rw (← c.self.view_is, slot) next.next
