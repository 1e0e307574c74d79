use Rattle.std.proofs.Common.{sym, ◌∙◌, refl, ap, true, false, Some, if◌then◌else◌}
use Rattle.rb_registry.specs.Registry.{Registry}
use Rattle.rb_registry.specs.Rows.{is_change_left}
use Rattle.rb_registry.specs.declared.reasons.Refusal.TheVariants.{Taken, NoPlace}
use Rattle.rb_proto.proofs.RowChanges.{nothing_before, something_before, reason_after, reason_is, may_not_set, no_share, set_acts, set_refused}
use Rattle.rb_proto.proofs.sets.set_row.Goals as goal

pub returns-then-is_some-clause-acts : goal.returns-then-is_some-clause-acts
returns-then-is_some-clause-acts c =
    rw c.in-Some.is
    (may_not_set c.args.context.now c.args.head.now c.in-Some.row c.args.books.now _
    (something_before c.args.context.now c.in-Some.row (rw (← c.refusal_before-refusal.ensures, ← c.is_some.ensures) c.if-is_some.true)))

pub returns-then-not-has_share-clause-acts : goal.returns-then-not-has_share-clause-acts
returns-then-not-has_share-clause-acts c =
    rw c.in-Some.is
    (no_share c.args.context.now c.args.head.now c.in-Some.row c.args.books.now (Some NoPlace)
    (nothing_before c.args.context.now c.in-Some.row (rw (← c.refusal_before-refusal.ensures, ← c.is_some.ensures) c.if-is_some.false))
    (sym c.has_share.ensures.share ∙ c.if-not-has_share.true))

pub returns-then-added-clause-acts : goal.returns-then-added-clause-acts
returns-then-added-clause-acts c =
    rw (c.if-added.true, c.in-Some.is)
    (set_acts c.args.context.now c.args.head.now c.in-Some.row _ _
    (nothing_before c.args.context.now c.in-Some.row (rw (← c.refusal_before-refusal.ensures, ← c.is_some.ensures) c.if-is_some.false))
    (sym c.has_share.ensures.share ∙ c.if-not-has_share.false)
    c.requires.limit
    (rw c.in-Some.is at c.requires.room)
    (sym c.if-added.ensures.taken)
    c.if-added.ensures.changes
    (rw (← c.version_of.ensures) c.note_set.ensures.history)
    refl)

pub returns-then-added-clause-refusal : goal.returns-then-added-clause-refusal
returns-then-added-clause-refusal c =
    rw c.in-Some.is
    (reason_is c.args.context.now c.in-Some.row c.args.books.now.registry
    (nothing_before c.args.context.now c.in-Some.row (rw (← c.refusal_before-refusal.ensures, ← c.is_some.ensures) c.if-is_some.false))
    (sym c.has_share.ensures.share ∙ c.if-not-has_share.false)
    c.requires.limit
    (rw c.in-Some.is at c.requires.room)
    true (sym c.if-added.ensures.taken)
    ∙ reason_after c.args.context.now c.in-Some.row _ (rw (← c.refusal_before-refusal.ensures, ← c.is_some.ensures) c.if-is_some.false))

pub returns-else-added-clause-acts : goal.returns-else-added-clause-acts
returns-else-added-clause-acts c =
    rw (c.if-added.false, c.in-Some.is)
    (set_refused c.args.context.now c.args.head.now c.in-Some.row c.args.books.now _
    (nothing_before c.args.context.now c.in-Some.row (rw (← c.refusal_before-refusal.ensures, ← c.is_some.ensures) c.if-is_some.false))
    (sym c.has_share.ensures.share ∙ c.if-not-has_share.false)
    c.requires.limit
    (rw c.in-Some.is at c.requires.room)
    (sym c.if-added.ensures.taken)
    (Some c.refusal_by.result)
    (ap (λ (kept : Registry). record c.args.books.now { registry = kept; refusal = Some c.refusal_by.result }) c.if-added.ensures.unchanged))

pub returns-else-added-clause-refusal : goal.returns-else-added-clause-refusal
returns-else-added-clause-refusal c =
    rw c.in-Some.is
    (ap Some (c.refusal_by.ensures ∙ ap (λ (kept : Registry). if is_change_left kept.stamp then Taken else NoPlace) c.if-added.ensures.unchanged)
    ∙ reason_is c.args.context.now c.in-Some.row c.args.books.now.registry
    (nothing_before c.args.context.now c.in-Some.row (rw (← c.refusal_before-refusal.ensures, ← c.is_some.ensures) c.if-is_some.false))
    (sym c.has_share.ensures.share ∙ c.if-not-has_share.false)
    c.requires.limit
    (rw c.in-Some.is at c.requires.room)
    false (sym c.if-added.ensures.taken)
    ∙ reason_after c.args.context.now c.in-Some.row _ (rw (← c.refusal_before-refusal.ensures, ← c.is_some.ensures) c.if-is_some.false))
