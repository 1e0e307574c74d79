use Rattle.std.proofs.Common.{sym, ◌∙◌}
use Rattle.rb_registry.proofs.Finds.{any_found}
use Rattle.rb_proto.proofs.RowChanges.{nothing_before, something_before, is_not_accepted, share_is_used, key_is_there, number_is_left}
use Rattle.rb_proto.proofs.sets.accepts.Goals as goal

pub returns-then-is_some-clause-value : goal.returns-then-is_some-clause-value
returns-then-is_some-clause-value c =
    sym
    (is_not_accepted c.args.context.now _ _ _
    (something_before c.args.context.now c.args.row.now (rw (← c.refusal_before.ensures, ← c.is_some.ensures) c.if-is_some.true)))

pub returns-then-not-has_share-clause-value : goal.returns-then-not-has_share-clause-value
returns-then-not-has_share-clause-value c =
    share_is_used c.args.context.now _ _ _
    (nothing_before c.args.context.now c.args.row.now (rw (← c.refusal_before.ensures, ← c.is_some.ensures) c.if-is_some.false))
    (sym c.has_share.ensures.share ∙ c.if-not-has_share.true)

pub returns-then-is_some-2-clause-value : goal.returns-then-is_some-2-clause-value
returns-then-is_some-2-clause-value c =
    key_is_there c.args.context.now _ _ _
    (nothing_before c.args.context.now c.args.row.now (rw (← c.refusal_before.ensures, ← c.is_some.ensures) c.if-is_some.false))
    (sym c.has_share.ensures.share ∙ c.if-not-has_share.false)
    (sym (any_found c.args.row.now.prog c.args.row.now.vers c.args.row.now.netid _ _ c.find_exact-found.ensures.found) ∙ sym c.is_some-2.ensures ∙ c.if-is_some-2.true)

pub returns-clause-value : goal.returns-clause-value
returns-clause-value c =
    rw c.stamp.ensures.stamp
    (number_is_left c.args.context.now _ _ _
    (nothing_before c.args.context.now c.args.row.now (rw (← c.refusal_before.ensures, ← c.is_some.ensures) c.if-is_some.false))
    (sym c.has_share.ensures.share ∙ c.if-not-has_share.false)
    (sym (any_found c.args.row.now.prog c.args.row.now.vers c.args.row.now.netid _ _ c.find_exact-found.ensures.found) ∙ sym c.is_some-2.ensures ∙ c.if-is_some-2.false))
