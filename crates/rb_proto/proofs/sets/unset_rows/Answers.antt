use Rattle.std.proofs.Common.{sym, ◌∙◌, refl}
use Rattle.rb_proto.proofs.RowChanges.{unset_acts}
use Rattle.rb_proto.proofs.sets.unset_rows.Goals as goal

pub returns-then-removed-clause-acts : goal.returns-then-removed-clause-acts
returns-then-removed-clause-acts c =
    rw (c.if-removed.true, c.in-Some.is)
    (unset_acts c.args.context.now c.args.head.now c.args.prog c.args.vers c.in-Some.which _ _
    (sym c.comes_from_here.ensures ∙ c.if-not-comes_from_here.false)
    (rw (← c.owner-owner.ensures) (sym c.if-removed.ensures.taken))
    (rw (← c.owner-owner.ensures) c.if-removed.ensures.changes)
    (rw (← c.version_of.ensures) c.note_unset.ensures.history)
    refl)
