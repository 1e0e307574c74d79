use Rattle.std.proofs.lemmas.List.{drop_more}
use Rattle.rb_engine.proofs.Noting.{nothing_noted, one_noted}
use Rattle.rb_engine.proofs.writing.write_on_each.Goals as goal

pub loop-netid-init : goal.loop-netid-init
loop-netid-init g c = nothing_noted _ _ _ _ _ _ _

pub loop-netid-preserved : goal.loop-netid-preserved
loop-netid-preserved g c =
    one_noted _ _ _ _ _ _ _ _ _ _ _ c.loop-netid.invariant _ _ _ _ (drop_more c.args.netids.now c.loop-netid.netid-index _ c.loop-netid-test.true) c.write_on.ensures.stays
    c.in_ok-write_on.ensures.written c.in_ok-write_on.ensures.owners c.write_on.ensures.cost
