use Rattle.rb_sockets.proofs.Slices.{none_came, goes_on, ended}
use Rattle.rb_sockets.proofs.tables.Table.read.Goals as goal
use Rattle.rb_sockets.proofs.tables.Table.read.Goals.{else-loop-test, then-loop-test+in_ok-came+else-came-eq0+then-count-ge-SLICE}

pub loop-init : goal.loop-init
loop-init g c = none_came _ _

pub returns-then-came-eq0 : goal.returns-then-came-eq0
returns-then-came-eq0 g c = ended _ _ _ _ _ _ _ c.loop.invariant c.in_ok-came.ensures c.if-came-eq0.true

pub loop-preserved : goal.loop-preserved
loop-preserved g c = goes_on _ _ _ _ _ _ _ c.loop.invariant c.in_ok-came.ensures c.if-came-eq0.false

pub returns : goal.returns
returns g c = elim c.loop-test.branch [
  | else-loop-test w ↦ rw (w.self-is, w.sights-is) c.loop.invariant
  | then-loop-test+in_ok-came+else-came-eq0+then-count-ge-SLICE w ↦ rw (w.self-is, w.sights-is) (goes_on _ _ _ _ _ _ _ c.loop.invariant w.in_ok-came.ensures w.if-came-eq0.false)
]
