use Rattle.rb_inside.proofs.GoingOn.{each_more, each_done}
use Rattle.rb_inside.proofs.served.go_on_each.Goals as goal

pub loop-held-init : goal.loop-held-init
loop-held-init g c = λ x h. h

pub loop-held-preserved : goal.loop-held-preserved
loop-held-preserved g c = each_more c.args.all.now c.loop-held.held-index _ c.args.places.now c.loop-held.places c.go_on.new.places c.loop-held-test.true c.loop-held.invariant c.go_on.ensures

pub returns : goal.returns
returns g c = each_done c.args.all.now c.loop-held.held-index _ _ c.loop-held-test.false c.loop-held.invariant
