use Rattle.rb_engine.proofs.Postings.{all_more, all_done}
use Rattle.rb_engine.proofs.replies.send_all.Goals as goal

pub loop-held-init : goal.loop-held-init
loop-held-init g c = λ x h. h

pub loop-held-preserved : goal.loop-held-preserved
loop-held-preserved g c = all_more g.S.Datagrams.sends c.args.all.now c.loop-held.held-index c.held-item.result _ c.loop-held.sockets c.send_one.new.sockets c.loop-held-test.true c.held-item.is c.loop-held.invariant c.send_one.ensures

pub returns : goal.returns
returns g c = all_done g.S.Datagrams.sends c.args.all.now c.loop-held.held-index _ _ c.loop-held-test.false c.loop-held.invariant
