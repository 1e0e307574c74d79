use Rattle.rb_daemon.proofs.LastRounds.{one_more}
use Rattle.rb_daemon.proofs.serving.Serving.serve_left.Goals as goal

pub left-preserved : goal.left-preserved
left-preserved g c =
    one_more _ _ c.take_left.new.self _ _ c.left.invariant (rw c.in-Some.is at c.take_left.ensures.few) (rw c.in-Some.is at c.take_left.ensures.count) c.take_left.ensures.served
    c.serve_again.ensures.count c.serve_again.ensures.others
