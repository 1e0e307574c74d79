use Rattle.rb_daemon.proofs.LastRounds.{ServesCounted}
use Rattle.rb_daemon.proofs.serving.Serving.serve_left.Given as goal

abbrev pub invariant-left : goal.invariant-left
invariant-left g l = ServesCounted l.fn.self.places l.self.places
