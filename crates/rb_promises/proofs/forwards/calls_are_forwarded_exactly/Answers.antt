use Rattle.rb_promises.proofs.ForwardedCalls.{calls_are_forwarded_exactly}
use Rattle.rb_promises.proofs.forwards.calls_are_forwarded_exactly.Goals as goal

pub returns : goal.returns
returns c = calls_are_forwarded_exactly
