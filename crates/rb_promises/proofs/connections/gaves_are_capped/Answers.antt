use Rattle.rb_promises.proofs.ConnectionSteps.{gaves_are_capped}
use Rattle.rb_promises.proofs.connections.gaves_are_capped.Goals as goal

pub returns : goal.returns
returns c = gaves_are_capped
