use Rattle.rb_promises.proofs.ConnectionSteps.{lost_connections_stay}
use Rattle.rb_promises.proofs.connections.lost_connections_stay.Goals as goal

pub returns : goal.returns
returns c = lost_connections_stay
