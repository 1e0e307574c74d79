use Rattle.rb_laws.proofs.Closings.{connections_close_exactly}
use Rattle.rb_laws.proofs.laws.connections_close_exactly.Goals as goal

pub returns : goal.returns
returns c = connections_close_exactly
