use Rattle.rb_laws.proofs.Entries.{connections_await}
use Rattle.rb_laws.proofs.laws.connections_await.Goals as goal

pub returns : goal.returns
returns c = connections_await
