use Rattle.rb_address.proofs.Words.{peers_are_spelled}
use Rattle.rb_address.proofs.laws.peer_laws.Goals as goal

pub returns : goal.returns
returns c = record { peers_are_spelled = peers_are_spelled }
