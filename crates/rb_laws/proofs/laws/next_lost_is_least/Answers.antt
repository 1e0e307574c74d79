use Rattle.rb_laws.proofs.LeastLost.{next_lost_is_least}
use Rattle.rb_laws.proofs.laws.next_lost_is_least.Goals as goal

pub returns : goal.returns
returns c = next_lost_is_least
