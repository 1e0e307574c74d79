use Rattle.rb_laws.proofs.Sending.{sends_are_unsent}
use Rattle.rb_laws.proofs.laws.sends_are_unsent.Goals as goal

pub returns : goal.returns
returns c = sends_are_unsent
