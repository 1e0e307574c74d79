use Rattle.rb_laws.proofs.WholeSessions.{sessions_are_whole}
use Rattle.rb_laws.proofs.laws.sessions_are_whole.Goals as goal

pub returns : goal.returns
returns c = sessions_are_whole
