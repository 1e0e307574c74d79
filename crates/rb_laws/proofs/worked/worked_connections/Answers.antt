-- Many events compute at once, whereas a search would count their steps.
use Rattle.std.proofs.Common.{refl}
use Rattle.rb_model.proofs.OnLiterals.{rb_model_on_literals}
use Rattle.rb_laws.proofs.worked.worked_connections.Goals as goal

pub returns-clause-single_bytes : goal.returns-clause-single_bytes
unfolding rb_model_on_literals
returns-clause-single_bytes c = refl
