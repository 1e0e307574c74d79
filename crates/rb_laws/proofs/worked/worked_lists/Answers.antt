-- Long lists compute at once, whereas a search would count their steps.
use Rattle.std.proofs.Common.{refl}
use Rattle.rb_model.proofs.OnLiterals.{rb_model_on_literals}
use Rattle.rb_laws.proofs.worked.worked_lists.Goals as goal

pub returns-clause-into_room : goal.returns-clause-into_room
unfolding rb_model_on_literals
returns-clause-into_room c = refl
