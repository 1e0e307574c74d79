-- Long lists compute at once, whereas a search would count their steps.
use Rattle.std.proofs.Common.{refl}
use Rattle.rb_answers.proofs.OnLiterals.{rb_answers_on_literals}
use Rattle.rb_proto.proofs.worked.worked_examples.Goals as goal

pub returns-clause-long_dump : goal.returns-clause-long_dump
unfolding rb_answers_on_literals
returns-clause-long_dump c = refl

pub returns-clause-long_pmap_dump : goal.returns-clause-long_pmap_dump
unfolding rb_answers_on_literals
returns-clause-long_pmap_dump c = refl
