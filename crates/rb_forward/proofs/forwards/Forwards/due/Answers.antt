use Rattle.rb_forward.specs.Forwards.{due}
use Rattle.rb_forward.specs.Table.{is_wanted}
use Rattle.rb_forward.proofs.forwards.Forwards.due.Goals as goal

pub returns-clause-ended : goal.returns-clause-ended
unfolding due is_wanted
returns-clause-ended c = λ f h. c.end.ensures.ended f h

pub returns-clause-left : goal.returns-clause-left
unfolding due is_wanted
returns-clause-left c = λ f h. c.end.ensures.left f h
