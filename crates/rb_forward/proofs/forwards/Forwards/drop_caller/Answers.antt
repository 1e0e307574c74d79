use Rattle.rb_forward.specs.Forwards.{drop_caller}
use Rattle.rb_forward.specs.Table.{is_wanted}
use Rattle.rb_forward.proofs.Callers.{nobody_waits}
use Rattle.rb_forward.proofs.forwards.Forwards.drop_caller.Goals as goal

pub returns-clause-ended : goal.returns-clause-ended
unfolding drop_caller is_wanted
returns-clause-ended c = λ f h. c.end.ensures.ended f h

pub returns-clause-left : goal.returns-clause-left
unfolding drop_caller is_wanted
returns-clause-left c = λ f h. c.end.ensures.left f h

pub returns-clause-none_left : goal.returns-clause-none_left
returns-clause-none_left c = rw c.end.ensures.slots (nobody_waits c.args.id _ c.end.ensures.callers)
