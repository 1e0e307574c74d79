use Rattle.rb_promises.proofs.AnswersSaid.{messages_are_answered_as_said, callers_are_served_as_said}
use Rattle.rb_promises.proofs.answers.messages_are_answered_as_said.Goals as goal

pub returns-clause-said : goal.returns-clause-said
returns-clause-said c = messages_are_answered_as_said

pub returns-clause-served : goal.returns-clause-served
returns-clause-served c = callers_are_served_as_said
