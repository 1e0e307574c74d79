use Rattle.rb_promises.proofs.AnsweredLookUps.{getport_answers}
use Rattle.rb_promises.proofs.look_ups.getport_answers.Goals as goal

pub returns : goal.returns
returns c = getport_answers
