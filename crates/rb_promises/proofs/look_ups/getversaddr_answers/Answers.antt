use Rattle.rb_promises.proofs.AnsweredLookUps.{getversaddr_answers}
use Rattle.rb_promises.proofs.look_ups.getversaddr_answers.Goals as goal

pub returns : goal.returns
returns c = getversaddr_answers
