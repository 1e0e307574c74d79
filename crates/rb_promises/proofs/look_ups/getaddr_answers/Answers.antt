use Rattle.rb_promises.proofs.AnsweredLookUps.{getaddr_answers}
use Rattle.rb_promises.proofs.look_ups.getaddr_answers.Goals as goal

pub returns : goal.returns
returns c = getaddr_answers
