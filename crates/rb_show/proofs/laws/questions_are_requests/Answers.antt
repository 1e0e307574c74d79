use Rattle.rb_show.proofs.Requests.{are_requests}
use Rattle.rb_show.proofs.laws.questions_are_requests.Goals as goal

pub returns : goal.returns
returns c = are_requests
