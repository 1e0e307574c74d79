use Rattle.rb_rpc.proofs.CallsStay.{calls_stay, end_at_the_place}
use Rattle.rb_rpc.proofs.laws.calls_stay_calls.Goals as goal

pub returns-clause-stay : goal.returns-clause-stay
returns-clause-stay c = calls_stay

pub returns-clause-end : goal.returns-clause-end
returns-clause-end c = end_at_the_place
