use Rattle.rb_policy.proofs.DoorLaws.{one_is_given_up, shares_are_kept, root_stays, unawaited_go_first, earlier_waits, waiters_go_last, others_keep_a_quarter}
use Rattle.rb_policy.proofs.laws.door_laws.Goals as goal

pub returns-clause-one : goal.returns-clause-one
returns-clause-one c = one_is_given_up

pub returns-clause-shares : goal.returns-clause-shares
returns-clause-shares c = shares_are_kept

pub returns-clause-root : goal.returns-clause-root
returns-clause-root c = root_stays

pub returns-clause-unawaited : goal.returns-clause-unawaited
returns-clause-unawaited c = unawaited_go_first

pub returns-clause-turns : goal.returns-clause-turns
returns-clause-turns c = earlier_waits

pub returns-clause-waiters : goal.returns-clause-waiters
returns-clause-waiters c = waiters_go_last

pub returns-clause-others : goal.returns-clause-others
returns-clause-others c = others_keep_a_quarter
