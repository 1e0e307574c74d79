use Rattle.rb_policy.proofs.WayLaws.{ends_go_back, others_stay}
use Rattle.rb_policy.proofs.laws.way_laws.Goals as goal

pub returns-clause-own : goal.returns-clause-own
returns-clause-own c = ends_go_back

pub returns-clause-others : goal.returns-clause-others
returns-clause-others c = others_stay
