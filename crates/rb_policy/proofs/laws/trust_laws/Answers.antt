use Rattle.rb_policy.proofs.TrustLaws.{others_are_strangers, others_are_strangers_over_udp, others_need_no_table}
use Rattle.rb_policy.proofs.laws.trust_laws.Goals as goal

pub returns-clause-others : goal.returns-clause-others
returns-clause-others c = others_are_strangers

pub returns-clause-over_udp : goal.returns-clause-over_udp
returns-clause-over_udp c = others_are_strangers_over_udp

pub returns-clause-tables : goal.returns-clause-tables
returns-clause-tables c = others_need_no_table
