use Rattle.rb_policy.proofs.LogLaws.{few_of_a_second, few_in_all, own_counts_are_apart, owners_and_hosts_are_apart, none_is_lost, they_are_told_then}
use Rattle.rb_policy.proofs.laws.log_laws.Goals as goal

pub returns-clause-few : goal.returns-clause-few
returns-clause-few c = few_of_a_second

pub returns-clause-own : goal.returns-clause-own
returns-clause-own c = own_counts_are_apart

pub returns-clause-apart : goal.returns-clause-apart
returns-clause-apart c = owners_and_hosts_are_apart

pub returns-clause-none : goal.returns-clause-none
returns-clause-none c = none_is_lost

pub returns-clause-told : goal.returns-clause-told
returns-clause-told c = they_are_told_then

pub returns-clause-all : goal.returns-clause-all
returns-clause-all c = few_in_all
