use Rattle.rb_rpc.proofs.Streams.{are_first_ones, they_end, are_unique}
use Rattle.rb_rpc.proofs.laws.records_are_unique.Goals as goal

pub returns-clause-first_ones : goal.returns-clause-first_ones
returns-clause-first_ones c = are_first_ones

pub returns-clause-end : goal.returns-clause-end
returns-clause-end c = they_end

pub returns-clause-unique : goal.returns-clause-unique
returns-clause-unique c = are_unique
