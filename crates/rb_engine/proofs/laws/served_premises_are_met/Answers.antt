use Rattle.rb_engine.proofs.ServedRows.{served_premises_are_met}
use Rattle.rb_engine.proofs.laws.served_premises_are_met.Goals as goal

pub returns : goal.returns
returns c = served_premises_are_met
