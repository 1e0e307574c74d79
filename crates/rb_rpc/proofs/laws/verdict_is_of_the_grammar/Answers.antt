use Rattle.rb_rpc.proofs.Calls.{verdict_agrees}
use Rattle.rb_rpc.proofs.laws.verdict_is_of_the_grammar.Goals as goal

pub returns : goal.returns
returns c = verdict_agrees
