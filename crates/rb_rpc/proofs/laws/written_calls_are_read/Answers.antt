use Rattle.rb_rpc.proofs.Calls.{written_again}
use Rattle.rb_rpc.proofs.laws.written_calls_are_read.Goals as goal

pub returns : goal.returns
returns c = written_again
