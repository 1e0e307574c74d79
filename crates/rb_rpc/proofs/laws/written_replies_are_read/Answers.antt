use Rattle.rb_rpc.proofs.Replies.{written_again}
use Rattle.rb_rpc.proofs.laws.written_replies_are_read.Goals as goal

pub returns : goal.returns
returns c = written_again
