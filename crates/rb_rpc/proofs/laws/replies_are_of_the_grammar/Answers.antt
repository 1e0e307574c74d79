use Rattle.rb_rpc.proofs.Replies.{replies_agree}
use Rattle.rb_rpc.proofs.laws.replies_are_of_the_grammar.Goals as goal

pub returns : goal.returns
returns c = replies_agree
