use Rattle.rb_rpc.proofs.Markings.{replies_are_marked}
use Rattle.rb_rpc.proofs.laws.replies_are_marked.Goals as goal

pub returns : goal.returns
returns c = replies_are_marked
