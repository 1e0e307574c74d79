use Rattle.rb_laws.proofs.WholeReplies.{replies_are_given_whole}
use Rattle.rb_laws.proofs.laws.replies_are_given_whole.Goals as goal

pub returns : goal.returns
returns c = replies_are_given_whole
