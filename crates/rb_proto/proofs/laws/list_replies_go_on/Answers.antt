use Rattle.rb_answers.proofs.ListReplies.{list_reply_goes_on}
use Rattle.rb_proto.proofs.laws.list_replies_go_on.Goals as goal

pub returns : goal.returns
returns c = list_reply_goes_on
