use Rattle.rb_answers.proofs.ListReplies.{whole_is_left}
use Rattle.rb_answers.proofs.list_reply.ListReply.new.Goals as goal

pub returns-clause-rest : goal.returns-clause-rest
returns-clause-rest c =
    whole_is_left c.args.registry.now _ _ _ _ c.stamp.ensures.stamp (c.start.ensures.passed c.args.registry.now c.stamp.result)
