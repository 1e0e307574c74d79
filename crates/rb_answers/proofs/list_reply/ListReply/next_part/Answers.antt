use Rattle.rb_answers.proofs.Parts.{part_is, rest_is, last_is}
use Rattle.rb_answers.proofs.list_reply.ListReply.next_part.Goals as goal

pub returns-clause-part : goal.returns-clause-part
returns-clause-part c =
    rw c.min-start.ensures
    (part_is _ _ _ _ _ c.fill-base.ensures.fills c.min-end.result (rw (← c.len-len.ensures.len) c.min-end.ensures))

pub returns-clause-rest : goal.returns-clause-rest
returns-clause-rest c =
    rest_is _ _ _ _ _ c.fill-base.ensures.fills c.min-end.result (rw (← c.len-len.ensures.len) c.min-end.ensures)

pub returns-clause-last : goal.returns-clause-last
returns-clause-last c =
    rw c.len-len.ensures.len
    (last_is _ _ _ _ _ c.fill-base.ensures.fills c.min-end.result (rw (← c.len-len.ensures.len) c.min-end.ensures))
