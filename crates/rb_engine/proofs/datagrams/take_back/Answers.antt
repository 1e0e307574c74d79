use Rattle.std.proofs.Common.{take}
use Rattle.rb_model.specs.Ending.{forward_reply}
use Rattle.rb_engine.specs.Sending.{reply_after, ways_after}
use Rattle.rb_engine.specs.Served.{take_forward_reply}
use Rattle.rb_engine.proofs.Postings.{hands_after, shows_after, acts_after}
use Rattle.rb_engine.proofs.datagrams.take_back.Goals as goal

pub returns-clause-sent : goal.returns-clause-sent
returns-clause-sent g c =
    hands_after g.S.Datagrams.sends (λ s now. reply_after c.args.ways.now.all (forward_reply s now c.args.sender.peer (take c.args.sender.len c.args.room.now)))
    c.args.engine.now c.keep-kept.new.engine c.args.sockets.now c.take_forward_reply.new.sockets c.keep-kept.ensures.engine c.take_forward_reply.ensures.sent

pub returns-clause-ways : goal.returns-clause-ways
returns-clause-ways g c =
    shows_after (λ s now. ways_after c.args.ways.now (forward_reply s now c.args.sender.peer (take c.args.sender.len c.args.room.now)))
    c.args.engine.now c.keep-kept.new.engine c.take_forward_reply.new.ways c.keep-kept.ensures.engine c.take_forward_reply.ensures.ways

pub returns-clause-acts : goal.returns-clause-acts
returns-clause-acts g c =
    acts_after (take_forward_reply c.args.sender.peer (take c.args.sender.len c.args.room.now))
    c.args.engine.now c.keep-kept.new.engine c.take_forward_reply.new.self c.take_forward_reply.result c.keep-kept.ensures.engine c.take_forward_reply.ensures.acts
