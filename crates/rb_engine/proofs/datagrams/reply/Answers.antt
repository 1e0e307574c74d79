use Rattle.rb_engine.proofs.Postings.{after_held}
use Rattle.rb_engine.proofs.datagrams.reply.Goals as goal

pub returns-then-not-hold_reply : goal.returns-then-not-hold_reply
returns-then-not-hold_reply g c =
    after_held g.S.Datagrams.sends c.args.asked.socket c.args.asked.caller.who.source c.args.engine.now.core.core c.hold_reply.new.self.core.core c.keep-kept.new.engine.core.core c.args.replies.now c.hold_reply.new.replies _ c.args.sockets.now _ c.keep-kept.ensures.engine.core c.hold_reply.ensures.core (c.hold_reply.ensures.full c.if-not-hold_reply.true) c.send_now-then-not-hold_reply.ensures
