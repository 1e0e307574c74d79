use Rattle.rb_engine.specs.Waiting.{PostsReply}
use Rattle.rb_engine.proofs.datagrams.send_now.Goals as goal

pub returns : goal.returns
returns g c = PostsReply.GoesOut c.send.new.sockets c.send.ensures.sent c.reply.ensures.sent c.send.ensures.none
