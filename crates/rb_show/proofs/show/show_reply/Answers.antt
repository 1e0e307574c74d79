use Rattle.rb_show.proofs.Showings.{reply_shown}
use Rattle.rb_show.proofs.show.show_reply.Goals as goal

pub returns : goal.returns
returns g c =
    rw c.as_whole.ensures (reply_shown g.W.Write.contents c.args.writer.now c.feed.new.writer c.args.ask.now c.args.form c.args.xid c.new-showing.result c.feed.new.self c.args.bytes.now c.feed.result c.new-showing.ensures c.feed.ensures)
