use Rattle.rb_show.proofs.Showings.{datagram_shown}
use Rattle.rb_show.proofs.show.show_datagram.Goals as goal

pub returns : goal.returns
returns g c =
    rw c.as_whole.ensures (datagram_shown g.W.Write.contents c.args.writer.now c.written.new.writer c.args.ask.now c.args.form c.args.xid c.new-telling.result c.tell-used.new.self c.args.bytes.now c.new-text.result c.tell-used.new.text
    c.tell-used.result c.written.result c.new-telling.ensures c.new-text.ensures.items c.tell-used.ensures.tells (rw c.deref.ensures.value at c.written.ensures))
