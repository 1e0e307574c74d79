use Rattle.std.proofs.Common.{◌∙◌, sym}
use Rattle.rb_sockets.proofs.Unwanted.{no_datagrams_left}
use Rattle.rb_sockets.proofs.sockets.Sockets.are_datagrams_left.Goals as goal

pub returns-else-self : goal.returns-else-self
returns-else-self c = c.if-self.false ∙ sym (no_datagrams_left c.args.self.now c.if-self.false)
