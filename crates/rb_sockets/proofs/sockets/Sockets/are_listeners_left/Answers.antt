use Rattle.std.proofs.Common.{◌∙◌, sym}
use Rattle.rb_sockets.proofs.Unwanted.{no_listeners_left}
use Rattle.rb_sockets.proofs.sockets.Sockets.are_listeners_left.Goals as goal

pub returns-else-self : goal.returns-else-self
returns-else-self c = c.if-self.false ∙ sym (no_listeners_left c.args.self.now c.if-self.false)
