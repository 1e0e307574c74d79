use Rattle.std.proofs.Common.{◌∙◌, sym}
use Rattle.rb_sockets.proofs.Unwanted.{none_tried_again}
use Rattle.rb_sockets.proofs.sockets.Sockets.is_tried_again.Goals as goal

pub returns-else-self : goal.returns-else-self
returns-else-self c = c.if-self.false ∙ sym (none_tried_again c.args.self.now c.if-self.false)
