use Rattle.rb_sockets.proofs.Leavings.{left_here, none_here}
use Rattle.rb_sockets.proofs.watched.leave_at.Goals as goal

pub returns-in-Some : goal.returns-in-Some
returns-in-Some g c = left_here c.args.sockets.now.items c.args.number c.leave.new.self c.args.again c.leave.ensures.again c.leave.ensures.shown

pub returns-in_default : goal.returns-in_default
returns-in_default g c = none_here c.args.sockets.now.items c.args.number c.args.again c.in_default.ensures.item.3
