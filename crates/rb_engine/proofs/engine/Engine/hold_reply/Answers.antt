use Rattle.rb_engine.proofs.Paying.{paid_look, raised, reply_fits}
use Rattle.rb_engine.proofs.engine.Engine.hold_reply.Goals as goal

pub invariant_of-self : goal.invariant_of-self
invariant_of-self c = record { paid = paid_look c.args.self.now.core _ c.args.self.now.tape _ _ c.args.self.now.looks.steps _ c.udp_reply-reply.follows.holds-at-none.begun c.udp_reply-reply.follows.holds-at-none.paid (reply_fits c.args.self.now.core) (raised _ _ _ c.raise.ensures) c.args.self.now.paid; fits = c.args.self.now.fits }
