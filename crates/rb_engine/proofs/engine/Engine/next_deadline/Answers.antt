use Rattle.rb_engine.proofs.Paying.{paid_look, raised, deadline_fits}
use Rattle.rb_engine.proofs.engine.Engine.next_deadline.Goals as goal

pub invariant_of-self : goal.invariant_of-self
invariant_of-self c = record { paid = paid_look c.args.self.now.core _ c.args.self.now.tape _ _ c.args.self.now.looks.steps _ c.next_deadline.ensures.begun c.next_deadline.ensures.cost (deadline_fits _) (raised _ _ _ c.raise.ensures) c.args.self.now.paid; fits = c.args.self.now.fits }
