use Rattle.rb_engine.proofs.Paying.{written_paid}
use Rattle.rb_engine.proofs.engine.Engine.write_record.Goals as goal

pub invariant_of-self : goal.invariant_of-self
invariant_of-self g c = record { paid = written_paid c.args.self.now.core _ _ c.args.self.now.looks.steps _ _ c.write_out.ensures.ok c.write_out.ensures.err c.args.self.now.paid; fits = c.args.self.now.fits }
