use Rattle.rb_model.specs.Step.Event.{Closed}
use Rattle.rb_engine.proofs.Reached.{closed_records, closed_goes}
use Rattle.rb_engine.proofs.Paying.{paid_event}
use Rattle.rb_engine.proofs.engine.Engine.closed.Goals as goal

pub invariant_of-self : goal.invariant_of-self
invariant_of-self c = record { paid = paid_event (Closed c.args.id) c.args.self.now.core _ _ _ c.args.self.now.looks.steps (closed_goes _ _ c.args.id _ _ _ c.closed-done.ensures.acts (rw c.show_done.ensures at c.«record».ensures) c.ranges.id.fits) c.closed-done.ensures.priced c.args.self.now.paid; fits = c.args.self.now.fits }

pub returns-clause-recorded : goal.returns-clause-recorded
returns-clause-recorded c = closed_records _ _ c.args.id _ _ _ c.closed-done.ensures.acts (rw c.show_done.ensures at c.«record».ensures)
