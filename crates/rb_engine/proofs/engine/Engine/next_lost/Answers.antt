use Rattle.rb_model.specs.Step.Event.{NextLost}
use Rattle.rb_engine.proofs.Reached.{lost_records, lost_goes}
use Rattle.rb_engine.proofs.Paying.{paid_event}
use Rattle.rb_engine.proofs.engine.Engine.next_lost.Goals as goal

pub invariant_of-self : goal.invariant_of-self
invariant_of-self c = record { paid = paid_event NextLost c.args.self.now.core _ _ _ c.args.self.now.looks.steps (lost_goes c.args.self.now.core.core _ _ _ _ _ c.next_lost-lost.ensures.begun c.next_lost-lost.ensures.lost c.«record».ensures) c.next_lost-lost.ensures.priced c.args.self.now.paid; fits = c.args.self.now.fits }

pub returns-clause-recorded : goal.returns-clause-recorded
returns-clause-recorded c = lost_records c.args.self.now.core.core _ _ _ c.next_lost-lost.ensures.lost c.«record».ensures
