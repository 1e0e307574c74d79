use Rattle.rb_model.specs.Step.Event.{ZeroStats}
use Rattle.rb_engine.proofs.Reached.{zeroed_records, zeroed_goes}
use Rattle.rb_engine.proofs.Paying.{paid_event}
use Rattle.rb_engine.proofs.engine.Engine.zero_stats.Goals as goal

pub invariant_of-self : goal.invariant_of-self
invariant_of-self c = record { paid = paid_event ZeroStats c.args.self.now.core _ _ _ c.args.self.now.looks.steps (zeroed_goes _ _ _ _ c.zero_stats.ensures.acts c.«record».ensures) c.zero_stats.ensures.priced c.args.self.now.paid; fits = c.args.self.now.fits }

pub returns-clause-recorded : goal.returns-clause-recorded
returns-clause-recorded c = zeroed_records c.args.self.now.core.core _ _ c.«record».ensures
