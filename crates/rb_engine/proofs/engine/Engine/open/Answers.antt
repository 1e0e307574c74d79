use Rattle.rb_model.specs.Step.Event.{Open}
use Rattle.rb_engine.proofs.Reached.{open_records, open_goes}
use Rattle.rb_engine.proofs.Paying.{paid_event}
use Rattle.rb_engine.proofs.engine.Engine.open.Goals as goal

pub invariant_of-self : goal.invariant_of-self
invariant_of-self c = record { paid = paid_event (Open c.args.self.now.moment c.args.caller.who) c.args.self.now.core _ _ _ c.args.self.now.looks.steps (open_goes _ _ c.args.self.now.moment c.args.caller.who _ _ _ c.open-opened.ensures.acts (rw c.show_opened.ensures at c.«record».ensures) c.args.self.now.fits c.args.caller.is_who) c.open-opened.ensures.priced c.args.self.now.paid; fits = c.args.self.now.fits }

pub returns-clause-recorded : goal.returns-clause-recorded
returns-clause-recorded c = open_records _ _ c.args.self.now.moment c.args.caller.who _ _ _ c.open-opened.ensures.acts (rw c.show_opened.ensures at c.«record».ensures)
