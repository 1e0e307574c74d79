use Rattle.std.proofs.Common.{arith}
use Rattle.rb_model.specs.Step.Event.{Unsent}
use Rattle.rb_engine.specs.Recording.{send_events}
use Rattle.rb_engine.proofs.Reached.{none_records, none_goes, sent_records, sent_goes}
use Rattle.rb_engine.proofs.Sendings.{none_sends, call_sends}
use Rattle.rb_engine.proofs.Paying.{paid_event, paid_on, sent_paid}
use Rattle.rb_engine.proofs.engine.Engine.send_forward.Goals as goal

pub invariant_of-self : goal.invariant_of-self
invariant_of-self g c = record { paid = paid_event Unsent c.args.self.now.core _ _ _ c.args.self.now.looks.steps (none_goes c.args.self.now.core.core _ _ _ _ c.unsent.follows.holds-at-none.begun c.in_default.ensures.unsent c.«record».ensures) c.unsent.follows.holds-at-none.paid c.args.self.now.paid; fits = c.args.self.now.fits }

pub returns-in_default-clause-recorded : goal.returns-in_default-clause-recorded
returns-in_default-clause-recorded g c = none_records c.args.self.now.core.core _ _ c.in_default.ensures.unsent c.«record».ensures

pub invariant_of-self-2 : goal.invariant_of-self-2
invariant_of-self-2 g c = record { paid = paid_on c.args.self.now.core c.sent-done.new.self _ _ c.args.self.now.looks.steps 0 send_events _ (sent_goes c.args.self.now.core.core _ c.sent-done.new.self.core _ _ c.sent-done.result _ _ _ c.unsent.follows.holds-at-none.begun c.in-Some.ensures.unsent c.sent-done.ensures.acts c.record_unsent.ensures (rw c.show_done.ensures at c.record-2.ensures) c.number_fits.ensures) (omega arith) (sent_paid c.args.self.now.core _ c.sent-done.new.self _ _ c.unsent.follows.holds-at-none.begun c.in-Some.ensures.unsent c.unsent.follows.holds-at-none.paid c.sent-done.ensures.priced) c.args.self.now.paid; fits = c.args.self.now.fits }

pub returns-clause-recorded : goal.returns-clause-recorded
returns-clause-recorded g c = sent_records c.args.self.now.core.core _ c.sent-done.new.self.core _ _ c.sent-done.result _ _ _ c.unsent.follows.holds-at-none.begun c.in-Some.ensures.unsent c.sent-done.ensures.acts c.record_unsent.ensures (rw c.show_done.ensures at c.record-2.ensures)

pub returns-in_default-clause-sent : goal.returns-in_default-clause-sent
returns-in_default-clause-sent g c = λ s h. none_sends g.S.Datagrams.sends _ _ (c.in_default.ensures.unsent s h)

pub returns-clause-sent : goal.returns-clause-sent
returns-clause-sent g c = λ s h. call_sends g.S.Datagrams.sends _ _ _ _ (c.in-Some.ensures.unsent s h) c.call.ensures
