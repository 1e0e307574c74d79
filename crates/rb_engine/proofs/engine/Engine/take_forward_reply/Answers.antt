use Rattle.rb_model.specs.Step.Event.{Forward}
use Rattle.rb_core.specs.MeteredCalls.{reply_look}
use Rattle.rb_core.proofs.WithLooks.{no_look, then_look}
use Rattle.rb_engine.proofs.Reached.{bytes_are, forward_records, forward_goes, ignored_records, ignored_goes}
use Rattle.rb_engine.proofs.Sendings.{ignored_sends, ignored_ways, told_sends, told_ways}
use Rattle.rb_engine.proofs.Paying.{paid_event}
use Rattle.rb_engine.proofs.engine.Engine.take_forward_reply.Goals as goal

pub invariant_of-self : goal.invariant_of-self
invariant_of-self g c = record { paid = paid_event (Forward c.args.self.now.moment c.args.sender.peer c.args.content.now) c.args.self.now.core _ _ _ c.args.self.now.looks.steps (ignored_goes _ c.forward_reply.new.self.core c.args.self.now.moment c.args.sender.peer _ _ _ c.in_default.ensures.acts c.«record».ensures c.args.self.now.fits c.args.sender.is_peer (bytes_are c.args.content.now (λ i. (c.type_inv.content i).fits))) (no_look (Forward c.args.self.now.moment c.args.sender.peer c.args.content.now) (reply_look c.forward_reply.new.self) c.args.self.now.core c.forward_reply.new.self c.in_default.ensures.bound.rises c.in_default.ensures.priced) c.args.self.now.paid; fits = c.args.self.now.fits }

pub returns-in_default-clause-recorded : goal.returns-in_default-clause-recorded
returns-in_default-clause-recorded g c = ignored_records _ c.forward_reply.new.self.core c.args.self.now.moment c.args.sender.peer _ _ _ c.in_default.ensures.acts c.«record».ensures

pub invariant_of-self-2 : goal.invariant_of-self-2
invariant_of-self-2 g c = record { paid = paid_event (Forward c.args.self.now.moment c.args.sender.peer c.args.content.now) c.args.self.now.core _ _ _ c.args.self.now.looks.steps (forward_goes _ c.forward_reply.new.self.core _ _ c.args.self.now.moment c.args.sender.peer _ _ _ _ c.tell.ensures.core c.in-Some.ensures.acts c.tell.ensures.recorded c.args.self.now.fits c.args.sender.is_peer (bytes_are c.args.content.now (λ i. (c.type_inv.content i).fits))) (then_look (Forward c.args.self.now.moment c.args.sender.peer c.args.content.now) (reply_look c.forward_reply.new.self) c.args.self.now.core c.forward_reply.new.self _ c.in-Some.ensures.bound.rises c.in-Some.ensures.priced c.tell.ensures.cost) c.args.self.now.paid; fits = c.args.self.now.fits }

pub returns-clause-recorded : goal.returns-clause-recorded
returns-clause-recorded g c = forward_records _ c.forward_reply.new.self.core c.args.self.now.moment c.args.sender.peer _ _ _ _ c.in-Some.ensures.acts c.tell.ensures.recorded

pub returns-in_default-clause-sent : goal.returns-in_default-clause-sent
returns-in_default-clause-sent g c = λ s h. ignored_sends g.S.Datagrams.sends c.args.ways.now.all _ _ (c.in_default.ensures.acts.gives s h)

pub returns-in_default-clause-ways : goal.returns-in_default-clause-ways
returns-in_default-clause-ways g c = λ s h. ignored_ways _ _ (c.in_default.ensures.acts.gives s h)

pub returns-clause-sent : goal.returns-clause-sent
returns-clause-sent g c = λ s h. told_sends g.S.Datagrams.sends c.args.ways.now.all _ _ _ _ _ (c.in-Some.ensures.acts.gives s h) (c.in-Some.ensures.acts.stands s h).reply c.tell.ensures.sent

pub returns-clause-ways : goal.returns-clause-ways
returns-clause-ways g c = λ s h. told_ways _ _ _ _ (c.in-Some.ensures.acts.gives s h) c.tell.ensures.ways

pub returns-in_default-clause-priced : goal.returns-in_default-clause-priced
returns-in_default-clause-priced g c = no_look (Forward c.args.self.now.moment c.args.sender.peer c.args.content.now) (reply_look c.forward_reply.new.self) c.args.self.now.core c.forward_reply.new.self c.in_default.ensures.bound.rises c.in_default.ensures.priced

pub returns-clause-priced : goal.returns-clause-priced
returns-clause-priced g c = then_look (Forward c.args.self.now.moment c.args.sender.peer c.args.content.now) (reply_look c.forward_reply.new.self) c.args.self.now.core c.forward_reply.new.self _ c.in-Some.ensures.bound.rises c.in-Some.ensures.priced c.tell.ensures.cost
