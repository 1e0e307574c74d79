use Rattle.rb_model.specs.Step.Event.{Expire}
use Rattle.rb_core.specs.MeteredCalls.{reply_look}
use Rattle.rb_core.proofs.WithLooks.{no_look, then_look}
use Rattle.std.proofs.Common.{refl}
use Rattle.rb_engine.proofs.Reached.{expire_records, expire_goes}
use Rattle.rb_engine.proofs.Sendings.{due_sends, due_ways}
use Rattle.rb_engine.proofs.Paying.{paid_event}
use Rattle.rb_engine.proofs.engine.Engine.expire.Goals as goal

pub invariant_of-self : goal.invariant_of-self
invariant_of-self g c = record { paid = paid_event (Expire c.args.self.now.moment) c.args.self.now.core _ _ _ c.args.self.now.looks.steps (expire_goes _ c.expire.new.self.core _ c.expire.new.self.core.steps_before c.args.self.now.moment _ _ _ refl c.in-Nothing.ensures.acts c.«record».ensures c.args.self.now.fits) (no_look (Expire c.args.self.now.moment) (reply_look c.expire.new.self) c.args.self.now.core c.expire.new.self c.in-Nothing.ensures.bound.rises c.in-Nothing.ensures.priced) c.args.self.now.paid; fits = c.args.self.now.fits }

pub returns-in-Nothing-clause-recorded : goal.returns-in-Nothing-clause-recorded
returns-in-Nothing-clause-recorded g c = expire_records _ c.expire.new.self.core c.args.self.now.moment _ _ _ c.in-Nothing.ensures.acts c.«record».ensures

pub invariant_of-self-in-ConnectionLost : goal.invariant_of-self-in-ConnectionLost
invariant_of-self-in-ConnectionLost g c = record { paid = paid_event (Expire c.args.self.now.moment) c.args.self.now.core _ _ _ c.args.self.now.looks.steps (expire_goes _ c.expire.new.self.core _ c.expire.new.self.core.steps_before c.args.self.now.moment _ _ _ refl c.in-ConnectionLost.ensures.acts c.record-in-ConnectionLost.ensures c.args.self.now.fits) (no_look (Expire c.args.self.now.moment) (reply_look c.expire.new.self) c.args.self.now.core c.expire.new.self c.in-ConnectionLost.ensures.bound.rises c.in-ConnectionLost.ensures.priced) c.args.self.now.paid; fits = c.args.self.now.fits }

pub returns-in-ConnectionLost-clause-recorded : goal.returns-in-ConnectionLost-clause-recorded
returns-in-ConnectionLost-clause-recorded g c = expire_records _ c.expire.new.self.core c.args.self.now.moment _ _ _ c.in-ConnectionLost.ensures.acts c.record-in-ConnectionLost.ensures

pub invariant_of-self-2 : goal.invariant_of-self-2
invariant_of-self-2 g c = record { paid = paid_event (Expire c.args.self.now.moment) c.args.self.now.core _ _ _ c.args.self.now.looks.steps (expire_goes _ c.expire.new.self.core _ _ c.args.self.now.moment _ _ _ c.tell-goes_on.ensures.core c.in-Ended.ensures.acts c.tell-goes_on.ensures.recorded c.args.self.now.fits) (then_look (Expire c.args.self.now.moment) (reply_look c.expire.new.self) c.args.self.now.core c.expire.new.self _ c.in-Ended.ensures.bound.rises c.in-Ended.ensures.priced c.tell-goes_on.ensures.cost) c.args.self.now.paid; fits = c.args.self.now.fits }

pub returns-in-Some-clause-recorded : goal.returns-in-Some-clause-recorded
returns-in-Some-clause-recorded g c = expire_records _ c.expire.new.self.core c.args.self.now.moment _ _ _ c.in-Ended.ensures.acts c.tell-goes_on.ensures.recorded

pub returns-in-None-clause-recorded : goal.returns-in-None-clause-recorded
returns-in-None-clause-recorded g c = expire_records _ c.expire.new.self.core c.args.self.now.moment _ _ _ c.in-Ended.ensures.acts c.tell-goes_on.ensures.recorded

pub returns-in-Nothing-clause-sent : goal.returns-in-Nothing-clause-sent
returns-in-Nothing-clause-sent g c = λ s h. due_sends g.S.Datagrams.sends c.args.ways.now.all _ _ _ _ _ (c.in-Nothing.ensures.acts.gives s h) (c.in-Nothing.ensures.acts.stands s h).reply refl

pub returns-in-Nothing-clause-ways : goal.returns-in-Nothing-clause-ways
returns-in-Nothing-clause-ways g c = λ s h. due_ways _ _ _ _ (c.in-Nothing.ensures.acts.gives s h) refl

pub returns-in-ConnectionLost-clause-sent : goal.returns-in-ConnectionLost-clause-sent
returns-in-ConnectionLost-clause-sent g c = λ s h. due_sends g.S.Datagrams.sends c.args.ways.now.all _ _ _ _ _ (c.in-ConnectionLost.ensures.acts.gives s h) (c.in-ConnectionLost.ensures.acts.stands s h).reply refl

pub returns-in-ConnectionLost-clause-ways : goal.returns-in-ConnectionLost-clause-ways
returns-in-ConnectionLost-clause-ways g c = λ s h. due_ways _ _ _ _ (c.in-ConnectionLost.ensures.acts.gives s h) refl

pub returns-in-Some-clause-sent : goal.returns-in-Some-clause-sent
returns-in-Some-clause-sent g c = λ s h. due_sends g.S.Datagrams.sends c.args.ways.now.all _ _ _ _ _ (c.in-Ended.ensures.acts.gives s h) (c.in-Ended.ensures.acts.stands s h).reply c.tell-goes_on.ensures.sent

pub returns-in-Some-clause-ways : goal.returns-in-Some-clause-ways
returns-in-Some-clause-ways g c = λ s h. due_ways _ _ _ _ (c.in-Ended.ensures.acts.gives s h) c.tell-goes_on.ensures.ways

pub returns-in-None-clause-sent : goal.returns-in-None-clause-sent
returns-in-None-clause-sent g c = λ s h. due_sends g.S.Datagrams.sends c.args.ways.now.all _ _ _ _ _ (c.in-Ended.ensures.acts.gives s h) (c.in-Ended.ensures.acts.stands s h).reply c.tell-goes_on.ensures.sent

pub returns-in-None-clause-ways : goal.returns-in-None-clause-ways
returns-in-None-clause-ways g c = λ s h. due_ways _ _ _ _ (c.in-Ended.ensures.acts.gives s h) c.tell-goes_on.ensures.ways

pub returns-in-Nothing-clause-priced : goal.returns-in-Nothing-clause-priced
returns-in-Nothing-clause-priced g c = no_look (Expire c.args.self.now.moment) (reply_look c.expire.new.self) c.args.self.now.core c.expire.new.self c.in-Nothing.ensures.bound.rises c.in-Nothing.ensures.priced

pub returns-in-ConnectionLost-clause-priced : goal.returns-in-ConnectionLost-clause-priced
returns-in-ConnectionLost-clause-priced g c = no_look (Expire c.args.self.now.moment) (reply_look c.expire.new.self) c.args.self.now.core c.expire.new.self c.in-ConnectionLost.ensures.bound.rises c.in-ConnectionLost.ensures.priced

pub returns-in-Some-clause-priced : goal.returns-in-Some-clause-priced
returns-in-Some-clause-priced g c = then_look (Expire c.args.self.now.moment) (reply_look c.expire.new.self) c.args.self.now.core c.expire.new.self _ c.in-Ended.ensures.bound.rises c.in-Ended.ensures.priced c.tell-goes_on.ensures.cost

pub returns-in-None-clause-priced : goal.returns-in-None-clause-priced
returns-in-None-clause-priced g c = then_look (Expire c.args.self.now.moment) (reply_look c.expire.new.self) c.args.self.now.core c.expire.new.self _ c.in-Ended.ensures.bound.rises c.in-Ended.ensures.priced c.tell-goes_on.ensures.cost
