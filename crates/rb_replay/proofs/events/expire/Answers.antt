use Rattle.rb_model.specs.Step.{step}
use Rattle.rb_model.specs.Step.Event.{Expire}
use Rattle.rb_model.specs.Ending.{expire}
use Rattle.rb_replay.proofs.RunSteps.{expired_shown, nothing_shown, closed_shown}
use Rattle.rb_core.specs.MeteredCalls.{reply_look}
use Rattle.rb_core.proofs.WithLooks.{no_look, then_look}
use Rattle.rb_core.proofs.Begun.{stands_begun}
use Rattle.rb_replay.proofs.events.expire.Goals as goal

pub returns-in-Ended-clause-ok : goal.returns-in-Ended-clause-ok
unfolding step
returns-in-Ended-clause-ok c = record {
  step = λ s h. let d = expired_shown (λ t. expire t c.args.now) c.args.core.now.core c.expire.new.self.core c.in-Ended.told _ c.in-Ended.ensures.acts c.show_told.ensures.told s h in (d.0, stands_begun c.expire.new.self.core _ _ c.show_told.ensures.core _ d.1);
  cost = then_look (Expire c.args.now) (reply_look c.expire.new.self) c.args.core.now c.expire.new.self _ c.in-Ended.ensures.bound.rises c.in-Ended.ensures.priced c.show_told.ensures.cost;
}

pub returns-in-Nothing-clause-ok : goal.returns-in-Nothing-clause-ok
unfolding step
returns-in-Nothing-clause-ok c = record {
  step = λ s h. nothing_shown (λ t. expire t c.args.now) c.args.core.now.core c.expire.new.self.core c.in-Nothing.ensures.acts s h;
  cost = no_look (Expire c.args.now) (reply_look c.expire.new.self) c.args.core.now c.expire.new.self c.in-Nothing.ensures.bound.rises c.in-Nothing.ensures.priced;
}

pub returns-in-ConnectionLost-clause-ok : goal.returns-in-ConnectionLost-clause-ok
unfolding step
returns-in-ConnectionLost-clause-ok c = record {
  step = λ s h. closed_shown (λ t. expire t c.args.now) c.args.core.now.core c.expire.new.self.core c.in-ConnectionLost.id c.in-ConnectionLost.ensures.acts s h;
  cost = no_look (Expire c.args.now) (reply_look c.expire.new.self) c.args.core.now c.expire.new.self c.in-ConnectionLost.ensures.bound.rises c.in-ConnectionLost.ensures.priced;
}
