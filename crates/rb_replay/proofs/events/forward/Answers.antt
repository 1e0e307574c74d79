use Rattle.rb_model.specs.Step.{step}
use Rattle.rb_model.specs.Step.Event.{Forward}
use Rattle.rb_model.specs.Ending.{forward_reply}
use Rattle.rb_replay.proofs.RunSteps.{end_shown, none_shown}
use Rattle.rb_core.specs.MeteredCalls.{reply_look}
use Rattle.rb_core.proofs.WithLooks.{no_look, then_look}
use Rattle.rb_core.proofs.Begun.{stands_begun}
use Rattle.rb_replay.proofs.events.forward.Goals as goal

pub returns-in-Some-clause-ok : goal.returns-in-Some-clause-ok
unfolding step
returns-in-Some-clause-ok c = record {
  step = λ s h. let d = end_shown (λ t. forward_reply t c.args.now c.args.from c.args.message.now) c.args.core.now.core c.forward_reply.new.self.core c.in-Some.told _ c.in-Some.ensures.acts c.show_told.ensures.told s h in (d.0, stands_begun c.forward_reply.new.self.core _ _ c.show_told.ensures.core _ d.1);
  cost = then_look (Forward c.args.now c.args.from c.args.message.now) (reply_look c.forward_reply.new.self) c.args.core.now c.forward_reply.new.self _ c.in-Some.ensures.bound.rises c.in-Some.ensures.priced c.show_told.ensures.cost;
}

pub returns-in-None-clause-ok : goal.returns-in-None-clause-ok
unfolding step
returns-in-None-clause-ok c = record {
  step = λ s h. none_shown (λ t. forward_reply t c.args.now c.args.from c.args.message.now) c.args.core.now.core c.forward_reply.new.self.core c.in-None.ensures.acts s h;
  cost = no_look (Forward c.args.now c.args.from c.args.message.now) (reply_look c.forward_reply.new.self) c.args.core.now c.forward_reply.new.self c.in-None.ensures.bound.rises c.in-None.ensures.priced;
}
