use Rattle.std.proofs.Common.{ap}
use Rattle.rb_model.specs.Step.{step}
use Rattle.rb_model.specs.Step.Output.{LostIs}
use Rattle.rb_core.proofs.Begun.{stands_begun}
use Rattle.rb_replay.proofs.events.next_lost.Goals as goal

pub returns : goal.returns
unfolding step
returns c = record {
  step = λ s h. (ap LostIs (c.next_lost.ensures.lost s h), stands_begun c.args.core.now.core _ _ c.next_lost.ensures.begun s h);
  cost = c.next_lost.ensures.priced;
}
