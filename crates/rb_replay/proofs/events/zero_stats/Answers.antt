use Rattle.std.proofs.Common.{refl}
use Rattle.rb_model.specs.Step.{step}
use Rattle.rb_replay.proofs.events.zero_stats.Goals as goal

pub returns : goal.returns
unfolding step
returns c = record {
  step = λ s h. (refl, c.zero_stats.ensures.acts.stands s h);
  cost = c.zero_stats.ensures.priced;
}
