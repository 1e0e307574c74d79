use Rattle.rb_model.specs.Step.{step, open_connection}
use Rattle.rb_model.specs.Step.Output.{Opened}
use Rattle.rb_replay.proofs.RunSteps.{refused}
use Rattle.rb_replay.proofs.events.open.Goals as goal

pub returns-in-Err : goal.returns-in-Err
unfolding step
returns-in-Err c = record {
  step = λ s h. refused Opened (λ t. open_connection t c.args.now c.args.who) c.args.core.now.core c.open.new.self.core c.in-Err.fault c.in-Err.ensures.acts s h;
  cost = c.in-Err.ensures.priced;
}
