use Rattle.rb_model.specs.Step.{step, show_done, close_connection}
use Rattle.rb_replay.proofs.RunSteps.{done, refused}
use Rattle.rb_replay.proofs.events.closed.Goals as goal

pub returns-in-Ok : goal.returns-in-Ok
unfolding step
returns-in-Ok c = record {
  step = λ s h. done show_done (λ t. close_connection t c.args.id) c.args.core.now.core c.closed.new.self.core tt c.in-Ok.ensures.acts s h;
  cost = c.in-Ok.ensures.priced;
}

pub returns-in-Err : goal.returns-in-Err
unfolding step
returns-in-Err c = record {
  step = λ s h. refused show_done (λ t. close_connection t c.args.id) c.args.core.now.core c.closed.new.self.core c.in-Err.fault c.in-Err.ensures.acts s h;
  cost = c.in-Err.ensures.priced;
}
