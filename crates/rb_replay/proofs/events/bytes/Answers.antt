use Rattle.std.proofs.Common.{◌∙◌}
use Rattle.rb_model.specs.Step.{step, show_taken, bytes}
use Rattle.rb_replay.proofs.RunSteps.{done, refused}
use Rattle.rb_replay.proofs.events.bytes.Goals as goal

pub returns-in-Ok : goal.returns-in-Ok
unfolding step
returns-in-Ok c = record {
  step = λ s h. let d = done show_taken (λ t. bytes t c.args.now c.args.id c.args.piece.now) c.args.core.now.core c.bytes.new.self.core c.in-Ok.taken c.in-Ok.ensures.acts s h in (c.show_taken.ensures ∙ d.0, d.1);
  cost = c.in-Ok.ensures.priced;
}

pub returns-in-Err : goal.returns-in-Err
unfolding step
returns-in-Err c = record {
  step = λ s h. refused show_taken (λ t. bytes t c.args.now c.args.id c.args.piece.now) c.args.core.now.core c.bytes.new.self.core c.in-Err.fault c.in-Err.ensures.acts s h;
  cost = c.in-Err.ensures.priced;
}
