use Rattle.rb_promises.proofs.PassedRuns.{runs_pass_as_said}
use Rattle.rb_promises.proofs.answers.runs_pass_as_said.Goals as goal

pub returns : goal.returns
returns c = runs_pass_as_said
