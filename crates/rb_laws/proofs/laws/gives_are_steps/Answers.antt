use Rattle.rb_laws.proofs.Gives.{gives_are_steps}
use Rattle.rb_laws.proofs.laws.gives_are_steps.Goals as goal

pub returns : goal.returns
returns c = gives_are_steps
