use Rattle.rb_promises.proofs.ReadBeginnings.{beginnings_are_spelled}
use Rattle.rb_promises.proofs.options.beginnings_are_spelled.Goals as goal

pub returns : goal.returns
returns c = beginnings_are_spelled
