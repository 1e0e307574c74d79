use Rattle.rb_promises.proofs.ReadServices.{services_are_spelled}
use Rattle.rb_promises.proofs.options.services_are_spelled.Goals as goal

pub returns : goal.returns
returns c = services_are_spelled
