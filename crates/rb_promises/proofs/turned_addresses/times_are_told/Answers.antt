use Rattle.rb_promises.proofs.OtherForms.{times_are_told}
use Rattle.rb_promises.proofs.turned_addresses.times_are_told.Goals as goal

pub returns : goal.returns
returns c = times_are_told
