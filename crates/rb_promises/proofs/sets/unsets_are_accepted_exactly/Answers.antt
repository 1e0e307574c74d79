use Rattle.rb_promises.proofs.AcceptedUnsets.{unsets_are_accepted_exactly}
use Rattle.rb_promises.proofs.sets.unsets_are_accepted_exactly.Goals as goal

pub returns : goal.returns
returns c = unsets_are_accepted_exactly
