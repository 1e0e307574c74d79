use Rattle.rb_promises.proofs.AcceptedSets.{sets_are_accepted_exactly}
use Rattle.rb_promises.proofs.sets.sets_are_accepted_exactly.Goals as goal

pub returns : goal.returns
returns c = sets_are_accepted_exactly
