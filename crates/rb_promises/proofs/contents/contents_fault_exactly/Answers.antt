use Rattle.rb_promises.proofs.ContentFaults.{contents_fault_exactly}
use Rattle.rb_promises.proofs.contents.contents_fault_exactly.Goals as goal

pub returns : goal.returns
returns c = contents_fault_exactly
