use Rattle.rb_laws.proofs.ExactTaking.{bytes_are_taken_exactly}
use Rattle.rb_laws.proofs.laws.bytes_are_taken_exactly.Goals as goal

pub returns : goal.returns
returns c = bytes_are_taken_exactly
