use Rattle.rb_core.proofs.HeldBytes.{held_bytes_are_bounded}
use Rattle.rb_core.proofs.laws.held_bytes_are_bounded.Goals as goal

pub returns : goal.returns
returns c = held_bytes_are_bounded
