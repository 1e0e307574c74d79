use Rattle.rb_engine.proofs.ServedBounds.{served_meters_are_bounded}
use Rattle.rb_engine.proofs.laws.served_meters_are_bounded.Goals as goal

pub returns : goal.returns
returns c = served_meters_are_bounded
