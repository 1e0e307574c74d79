use Rattle.rb_engine.proofs.ServedBounds.{served_bytes_are_bounded, served_steps_are_bounded, served_runs_are_bounded}
use Rattle.rb_engine.proofs.laws.served_cores_are_bounded.Goals as goal

pub returns : goal.returns
returns c = record { bytes = served_bytes_are_bounded; events = served_steps_are_bounded; runs = served_runs_are_bounded }
