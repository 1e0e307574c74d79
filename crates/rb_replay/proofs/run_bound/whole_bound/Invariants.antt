use Rattle.std.specs.Prelude.{min}
use Rattle.std.proofs.Common.{◌≡◌, ◌+◌, take}
use Rattle.rb_model.specs.Plain.{events_of, outputs_of}
use Rattle.rb_model.specs.WholeRuns.{total_in, total_out}
use Rattle.rb_core.specs.Events.{greatest_count}
use Rattle.rb_replay.proofs.run_bound.whole_bound.Given as goal

abbrev pub invariant-loop-i : goal.invariant-loop-i
invariant-loop-i l =
    l.bytes ≡ min (total_in (take l.i (events_of l.events)) (take l.i (outputs_of l.outputs)) + total_out (take l.i (events_of l.events)) (take l.i (outputs_of l.outputs))) greatest_count
