use Rattle.std.proofs.Common.{take}
use Rattle.rb_xdr.specs.Meter.{PaysAtMost}
use Rattle.rb_model.specs.State.{State}
use Rattle.rb_model.specs.Costs.{run_cost}
use Rattle.rb_model.specs.Plain.{events_of, outputs_of}
use Rattle.rb_core.specs.StandsFor.{StandsFor}
use Rattle.rb_replay.specs.Runs.{Happened}
use Rattle.rb_replay.proofs.run.replay.Given as goal

abbrev pub invariant-loop-event : goal.invariant-loop-event
invariant-loop-event l = record {
  happened : (s : State) → StandsFor l.fn.core.core s → Happened s (take l.event-index (events_of l.events)) (outputs_of l.fn.out.items) (outputs_of l.out.items) l.core.core;
  cost : (s : State) → StandsFor l.fn.core.core s → PaysAtMost l.fn.core.meter l.core.meter (run_cost s (take l.event-index (events_of l.events)));
}
