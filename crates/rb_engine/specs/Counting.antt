-- How many steps the meter of the daemon's core counts at most: for the events that were handed in, and for the daemon's own
-- looks.
use Rattle.std.specs.Prelude.{◌≤◌, ℕ, ◌+◌, ◌*◌}
use Rattle.rb_model.specs.declared.types.Limits.{Limits}
use Rattle.rb_model.specs.Calls.{longest_reply}
use Rattle.rb_model.specs.State.{opening, State}
use Rattle.rb_model.specs.Step.{run, IsReached}
use Rattle.rb_model.specs.WholeRuns.{args_waiting, whole_bound}
use Rattle.rb_lines.specs.Tapes.{Tape}
use Rattle.rb_core.specs.CallCosts.{making_cost}
use Rattle.rb_core.specs.Metered.{Metered}
use Rattle.rb_engine.specs.Served.{IsServed}

-- What one look of the daemon may take: at its next deadline, at a reply that it sends or holds, at what it may give on a
-- connection, at the rows that it counts or writes.
abbrev pub look_allowance : Limits → ℕ
look_allowance limits = 5 * (limits.conns + limits.rows + limits.forwards) + longest_reply + 5

-- The most that is counted from the making of a core on: for that, by the whole bound of a run, and for this many looks.
abbrev pub most_counted : {s : State} → IsReached s → ℕ → ℕ
most_counted r looks =
    making_cost r.limits r.listener
    + whole_bound r.limits 0 r.events (run (opening r.limits r.listener r.first_xid r.now) r.events)
    + looks * look_allowance r.limits

-- The core is served, and its meter counted no more than that in its run. For each byte of arguments that waits two steps
-- are left.
-- STEPS-8: All that the daemon's meter counted since its start is at most what the making of its core costs, the bound of
-- the whole run that it handed in, and for each look of its own 5 for each connection, row and forwarded call that there may
-- be, and 9,005.
pub record IsPaid (core : Metered) (tape : Tape) (looks : ℕ) : Type 0 where
  pub served : IsServed core.core tape
  pub paid : core.meter.steps + 2 * args_waiting served.state.connections.all ≤ most_counted served.reached looks
