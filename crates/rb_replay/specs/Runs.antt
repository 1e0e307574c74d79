-- What a list of events does to a core, what it costs, and how many bytes are held after it.
use Rattle.std.specs.Prelude.{◌≡◌, ◌≤◌, ◌<◌, ◌-◌, min, true, List, ◌++◌, length, take, ℕ}
use Rattle.std.specs.Global.{Vec}
use Rattle.std.specs.List.{sum_by}
use Rattle.std.specs.Map.{values_of}
use Rattle.rb_xdr.specs.Meter.{Meter, PaysAtMost}
use Rattle.rb_model.specs.declared.types.Limits.{Limits}
use Rattle.rb_model.specs.Step.{Event, Output, run, after, IsReached}
use Rattle.rb_model.specs.State.{State, are_good}
use Rattle.rb_model.specs.Costs.{run_cost}
use Rattle.rb_model.specs.Bounds.{bytes_bound, run_bound}
use Rattle.rb_model.specs.Plain.{OwnedEvent, OwnedOutput, events_of, outputs_of}
use Rattle.rb_model.specs.WholeRuns.{whole_bound}
use Rattle.rb_connections.specs.declared.slot.Slot.{Slot}
use Rattle.rb_core.specs.StandsFor.{CoreView, StandsFor}
use Rattle.rb_core.specs.HeldBytes.{held, IsListener}
use Rattle.rb_core.specs.Metered.{Metered}
use Rattle.rb_core.specs.Events.{greatest_count}

-- ---- a run

-- the events whose outputs were appended to the earlier ones
abbrev pub answered_events : List OwnedEvent → List OwnedOutput → List OwnedOutput → List Event
answered_events events before now = take (length now - length before) (events_of events)

-- From the state the events have happened: their outputs came after the earlier ones, and what is held stands for
-- the state after them.
pub record Happened (s : State) (events : List Event) (before now : List Output) (core : CoreView) : Type 0 where
  pub outputs : now ≡ before ++ run s events
  pub state : StandsFor core (after s events)

-- From whatever state the core stood for, all of the events have happened, and these were the outputs before and after.
abbrev pub AllHappened : List OwnedEvent → Metered → Metered → Vec OwnedOutput → Vec OwnedOutput → Type 0
AllHappened events old new before now =
    (s : State) → StandsFor old.core s → Happened s (events_of events) (outputs_of before.items) (outputs_of now.items) new.core

-- The same of the first ones, and not of all.
abbrev pub SomeHappened : List OwnedEvent → Metered → Metered → Vec OwnedOutput → Vec OwnedOutput → Type 0
SomeHappened events old new before now =
    (s : State) → StandsFor old.core s → (n : ℕ) × (n < length events)
    × Happened s (take n (events_of events)) (outputs_of before.items) (outputs_of now.items) new.core

-- At most the cost of these events is paid, from whatever state the core stood for.
abbrev pub PaysForRun : CoreView → List Event → Meter → Meter → Type 0
PaysForRun core events before now = (s : State) → StandsFor core s → PaysAtMost before now (run_cost s events)

-- From each state that a run reaches at good limits and that the core stood for, no more is paid
-- for these events than their bounds.
abbrev pub PaysWithinBound : CoreView → List Event → Meter → Meter → Type 0
PaysWithinBound core events before now =
    (s : State) → StandsFor core s → IsReached s → are_good s.setting.limits s.setting.listener ≡ true → PaysAtMost before now (run_bound s events)

-- From each state that a run reaches, with a listener as its type has it, and that the old core stood for, the new one
-- holds no more than the bound.
abbrev pub StaysWithinBound : CoreView → CoreView → Type 0
StaysWithinBound old new =
    (s : State) → StandsFor old s → IsReached s → IsListener s.setting.listener → held new ≤ bytes_bound s.setting.limits

-- the bytes in the buffers of all connections
abbrev pub buffer_bytes : CoreView → ℕ
buffer_bytes core = sum_by (λ (slot : Slot). length slot.buffer.bytes) (values_of core.connections.slots)

-- From each state that a run reaches at good limits and that the core stood for, no more is paid for these events than the
-- bound of the run.
abbrev pub PaysWithinWhole : CoreView → List Event → Meter → Meter → Type 0
PaysWithinWhole core events before now =
    (s : State) → StandsFor core s → IsReached s → are_good s.setting.limits s.setting.listener ≡ true
    → PaysAtMost before now (whole_bound s.setting.limits (buffer_bytes core) events (run s events))

-- The same of those events whose outputs were appended.
abbrev pub PaysForAnswered : List OwnedEvent → Metered → Metered → Vec OwnedOutput → Vec OwnedOutput → Type 0
PaysForAnswered events old new before now =
    PaysWithinWhole old.core (answered_events events before.items now.items) old.meter new.meter

-- ---- the bound as it is printed

-- the bound as it is printed: from empty buffers, and as far as a number of 128 bits goes
-- STEPS-6
abbrev pub bound_shown : Limits → List Event → List Output → ℕ
bound_shown limits events outputs = min (whole_bound limits 0 events outputs) greatest_count
