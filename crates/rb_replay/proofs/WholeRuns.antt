-- A run costs no more than its bytes, those that waited as it began, and its events allow.
use Rattle.std.specs.Prelude.{min}
use Rattle.std.specs.List.{AllZip, sum_by}
use Rattle.std.specs.Map.{values_of}
use Rattle.std.proofs.Common.{◌≡◌, ◌≤◌, ℕ, ◌-◌, List, [], ◌∷◌, length, refl, ap, arith, true}
use Rattle.std.proofs.lemmas.List.Sums.{sum_by-cons}
use Rattle.rb_xdr.specs.Kept.{Kept}
use Rattle.rb_xdr.specs.Meter.{Meter, PaysAtMost}
use Rattle.rb_model.specs.State.{State, Phase, Connection, are_good}
use Rattle.rb_model.specs.State.Phase.{Idle, Reading, Owing, Awaiting, Lost}
use Rattle.rb_model.specs.Step.{Event, run, IsReached}
use Rattle.rb_model.specs.Costs.{run_cost}
use Rattle.rb_model.specs.WholeRuns.{args_in, args_waiting, whole_bound}
use Rattle.rb_laws.proofs.WholeRuns.{whole_runs_are_bounded}
use Rattle.rb_connections.specs.declared.slot.Slot.{Slot}
use Rattle.rb_connections.specs.declared.slot.Stage.{Stage}
use Rattle.rb_connections.specs.declared.slot.Stage.TheVariants as stages
use Rattle.rb_registry.specs.Registry.{Registry}
use Rattle.rb_connections.specs.StandsFor.{StandsForPhase, StandsForConnection}
use Rattle.rb_core.specs.StandsFor.{CoreView, StandsFor}
use Rattle.rb_core.specs.Events.{count_shown, greatest_count}
use Rattle.rb_replay.specs.Runs.{buffer_bytes}
use Rattle.rb_core.proofs.Spending.{at_most}

-- ---- what waits is in the buffers

phase_buffer : (registry : Registry) (stage : Stage) (buffer window : Kept) (phase : Phase) → StandsForPhase registry stage buffer window phase → args_in phase ≤ length buffer.bytes
phase_buffer registry (stages.Reading reader) buffer window (Reading fed) h = omega (arith, ap (λ (xs : List ℕ). length xs) h.0.data_is.kept_is)
phase_buffer registry stage buffer window (Reading fed) h = absurd h
phase_buffer registry stage buffer window Idle h = omega arith
phase_buffer registry stage buffer window (Owing o) h = omega arith
phase_buffer registry stage buffer window Awaiting h = omega arith
phase_buffer registry stage buffer window Lost h = omega arith

all_buffers : (registry : Registry) (slots : List Slot) (all : List Connection) → AllZip (StandsForConnection registry) slots all → args_waiting all ≤ sum_by (λ (slot : Slot). length slot.buffer.bytes) slots
all_buffers registry [] [] z = omega arith
all_buffers registry [] (c ∷ all) z = absurd z
all_buffers registry (slot ∷ slots) [] z = absurd z
all_buffers registry (slot ∷ slots) (c ∷ all) z =
    let one = phase_buffer registry slot.stage slot.buffer slot.window c.phase z.0.phase in
    let rest = all_buffers registry slots all z.1 in
    omega (arith, one, rest, sum_by-cons (λ (x : Slot). length x.buffer.bytes) slot slots, sum_by-cons (λ (x : Connection). args_in x.phase) c all)

pub waits_in_buffers : (core : CoreView) (s : State) → StandsFor core s → args_waiting s.connections.all ≤ buffer_bytes core
waits_in_buffers core s h = all_buffers core.books.registry (values_of core.connections.slots) s.connections.all h.connections.all

pub paid_within_whole : (core : CoreView) (s : State) (events : List Event) (a b : Meter) → StandsFor core s → IsReached s → are_good s.setting.limits s.setting.listener ≡ true
    → PaysAtMost a b (run_cost s events) → PaysAtMost a b (whole_bound s.setting.limits (buffer_bytes core) events (run s events))
paid_within_whole core s events a b h reached good pays =
    let cost = whole_runs_are_bounded s reached good events in
    let held = waits_in_buffers core s h in
    at_most a b (run_cost s events) (whole_bound s.setting.limits (buffer_bytes core) events (run s events)) (omega (arith, cost, held)) pays

-- ---- what is told of a run

-- the buffers are empty if no connection is there
pub no_buffer_bytes : (core : CoreView) (s : State) → StandsFor core s → s.connections.all ≡ [] → buffer_bytes core ≡ 0
no_buffer_bytes core s h none = by_slots (values_of core.connections.slots) s.connections.all h.connections.all none
  where
    by_slots : (slots : List Slot) (all : List Connection) → AllZip (StandsForConnection core.books.registry) slots all → all ≡ [] → sum_by (λ (slot : Slot). length slot.buffer.bytes) slots ≡ 0
    by_slots [] all z e = refl
    by_slots (slot ∷ slots) [] z e = absurd z
    by_slots (slot ∷ slots) (c ∷ all) z e = absurd cc

-- what a meter shows more than before
pub shown_within : (a b : Meter) (bound : ℕ) → PaysAtMost a b bound → count_shown b - count_shown a ≤ min bound greatest_count
shown_within a b bound pays = omega (arith, pays.steps, pays.rises)
