-- Laws of the core between two events of the daemon: bounds that hold with no premise on its limits or its listener.
use Rattle.std.specs.Prelude.{◌≡◌, ◌≤◌, ◌<◌, ℕ, ◌^◌, true, List, [], length, take, ◌⊎◌, Ok}
use Rattle.std.specs.List.{concat}
use Rattle.rb_answers.specs.Ledger.{rows_in}
use Rattle.rb_model.specs.ChangeLaws.{set_rows, restored, IsReachedByBytes}
use Rattle.rb_model.specs.State.{State, opening, are_good}
use Rattle.rb_model.specs.Bounds.{bytes_bound, bound_at}
use Rattle.rb_model.specs.Costs.{event_cost, run_cost}
use Rattle.rb_model.specs.Step.{Event, run, IsReached}
use Rattle.rb_model.specs.WholeRuns.{args_waiting, whole_bound}
use Rattle.rb_lines.specs.Tapes.{Tape, EndsWithin}
use Rattle.rb_core.specs.StandsFor.{CoreView, StandsFor}
use Rattle.rb_core.specs.HeldBytes.{held}
use Rattle.rb_core.specs.Metered.{Metered}
use Rattle.rb_lines.specs.RecordLaws.{ReadsAs}
use Rattle.rb_lines.specs.Starts.{MeetsLaws}
use Rattle.rb_keep.specs.Reading.{read as read_kept}
use Rattle.rb_keep.specs.KeptLaws.{CanBeKept}
use Rattle.rb_engine.specs.Keeping.{AreLinesOfRows}
use Rattle.rb_engine.specs.Recording.{entries_of}
use Rattle.rb_engine.specs.Served.{IsServed}
use Rattle.rb_engine.specs.Counting.{most_counted, IsPaid}

-- ---- bounds

-- What the core holds is no more than the bound of its limits.
abbrev pub ServedBytesAreBounded : Type 0
ServedBytesAreBounded = (core : CoreView) (tape : Tape) → ∥ IsServed core tape ∥₁ → held core ≤ bytes_bound core.setting.limits

-- Whatever state that a run reaches the core stands for, no event costs more than its bound there.
abbrev pub ServedStepsAreBounded : Type 0
ServedStepsAreBounded =
    (core : CoreView) (tape : Tape) → ∥ IsServed core tape ∥₁ → (s : State) → StandsFor core s → IsReached s
    → (event : Event) → event_cost s event ≤ bound_at s event

-- And no run from there costs more than its whole bound.
abbrev pub ServedRunsAreBounded : Type 0
ServedRunsAreBounded =
    (core : CoreView) (tape : Tape) → ∥ IsServed core tape ∥₁ → (s : State) → StandsFor core s → IsReached s
    → (events : List Event)
    → run_cost s events ≤ whole_bound s.setting.limits (args_waiting s.connections.all) events (run s events)

-- All that its meter counted is at most what the making of the core costs, the whole bound of the run that was handed in, and
-- for each look of the daemon what a look may take.
-- STEPS-8
abbrev pub ServedMetersAreBounded : Type 0
ServedMetersAreBounded =
    (core : Metered) (tape : Tape) (looks : ℕ) (counted : IsPaid core tape looks)
    → core.meter.steps ≤ most_counted counted.served.reached looks

-- ---- what laws of a run presuppose

-- The run brought bytes alone, its limits are good, and it began as it should.
pub record AreMet (s : State) (tape : Tape) : Type 0 where
  pub bytes : IsReachedByBytes s
  pub good : are_good s.setting.limits s.setting.listener ≡ true
  pub begins : MeetsLaws s.setting.listener tape.limit

abbrev pub ServedPremisesAreMet : Type 0
ServedPremisesAreMet = (core : CoreView) (tape : Tape) (served : IsServed core tape) → AreMet served.state tape

-- ---- the rows that are kept

-- A text is read as the rows that were set. Their SETs bring back all live rows, in their order, and are in no statistics.
-- KEEP-1 KEEP-7
pub record KeepsTheRows (s : State) (text : List ℕ) : Type 0 where
  pub read_as : read_kept text ≡ Ok (set_rows s)
  pub again : rows_in (restored s).ledger ≡ rows_in s.ledger
  pub uncounted : (restored s).ledger.history ≡ []

-- So is what the keeper writes of all rows of the daemon, whatever it is asked for. The clock is a number of 64 bits.
abbrev pub ServedRowsAreKept : Type 0
ServedRowsAreKept =
    (core : CoreView) (tape : Tape) (served : IsServed core tape) → core.clock < 2 ^ 64
    → (text : List ℕ) → AreLinesOfRows core text → KeepsTheRows served.state text

-- And the lines of changes may follow it: its state is one of those of which these laws speak.
-- KEEP-14
abbrev pub ServedRowsMayChange : Type 0
ServedRowsMayChange = (core : CoreView) (tape : Tape) (served : IsServed core tape) → core.clock < 2 ^ 64 → CanBeKept served.state

-- ---- the record

-- The text of a tape reads as the first events of a run, all of them while the recording goes on, and says what they gave.
pub record ReadsBack (s : State) (r : IsReached s) (tape : Tape) : Type 0 where
  pub count : ℕ
  pub are_there : count ≤ length r.events
  pub all : tape.is_on ≡ true → count ≡ length r.events
  pub reads : ReadsAs tape.text (take count r.events) (run (opening r.limits r.listener r.first_xid r.now) (take count r.events))

-- So does the record of the daemon. Its first line has the options of the run, so `replay --check` finds no difference.
abbrev pub ServedRecordsAreRead : Type 0
ServedRecordsAreRead =
    (core : CoreView) (tape : Tape) (served : IsServed core tape)
    → ReadsBack served.state served.reached tape

-- a text has the first of these entries, and nothing else
abbrev pub IsFront : List (List ℕ) → List ℕ → Type 0
IsFront entries text = (count : ℕ) × (text ≡ concat (take count entries))

-- The record of the daemon has the first entries of its run alone, or ends in front of the first one that does not fit.
abbrev pub ServedRecordsEndFull : Type 0
ServedRecordsEndFull =
    (core : CoreView) (tape : Tape) (served : IsServed core tape)
    → IsFront (entries_of served.reached) tape.text ⊎ EndsWithin tape.limit (entries_of served.reached) [] tape.text
