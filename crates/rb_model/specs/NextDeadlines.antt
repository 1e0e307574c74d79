-- The next moment at which something is due, and what `expire` does before that moment, and from it on.
use Rattle.std.specs.Prelude.{◌≡◌, ◌≤◌, ◌<◌, ℕ, List, map, Option, Some, None}
use Rattle.rb_forward.specs.Deadlines.{sooner_of, soonest_of, next_deadline as next_entry_deadline}
use Rattle.rb_model.specs.declared.types.Expired.TheVariants.{Nothing}
use Rattle.rb_model.specs.State.{Connection, Connections, State}
use Rattle.rb_model.specs.Losses.{deadline}
use Rattle.rb_model.specs.Ending.{at_fresh_moment, expire}
use Rattle.rb_model.specs.DeadlineLaws.{clock_at}

-- ---- what it is

-- of each connection; one that is Awaiting or Lost has none
unfoldable pub connection_deadlines : List Connection → List (Option ℕ)
connection_deadlines all = map (λ (c : Connection). deadline c.since c.phase) all

-- the least deadline of the connections, if one of them has a deadline
abbrev pub next_connection_deadline : Connections → Option ℕ
next_connection_deadline c = soonest_of (connection_deadlines c.all)

-- DEADLINE-3: The next deadline is the least one of the connections and of the forwarded calls:
-- before it `expire` finds nothing, and from it on something.
-- WAIT-4
unfoldable pub next_deadline : State → Option ℕ
next_deadline s = sooner_of (next_connection_deadline s.connections) (next_entry_deadline s.ledger.forwards)

-- ---- what holds of it

-- nothing is due at this moment, and nothing has changed but the clock and the last reply
abbrev pub FindsNothing : State → ℕ → Type 0
FindsNothing s now = expire s now ≡ (Nothing, at_fresh_moment now s)

-- something is due at this moment, and is done
abbrev pub FindsSomething : State → ℕ → Type 0
FindsSomething s now = (expire s now).0 ≡ Nothing → ⊥

-- The clock never goes back, so a moment before it counts as the clock.
-- DEADLINE-3
abbrev pub IsNextDeadline : State → ℕ → Option ℕ → Type 0
IsNextDeadline s now None = FindsNothing s now
IsNextDeadline s now (Some moment) =
    (clock_at now s < moment → FindsNothing s now) × (moment ≤ clock_at now s → FindsSomething s now)

abbrev pub NextDeadlinesAreExact : Type 0
NextDeadlinesAreExact = (s : State) (now : ℕ) → IsNextDeadline s now (next_deadline s)
