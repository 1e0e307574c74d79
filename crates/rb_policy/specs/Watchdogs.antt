-- When a service manager is told that turns go on (sd_watchdog_enabled(3)).
use Rattle.std.specs.Prelude.{ℕ, ◌+◌, ◌-◌, ◌/◌, ◌^◌, ◌==◌, min, max, nat_le, Bool, true, if◌then◌else◌, List, Option, Some, None}
use Rattle.rb_address.specs.Reading.{number_below}
use Rattle.rb_policy.specs.Handed.{names_process}

-- whether the watchdog is that of this process, by WATCHDOG_PID, if that is there
abbrev pub is_watched : ℕ → Option (List ℕ) → Bool
is_watched own None = true
is_watched own (Some pid) = names_process own pid

-- half of a time in microseconds, in milliseconds, and at least one
abbrev pub half_of : Option ℕ → Option ℕ
half_of None = None
half_of (Some micros) = if micros == 0 then None else Some (max (micros / 2000) 1)

abbrev pub time_of : Option (List ℕ) → Option ℕ
time_of None = None
time_of (Some text) = half_of (number_below (2 ^ 64) text)

-- WATCHDOG-1: A watchdog is told of turns after half of the time that WATCHDOG_USEC says, if WATCHDOG_PID is missing or is the
-- number of this process.
abbrev pub watchdog_pause : ℕ → Option (List ℕ) → Option (List ℕ) → Option ℕ
watchdog_pause own pid micros = if is_watched own pid then time_of micros else None

-- WATCHDOG-2: A turn that ends when the watchdog is due tells it; the wait of a turn ends when it is due.
abbrev pub is_due : ℕ → ℕ → Bool
is_due next now = nat_le next now

abbrev pub next_due : ℕ → ℕ → ℕ → ℕ
next_due next pause now = if is_due next now then min (now + pause) (2 ^ 64 - 1) else next
