-- The moments that the core is handed.
use Rattle.std.specs.Prelude.{ℕ, ◌+◌, ◌-◌, ◌^◌, min, max, Option, Some, None}

-- the milliseconds after which what failed is tried again
abbrev pub retry_after : ℕ
retry_after = 100

-- The moment after another one: as much later as the monotonic clock went on, or the greatest one. If a wall clock
-- is followed, and is later than that, its moment.
-- MOMENT-1: Moments begin with the wall clock and go on by the monotonic clock: a wall clock that
-- is set back stops no deadline.
-- MOMENT-2: If nothing waits for a deadline, neither a connection nor a forwarded call, the moment,
-- and so GETTIME, is the later one of both clocks: a wall clock that is set forward ends no
-- connection, and is followed once nobody is there.
abbrev pub next_moment : ℕ → ℕ → ℕ → Option ℕ → ℕ
next_moment last before monotonic None = min (last + (monotonic - before)) (2 ^ 64 - 1)
next_moment last before monotonic (Some wall) = max (min (last + (monotonic - before)) (2 ^ 64 - 1)) wall

-- how much is left of a wait, which has no end or began at a time of the monotonic clock or later: as much as is tried again
-- after, at most
-- WAIT-1: A wait that showed nothing and was shorter than it should be was ended by a signal: it is
-- slept to its end, but for at most 100 ms.
abbrev pub rest_of_wait : ℕ → Option ℕ → ℕ → ℕ
rest_of_wait before None monotonic = retry_after
rest_of_wait before (Some wait) monotonic = min (wait - (monotonic - before)) retry_after
