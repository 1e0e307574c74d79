-- What is done after a wait for events that fails.
use Rattle.std.specs.Prelude.{ℕ, ◌+◌, ◌-◌, ◌^◌, min, nat_lt, Bool, true, false, if◌then◌else◌}
use Rattle.rb_policy.specs.declared.waits.AfterWait.{AfterWait}
use Rattle.rb_policy.specs.declared.waits.AfterWait.TheVariants.{GoOn, Pause, End}

-- how many waits fail one after another before the daemon ends
abbrev pub most_failed : ℕ
most_failed = 50

-- how many failed one after another, after one more that was done or failed
abbrev pub failed_after : ℕ → Bool → ℕ
failed_after failed true = 0
failed_after failed false = min (failed + 1) (2 ^ 32 - 1)

-- WAIT-6: A wait for events that fails is tried again: the turn goes on after a pause of 100 ms. The 50th that fails one
-- after another ends the daemon; one that does not fail begins the count anew.
abbrev pub after_wait : ℕ → Bool → AfterWait
after_wait failed true = GoOn
after_wait failed false = if nat_lt (failed_after failed false) most_failed then Pause else End
