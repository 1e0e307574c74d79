-- How long is waited, in milliseconds.
use Rattle.std.specs.Prelude.{ℕ, ◌-◌, nat_lt, min, if◌then◌else◌, Option, Some, None}

-- at most `most`, and no longer than what is left of `whole`
-- WAIT-5: No wait over TCP or UDP is longer than what is left of the whole call; an attempt to
-- connect to a local socket has no end of its own.
abbrev pub wait_left : ℕ → ℕ → ℕ → Option ℕ
wait_left most whole passed = if nat_lt passed whole then Some (min most (whole - passed)) else None

-- WAIT-8: The next bytes over TCP are waited for 25 seconds, in a call that takes 60 at most; the
-- datagram of a reply, and answers to a broadcast, 5 seconds.
abbrev pub stream_wait : ℕ → Option ℕ
stream_wait passed = wait_left 25000 60000 passed

-- WAIT-8
abbrev pub datagram_wait : ℕ → Option ℕ
datagram_wait passed = wait_left 5000 5000 passed

-- WAIT-8
abbrev pub broadcast_wait : ℕ → Option ℕ
broadcast_wait passed = wait_left 5000 5000 passed
