-- What is done in a turn, and what is left for the next.
use Rattle.std.specs.Prelude.{ℕ, ◌+◌, ◌-◌, ◌/◌, ◌^◌, min, max, nat_lt, nat_le, Bool, true, false, ◌||◌, ◌==◌, if◌then◌else◌, Option, Some, None}
use Rattle.rb_forward.specs.Deadlines.{sooner_of}
use Rattle.rb_rpc.specs.declared.standing.Standing.{Standing}
use Rattle.rb_rpc.specs.declared.standing.Standing.TheVariants.{Owing}
use Rattle.rb_policy.specs.declared.turns.Again.{Again}
use Rattle.rb_policy.specs.declared.turns.Again.TheVariants.{AtOnce, AfterWait}
use Rattle.rb_policy.specs.declared.turns.Round.{Round}
use Rattle.rb_policy.specs.declared.turns.Round.TheVariants.{First, Last}

-- the most socket calls for one socket in a turn, and the most connections that a turn accepts
abbrev pub socket_calls : ℕ
socket_calls = 64

-- the number of bytes written to a connection that are enough for a turn
abbrev pub enough_written : ℕ
enough_written = 65536

-- how many connections are served in the last round of a turn
abbrev pub last_round : ℕ
last_round = 8

-- when a socket is served again on which all receives or accepts of a turn were made, by whether some got something
-- TURN-1: A socket on which all receives or all accepts of a turn failed does not keep the next
-- turn from waiting.
abbrev pub after_all_calls : Bool → Again
after_all_calls true = AtOnce
after_all_calls false = AfterWait

-- how long it is from a moment until something is due, if it is: 0 if that has come
abbrev pub time_until : ℕ → Option ℕ → Option ℕ
time_until now None = None
time_until now (Some due) = Some (due - now)

-- the wait of a turn: 0 if something is left, else until something is due, and no longer than it may; None has no end
-- WAIT-2: A turn does not wait if something is left. Otherwise it waits until the next thing is
-- due, and no longer than it may; without an end if neither is set.
abbrev pub wait_of : Bool → ℕ → Option ℕ → Option ℕ → Option ℕ
wait_of true now due longest = Some 0
wait_of false now due longest = sooner_of (time_until now due) longest

-- how many connections a turn accepts, if this many of all places are free when it begins to accept
-- ACCEPT-3: Connections are accepted last in a turn, on all listeners together at most 64, and no
-- more than places are free then; if none is free, at most an eighth of the places change hands, and at
-- least one.
abbrev pub accept_count : ℕ → ℕ → ℕ
accept_count free all = if free == 0 then min (max (all / 8) 1) socket_calls else min free socket_calls

-- how many places there are, of this many that are asked for, if of this many descriptors that many are others': one
-- more is kept for whoever comes when all places are taken
-- PLACES-1: Of the descriptors that the process may have, one is kept for a client that comes if
-- all places are taken; there are no more places than that leaves, and at least one.
abbrev pub place_count : ℕ → ℕ → ℕ → ℕ
place_count asked descriptors others = max (min asked (descriptors - others - 1)) 1

-- how many descriptors are others', of which the daemon's own sockets have this many: one is for the kernel's tables, one for
-- a record, and three are for kept rows, their new file and their lock
-- PLACES-1
abbrev pub others_of : ℕ → Bool → Bool → ℕ
others_of sockets records keeps =
    min (sockets + (1 + (if records then 1 else 0) + (if keeps then 3 else 0))) (2 ^ 64 - 1)

-- whether a connection is left for the next turn, after this many socket calls for it, and this many bytes written
-- TURN-2: A connection is left for the next turn after 64 socket calls, or when 65,536 bytes were
-- written to it.
abbrev pub is_cut_off : ℕ → ℕ → Bool
is_cut_off calls written = nat_le socket_calls calls || nat_le enough_written written

-- in which round a connection is served that was left by the last turn or was not, by where it stands
-- TURN-3: Connections that are owed bytes, and those that the last turn left, are served after the
-- others: at most 8 in a turn, and the next turn begins with the first that was passed over.
abbrev pub round_of : Bool → Standing → Round
round_of true standing = Last
round_of false Owing = Last
round_of false standing = First

-- whether one more is served in the last round
-- TURN-3
abbrev pub serves_another : ℕ → Bool
serves_another served = nat_lt served last_round
