-- Bounds, by the limits: of the bytes that are held, and of the steps that an event takes.
use Rattle.std.specs.Prelude.{ℕ, ◌+◌, ◌*◌, List, [], ◌∷◌, length, Some}
use Rattle.rb_registry.specs.Slots.{row_charge}
use Rattle.rb_stats.specs.Stats.{most_keys}
use Rattle.rb_forward.specs.StandsFor.{longest_forwarded_call}
use Rattle.rb_model.specs.declared.types.Limits.{Limits}
use Rattle.rb_model.specs.Calls.{longest_reply}
use Rattle.rb_model.specs.Connections.{longest_fragment}
use Rattle.rb_model.specs.Step.{Event, Output, step}
use Rattle.rb_model.specs.Step.Output.{Took, TookAndLost, IsPending, Done, Replied, UnsentIs, RepliedTo}
use Rattle.rb_model.specs.Step.Event.{Gave, Datagram, Forward}
use Rattle.rb_model.specs.State.{State}
use Rattle.rb_forward.specs.Forwards.{entry_charge}

-- ---- held bytes

-- the longest call that is served: a head of 840 bytes and arguments of 8,816
abbrev pub longest_served_call : ℕ
longest_served_call = 9656

-- the longest address text of a row
abbrev pub longest_address : ℕ
longest_address = 128

-- what the fixed part of a connection counts as, in bytes
abbrev pub connection_charge : ℕ
connection_charge = 128

-- HELD-3: What a core holds is at most its bound, less 1,868 for each connection that is Idle or
-- Reading, in each state that a run reaches.
abbrev pub bytes_bound : Limits → ℕ
bytes_bound limits =
    limits.conns * (connection_charge + longest_served_call + longest_fragment) + limits.rows * (row_charge + longest_address) + limits.forwards * (entry_charge + longest_forwarded_call)
    + most_keys * 48 + longest_reply

-- ---- steps

-- how many bytes of a piece were taken, as an output says
abbrev pub count_in : Output → ℕ
count_in (Took n) = n
count_in (TookAndLost n) = n
count_in other = 0

-- the bytes that an event takes, by its output: a datagram counts whole, and what is refused takes none
abbrev pub bytes_in : Event → Output → ℕ
bytes_in (Datagram now who content) output = length content
bytes_in (Forward now from message) output = length message
bytes_in event output = count_in output

-- the bytes that an output has
abbrev pub bytes_lent : Output → ℕ
bytes_lent (IsPending bytes) = length bytes
bytes_lent (Replied reply) = length reply
bytes_lent (UnsentIs (Some unsent)) = length unsent.call
bytes_lent (RepliedTo who reply) = length reply
bytes_lent other = 0

-- the bytes that an event lends, or reports as given
abbrev pub bytes_out : Event → Output → ℕ
bytes_out (Gave now id n) Done = n
bytes_out event output = bytes_lent output

-- the most steps of an event at these limits, if it takes this many bytes, and lends or reports as given this many
-- STEPS-1: An event costs at most 8 steps for each byte that it takes, lends or reports as given,
-- 64 for each connection, row, key and forwarded call that there may be, and 16 for each byte of
-- the longest call, in each state that a run reaches at good limits.
abbrev pub steps_bound : Limits → ℕ → ℕ → ℕ
steps_bound limits taken given =
    8 * taken + 8 * given + 64 * (limits.conns + limits.rows + most_keys + limits.forwards) + 16 * longest_served_call

-- the same of an event in a state
abbrev pub bound_at : State → Event → ℕ
bound_at s event =
    let output : Output = (step s event).0 in steps_bound s.setting.limits (bytes_in event output) (bytes_out event output)

-- of each event from the state that it meets, added up
abbrev pub run_bound : State → List Event → ℕ
run_bound s [] = 0
run_bound s (event ∷ events) = bound_at s event + run_bound (step s event).1 events
