-- What a whole run takes at most, in counted steps: by the bytes that it takes and gives, the bytes of arguments that wait
-- as it begins, and the number of its events. No greatest length of a call stands in it.
use Rattle.std.specs.Prelude.{◌≡◌, ◌≤◌, ℕ, ◌+◌, ◌*◌, true, List, [], ◌∷◌, length}
use Rattle.std.specs.List.{sum_by}
use Rattle.rb_rpc.specs.Records.{data_of}
use Rattle.rb_stats.specs.Stats.{most_keys}
use Rattle.rb_model.specs.declared.types.Limits.{Limits}
use Rattle.rb_model.specs.State.{Phase, Connection, State, are_good}
use Rattle.rb_model.specs.State.Phase.{Idle, Reading, Owing, Awaiting, Lost}
use Rattle.rb_model.specs.Calls.{kept_of}
use Rattle.rb_model.specs.Bounds.{bytes_in, bytes_out}
use Rattle.rb_model.specs.Costs.{event_cost, run_cost}
use Rattle.rb_model.specs.Step.{Event, Output, step, run, IsReached}
use Rattle.rb_model.specs.Step.Event.{Gave}
use Rattle.rb_model.specs.Step.Output.{Refused}

-- ---- bytes

-- The bytes of arguments that a connection in this phase keeps of the record that it reads.
abbrev pub args_in : Phase → ℕ
args_in (Reading fed) = length (kept_of (data_of fed))
args_in Idle = 0
args_in (Owing owed) = 0
args_in Awaiting = 0
args_in Lost = 0

-- The same of all connections: arguments that are kept and not yet read.
abbrev pub args_waiting : List Connection → ℕ
args_waiting all = sum_by (λ (c : Connection). args_in c.phase) all

-- the sum of a number of each event with its output
abbrev pub total_of : (Event → Output → ℕ) → List Event → List Output → ℕ
total_of number [] outputs = 0
total_of number (event ∷ events) [] = 0
total_of number (event ∷ events) (output ∷ outputs) = number event output + total_of number events outputs

-- the bytes that the events take
abbrev pub total_in : List Event → List Output → ℕ
total_in events outputs = total_of bytes_in events outputs

-- The bytes that an event lends, or those that a `gave` reports. A `gave` on a connection that is gone was called and
-- counts; one of more than is pending is not called.
abbrev pub bytes_reported : Event → Output → ℕ
bytes_reported (Gave now id n) (Refused fault) = n
bytes_reported event output = bytes_out event output

-- the same of all events
abbrev pub total_out : List Event → List Output → ℕ
total_out events outputs = total_of bytes_reported events outputs

-- ---- steps

-- what one event may take apart from its bytes: 64 steps for each connection, row, key of the statistics and forwarded
-- call that there may be, and 4,096
abbrev pub event_allowance : Limits → ℕ
event_allowance limits = 64 * (limits.conns + limits.rows + most_keys + limits.forwards) + 4096

-- STEPS-2: A whole run costs at most 16 steps for each byte that is taken, lent or reported as
-- given and for each byte in the connections' buffers as it begins, and for each event 64 for each
-- connection, row, key and forwarded call that there may be, and 4,096. A datagram or a `forward`
-- counts its whole length, ignored ones too. A `gave` counts what it reports if it is called, also
-- for a connection that is gone, and not if it is too much.
abbrev pub whole_bound : Limits → ℕ → List Event → List Output → ℕ
whole_bound limits buffered events outputs =
    16 * (total_in events outputs + total_out events outputs + buffered) + length events * event_allowance limits

-- ---- laws

-- An event costs at most 16 steps for each of its bytes, and its allowance. This bound is amortised: the event that
-- brings a byte of arguments pays two steps ahead for it, and the event that answers the record spends them.
-- STEPS-2
abbrev pub EventsArePaidAhead : Type 0
EventsArePaidAhead =
    (s : State) → IsReached s → are_good s.setting.limits s.setting.listener ≡ true → (event : Event)
    → event_cost s event + 2 * args_waiting (step s event).1.connections.all
    ≤ 2 * args_waiting s.connections.all + 16 * (bytes_in event (step s event).0 + bytes_reported event (step s event).0)
    + event_allowance s.setting.limits

-- So a run costs no more than its bound, in which, of the buffers, only the arguments that wait count.
abbrev pub WholeRunsAreBounded : Type 0
WholeRunsAreBounded =
    (s : State) → IsReached s → are_good s.setting.limits s.setting.listener ≡ true → (events : List Event)
    → run_cost s events ≤ whole_bound s.setting.limits (args_waiting s.connections.all) events (run s events)
