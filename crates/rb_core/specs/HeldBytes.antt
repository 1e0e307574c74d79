-- The bytes that a core holds, and that they never pass their bound.
use Rattle.std.specs.Prelude.{ℕ, ◌+◌, ◌*◌, length, ◌≡◌, ◌<◌, ◌≤◌, ◌^◌, Bool, true, count_by, is_some, IfSome}
use Rattle.std.specs.Map.{values_of}
use Rattle.std.specs.List.{AllZip}
use Rattle.rb_registry.specs.Registry.{slots_of as rows_of}
use Rattle.rb_registry.specs.Slots.{held_in as held_of_rows}
use Rattle.rb_stats.specs.Stats.{key_count}
use Rattle.rb_forward.specs.StandsFor.{slots_of as calls_of, held_in as held_of_calls}
use Rattle.rb_answers.specs.declared.listener.Listener.{Listener}
use Rattle.rb_model.specs.State.{Connection, State}
use Rattle.rb_model.specs.Connections.{fed_in}
use Rattle.rb_model.specs.Calls.{longest_kept}
use Rattle.rb_model.specs.Bounds.{bytes_bound}
use Rattle.rb_model.specs.Step.{IsReached}
use Rattle.rb_connections.specs.StandsFor.{held_in as held_of_connections, charge}
use Rattle.rb_connections.specs.declared.slot.Slot.{Slot}
use Rattle.rb_core.specs.StandsFor.{CoreView, StandsFor}

-- ---- held bytes

-- what the connections hold, the rows, live or retained, the keys of the statistics, the forwarded calls, and the last reply
-- over UDP
-- HELD-5: What a core holds is the sum of what its pools and buffers have.
abbrev pub held : CoreView → ℕ
held core =
    held_of_connections (values_of core.connections.slots) + held_of_rows (rows_of core.books.registry) + 48 * key_count core.books.stats
    + held_of_calls (calls_of core.books.forwards) + length core.reply

-- ---- held bytes: a connection that takes bytes holds less than its share

-- it is Idle or Reading
abbrev pub takes_bytes : Connection → Bool
takes_bytes c = is_some (fed_in c.phase)

-- It holds the arguments of one call at most, beside its fixed part.
abbrev pub HoldsArguments : Slot → Connection → Type 0
HoldsArguments slot c = takes_bytes c ≡ true → charge slot ≤ 128 + longest_kept

-- what such a connection never holds of its share of the bound: the head of a call, and a fragment of a reply
abbrev pub unheld_share : ℕ
unheld_share = 840 + 1028

-- What is held, with this share for each connection that is Idle or Reading, is within the bound.
-- HELD-3
pub record IsBounded (core : CoreView) (s : State) : Type 0 where
  pub each : AllZip HoldsArguments (values_of core.connections.slots) s.connections.all
  pub whole : held core + unheld_share * count_by takes_bytes s.connections.all ≤ bytes_bound s.setting.limits

-- A listener has a port of 16 bits, and the path of its local socket, if it has one, has at most 128 bytes.
pub record IsListener (listener : Listener) : Type 0 where
  pub port : listener.port < 2 ^ 16
  pub path : IfSome listener.local (λ path. length path ≤ 128)

-- Whatever a core holds that stands for a state that a run reaches.
abbrev pub HeldBytesAreBounded : Type 0
HeldBytesAreBounded =
    (core : CoreView) (s : State) → StandsFor core s → IsReached s → IsListener s.setting.listener → IsBounded core s
