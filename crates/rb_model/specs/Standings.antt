-- Where a connection stands between two events: its phase without its data.
use Rattle.std.specs.Prelude.{ℕ, nat_lt, if◌then◌else◌, Option, Some, None, Result, Ok, Err}
use Rattle.rb_model.specs.declared.types.CoreFault.{CoreFault}
use Rattle.rb_rpc.specs.declared.standing.Standing.{Standing}
use Rattle.rb_rpc.specs.declared.standing.Standing.TheVariants as stands
use Rattle.rb_model.specs.State.{Phase, Connection, State}
use Rattle.rb_model.specs.State.Phase.{Idle, Reading, Owing, Awaiting, Lost}
use Rattle.rb_model.specs.Connections.{live_connection}

abbrev pub standing_in : Phase → Standing
standing_in Idle = stands.Idle
standing_in (Reading fed) = stands.Reading
standing_in (Owing owed) = stands.Owing
standing_in Awaiting = stands.Awaiting
standing_in Lost = stands.Lost

-- one that is not live is Lost, or is closed
abbrev pub standing_on : Option Connection → Standing
standing_on None = stands.Lost
standing_on (Some c) = standing_in c.phase

-- STANDING-1: `Core::bytes`, `Core::exchange`, `Core::gave` and `Core::write_into` say where the
-- connection stands then: its phase without its data; `bytes` and `exchange` but for STANDING-2.
abbrev pub standing_of : ℕ → State → Standing
standing_of id s = standing_on (live_connection id s.connections.all)

-- Where it stands after this many bytes that were taken of a piece: the call that was forwarded with the last of them waits
-- to be sent.
-- STANDING-2: After bytes that brought a call which is forwarded the connection's standing is
-- Sends, later Awaiting: its call waits unsent, and `unsent` lends the first that does.
-- PROGRESS-1 EVENT-2
abbrev pub standing_behind : ℕ → Standing → Standing
standing_behind count stands.Idle = stands.Idle
standing_behind count stands.Reading = stands.Reading
standing_behind count stands.Owing = stands.Owing
standing_behind count stands.Awaiting = if nat_lt 0 count then stands.Sends else stands.Awaiting
standing_behind count stands.Sends = stands.Sends
standing_behind count stands.Lost = stands.Lost

-- ---- results without it

-- of a call that answers it alone
abbrev pub as_done : Result Standing CoreFault → Result (Unit {0}) CoreFault
as_done (Ok standing) = Ok tt
as_done (Err fault) = Err fault

-- of a call that answers it beside something else
abbrev pub without_standing : {A : Type 0} → Result (A × Standing) CoreFault → Result A CoreFault
without_standing (Ok (done, standing)) = Ok done
without_standing (Err fault) = Err fault
