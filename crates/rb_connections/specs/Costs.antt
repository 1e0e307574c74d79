-- What a call on a connection, or on the table of connections, costs at most.
use Rattle.std.specs.Prelude.{ℕ, ◌+◌, ◌*◌, ◌/◌, length, is_some, Option, Some, None, Result, Ok, Err}
use Rattle.rb_xdr.specs.Meter.{Meter, PaysAtMost}
use Rattle.rb_registry.specs.Registry.{Registry, slots_of}
use Rattle.rb_model.specs.declared.types.CoreFault.{CoreFault}
use Rattle.rb_model.specs.declared.types.Given.{Given}
use Rattle.rb_rpc.specs.declared.standing.Standing.{Standing}
use Rattle.rb_model.specs.Standings.{without_standing}
use Rattle.rb_model.specs.Connections.{longest_fragment, live_connection}
use Rattle.rb_model.specs.Costs.{walked, show_cost, listed_cost, given_cost, recount_cost, find_cost, take_cost, swap_cost, gave_cost}
use Rattle.rb_model.specs.Gives.{written_into_cost, write_into_cost, given_in}
use Rattle.rb_model.specs.State.{Connections}
use Rattle.rb_connections.specs.declared.giving.Rest.{Rest}
use Rattle.rb_connections.specs.declared.giving.Rest.TheVariants as rests
use Rattle.rb_model.specs.declared.served.Served.{Served}
use Rattle.rb_model.specs.declared.served.Served.TheVariants.{Answered, Listed}
use Rattle.rb_connections.specs.declared.slot.EndedRecord.{EndedRecord}
use Rattle.rb_connections.specs.declared.slot.Received.{Received}
use Rattle.rb_connections.specs.declared.slot.Slot.{Slot}
use Rattle.rb_connections.specs.Listings.{stamp_of_slot}
use Rattle.rb_connections.specs.StandsFor.{Table, StandsForConnections}

-- ---- on one connection

-- how many rows a registry keeps
abbrev pub row_count : Registry → ℕ
row_count registry = length (slots_of registry)

-- what it costs to show the next fragment of a reply
abbrev pub next_cost : Registry → Rest → ℕ
next_cost registry (rests.Held start) = show_cost
next_cost registry (rests.Listed list) = listed_cost (row_count registry)

-- what it costs to write fragments of a reply, n bytes, and to show the next one
abbrev pub fragments_cost : Registry → Rest → ℕ → ℕ
fragments_cost registry rest n = (n / longest_fragment + 1) * next_cost registry rest

-- what it costs to begin to give what a message is answered with
abbrev pub answered_cost : Registry → Served → ℕ
answered_cost registry (Answered given) = show_cost + 1
answered_cost registry (Listed xid listing) = listed_cost (row_count registry) + 1

-- what it costs to swap the buffer of a record, if one ended
abbrev pub record_swap_cost : Option EndedRecord → ℕ
record_swap_cost None = 0
record_swap_cost (Some ended) = swap_cost

-- what it costs to take this many bytes of a piece, and to swap the buffer of the record that ended with them
abbrev pub received_cost : Received → ℕ
received_cost got = take_cost got.count + record_swap_cost got.ended

abbrev pub taken_cost : Result Received CoreFault → ℕ
taken_cost (Ok got) = received_cost got + recount_cost
taken_cost (Err fault) = 0

-- what it costs to count bytes as given: only the next fragment of a list walks the rows
abbrev pub slot_given_cost : Registry → Slot → ℕ
slot_given_cost registry slot = given_cost (walked (is_some (stamp_of_slot slot)) (row_count registry))

-- what it costs to give n bytes into a room
abbrev pub slot_into_cost : Registry → Slot → ℕ → ℕ
slot_into_cost registry slot n = written_into_cost (walked (is_some (stamp_of_slot slot)) (row_count registry)) n

-- ---- on the table

-- how many connections are there, and what it costs to look one of them up
abbrev pub slot_count : Table → ℕ
slot_count table = length table.slots

abbrev pub look_cost : Table → ℕ
look_cost table = find_cost (slot_count table)

-- what it costs to look one up, and to begin to give what a message is answered with
abbrev pub settling_cost : Table → Registry → Served → ℕ
settling_cost table registry served = look_cost table + answered_cost registry served + recount_cost

-- or to count bytes as given on it, by the connections that the table stands for
abbrev pub PaysToGive : Table → Registry → ℕ → Meter → Meter → Type 0
PaysToGive table registry id before now =
    (x : Connections) → StandsForConnections registry table x
    → PaysAtMost before now (gave_cost (slot_count table) (row_count registry) (live_connection id x.all))

-- or to give what the result says into a room
abbrev pub PaysToWriteInto : Table → Registry → ℕ → Result Given CoreFault → Meter → Meter → Type 0
PaysToWriteInto table registry id result before now =
    (x : Connections) → StandsForConnections registry table x
    → PaysAtMost before now
    (write_into_cost (slot_count table) (row_count registry) (given_in result) (live_connection id x.all))

-- a piece of bytes is taken on a connection of the table, if it is there
abbrev pub PaysToTake : Table → Result (Received × Standing) CoreFault → Meter → Meter → Type 0
PaysToTake table result before now =
    PaysAtMost before now (2 * slot_count table + 3 + taken_cost (without_standing result))
