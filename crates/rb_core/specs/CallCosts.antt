-- What calls cost at most, by what is held.
use Rattle.std.specs.Prelude.{◌≡◌, ℕ, ◌+◌, ◌*◌, Bool, false, List, length, Option, Some, Result}
use Rattle.std.specs.Borrow.{Bor}
use Rattle.rb_xdr.specs.Kept.{Kept}
use Rattle.rb_xdr.specs.Meter.{Meter, PaysAtMost}
use Rattle.rb_xdr.specs.Ordered.{looks}
use Rattle.rb_rpc.specs.declared.call.Verdict.{Verdict}
use Rattle.rb_forward.specs.Costs.{unsent_cost}
use Rattle.rb_forward.specs.Deadlines.{soonest_cost}
use Rattle.rb_address.specs.declared.who.Who.{Who}
use Rattle.rb_proto.specs.declared.books.Books.{Books}
use Rattle.rb_answers.specs.declared.context.Context.{Context}
use Rattle.rb_answers.specs.declared.listener.Announced.{Announced}
use Rattle.rb_answers.specs.Answers.{comes_from_here}
use Rattle.rb_answers.specs.Callers.{may_register, own_rows}
use Rattle.rb_answers.specs.declared.listener.Listener.{Listener}
use Rattle.rb_model.specs.declared.types.Limits.{Limits}
use Rattle.rb_model.specs.declared.types.CoreFault.{CoreFault}
use Rattle.rb_model.specs.declared.types.Given.{Given}
use Rattle.rb_model.specs.Gives.{write_into_cost, given_in}
use Rattle.rb_model.specs.declared.message.Message.{Message}
use Rattle.rb_model.specs.Calls.{message_with, message_of, kept_of}
use Rattle.rb_model.specs.Costs.{Sizes, sizes_for, asks_for_rows, room_cost, message_cost, answer_cost, datagram_cost, bytes_cost, gave_cost, pending_cost, plain_cost, plain_record_cost}
use Rattle.rb_model.specs.Connections.{taking_of, live_connection}
use Rattle.rb_model.specs.Connections.Taking.{Ends}
use Rattle.rb_model.specs.State.{State, Connection}
use Rattle.rb_connections.specs.StandsFor.{Table}
use Rattle.rb_connections.specs.declared.slot.EndedRecord.{EndedRecord}
use Rattle.rb_connections.specs.Giving.{whole_cost}
use Rattle.rb_connections.specs.Costs.{look_cost, slot_count, taken_cost}
use Rattle.rb_serving.specs.Costs.{row_count_of, sizes_over}
use Rattle.rb_core.specs.StandsFor.{CoreView, StandsFor}
use Rattle.rb_core.specs.declared.calls.Piece.{Piece}
use Rattle.rb_model.specs.declared.types.Exchanged.{Exchanged}
use Rattle.rb_core.specs.Core.{arguments_in, received_in}
use Rattle.rb_model.specs.Exchanges.{count_given}

-- ---- what it costs to make a core

abbrev pub making_cost : Limits → Listener → ℕ
making_cost limits listener = 18 * length (own_rows listener) + 3 * limits.conns + 2 * limits.forwards

-- ---- by what is kept

-- the hosts by which its caller may register or not
abbrev pub announced_in : CoreView → Announced
announced_in held = held.setting.listener.announced

-- what the costs of a call depend on; `old` and `new` are the books before and after it
abbrev pub sizes : Table → Books → Books → Sizes
sizes table old new = sizes_over (slot_count table) old new

abbrev pub sizes_of : CoreView → CoreView → Sizes
sizes_of old new = sizes old.connections old.books new.books

-- ---- what is paid at most

-- to take a piece of bytes, while no record is answered yet
abbrev pub PaysForPiece : Table → Result Piece CoreFault → Meter → Meter → Type 0
PaysForPiece table result before now = PaysAtMost before now (look_cost table + taken_cost (received_in result))

-- to make room for the row of a message
abbrev pub PaysForRoom : Context → Message → Table → Books → Books → Meter → Meter → Type 0
PaysForRoom context message table old new before now =
    PaysAtMost before now (room_cost (sizes_for (comes_from_here context) message (sizes table old new)))

-- to serve the message on which this is the verdict, with these arguments, whose reply is in this buffer, once there is
-- room for its row
abbrev pub PaysInRoom : Context → Verdict → Table → Books → Books → List ℕ → Kept → Meter → Meter → Type 0
PaysInRoom context verdict table old new args out before now =
    PaysAtMost before now
    (message_cost (sizes_for (comes_from_here context) (message_with verdict args) (sizes table old new))
    (length args) (length out.bytes))

-- the caller may register
abbrev pub may_register_in : CoreView → Who → Bool
may_register_in held who = may_register (announced_in held) who

-- to answer a datagram from this caller
abbrev pub PaysForDatagram : CoreView → CoreView → Who → List ℕ → Meter → Meter → Type 0
PaysForDatagram old new who content before now =
    PaysAtMost before now
    (datagram_cost (sizes_for (may_register_in old who) (message_of content) (sizes_of old new))
    (length content) (length new.reply))

-- to answer a record of this verdict with these arguments, of whose reply n bytes are given if there is this much room
abbrev pub PaysToAnswer : EndedRecord → CoreView → CoreView → Option (Bor (List ℕ)) → List ℕ → ℕ → Meter → Meter → Type 0
PaysToAnswer ended old new args room n before now =
    let lent : List ℕ = arguments_in args old.arguments in
    PaysAtMost before now
    (answer_cost (sizes_for (may_register_in old ended.who) (message_with ended.verdict lent) (sizes_of old new)) (length lent)
    + whole_cost (length room) n)

-- for a piece of bytes on the connection of the number, whose reply may be given at once in this room, from whatever state
-- the core stood for
abbrev pub PaysForExchange : CoreView → CoreView → ℕ → List ℕ → List ℕ → Result Exchanged CoreFault → Meter → Meter → Type 0
PaysForExchange old new id piece room result before now =
    (s : State) → StandsFor old s
    → PaysAtMost before now
    (bytes_cost (announced_in old) (sizes_of old new) piece (live_connection id s.connections.all)
    + whole_cost (length room) (count_given result))

-- to count bytes as given on the connection of the number, from whatever state the core stood for
abbrev pub PaysToGive : CoreView → ℕ → Meter → Meter → Type 0
PaysToGive old id before now =
    (s : State) → StandsFor old s
    → PaysAtMost before now
    (gave_cost (slot_count old.connections) (row_count_of old.books) (live_connection id s.connections.all))

-- to give what the result says into a room, on the connection of the number
abbrev pub PaysToWriteInto : CoreView → ℕ → Result Given CoreFault → Meter → Meter → Type 0
PaysToWriteInto old id result before now =
    (s : State) → StandsFor old s
    → PaysAtMost before now
    (write_into_cost (slot_count old.connections) (row_count_of old.books) (given_in result) (live_connection id s.connections.all))

-- ---- what is paid if no rows are asked for, and by a SET or an UNSET of a caller that may not register, whatever is
-- registered or retained

-- how many looks a search takes
abbrev pub looks_in : CoreView → ℕ
looks_in held = looks held.setting.limits.rows

-- to answer a datagram from this caller
abbrev pub PaysForPlainDatagram : CoreView → CoreView → Who → List ℕ → Meter → Meter → Type 0
PaysForPlainDatagram old new who content before now =
    asks_for_rows (may_register_in old who) (message_of content) ≡ false
    → PaysAtMost before now (plain_cost (looks_in old) (length content) (length new.reply))

-- for a piece of bytes with which a record ends, and for this many steps more
abbrev pub PaysForPlainRecord : CoreView → ℕ → List ℕ → ℕ → Meter → Meter → Type 0
PaysForPlainRecord old id piece more before now =
    (s : State) (c : Connection) (n : ℕ) (content : List ℕ)
    → StandsFor old s → live_connection id s.connections.all ≡ Some c → taking_of c.phase piece ≡ Ends n content
    → asks_for_rows (may_register_in old c.who) (message_of content) ≡ false
    → PaysAtMost before now (plain_record_cost (looks_in old) (slot_count old.connections) n (length (kept_of content)) + more)

-- the same if its reply may be given at once, in this room
abbrev pub PaysForPlainExchange : CoreView → ℕ → List ℕ → List ℕ → Result Exchanged CoreFault → Meter → Meter → Type 0
PaysForPlainExchange old id piece room result before now =
    PaysForPlainRecord old id piece (whole_cost (length room) (count_given result)) before now

-- what it costs to find the next deadline
abbrev pub deadline_cost : CoreView → ℕ
deadline_cost held = soonest_cost (slot_count held.connections) + soonest_cost held.books.forwards.cap

-- what it costs to lend what is pending on a connection
abbrev pub lend_pending_cost : CoreView → ℕ
lend_pending_cost held = look_cost held.connections + pending_cost

-- what it costs to lend a forwarded call of this many bytes
abbrev pub lending_cost : CoreView → ℕ → ℕ
lending_cost held count = unsent_cost held.books.forwards.cap count
