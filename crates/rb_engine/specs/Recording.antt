-- What is recorded of the core's events.
use Rattle.std.specs.Prelude.{◌≡◌, ℕ, ◌==◌, if◌then◌else◌, List, [], ◌∷◌, length, Option, Some, None, Result, Ok, Err}
use Rattle.std.specs.List.{flat_map}
use Rattle.rb_address.specs.declared.peer.Peer.{Peer}
use Rattle.rb_address.specs.declared.who.Who.{Who}
use Rattle.rb_forward.specs.Forwards.{Unsent as UnsentCall}
use Rattle.rb_model.specs.declared.served.Response.{Response}
use Rattle.rb_model.specs.declared.served.Response.TheVariants.{NoCall, Reply, Forwarded, Silent as SilentCall}
use Rattle.rb_model.specs.declared.types.CoreFault.{CoreFault}
use Rattle.rb_model.specs.Plain.{LentEvent, lent_event}
use Rattle.rb_model.specs.State.{State, opening}
use Rattle.rb_model.specs.declared.types.Told.{Told}
use Rattle.rb_model.specs.Step.{Event, Output, unsent_call, show_taken, show_told, IsReached}
use Rattle.rb_model.specs.Step.Event.{Bytes, Pending, Gave, Datagram, Unsent, Sent}
use Rattle.rb_model.specs.Step.Output.{Refused, Done, IsPending, UnsentIs, Replied, Forwarded as OutForwarded, Silent}
use Rattle.rb_lines.specs.Entries.{entry_text, run_entries, options_text}
use Rattle.rb_lines.specs.Tapes.{Tape, IsRecordOf}
use Rattle.rb_model.specs.declared.types.Exchanged.{Exchanged}
use Rattle.rb_model.specs.Exchanges.{taken_in}
use Rattle.rb_model.specs.Gives.{piece_events, pieces_of, first_piece}

-- ---- the events of a call

-- a look at what is pending, and that n bytes of it were given
abbrev pub given_events : ℕ → ℕ → ℕ → List Event
given_events now id n = Pending id ∷ Gave now id n ∷ []

-- bytes that came on a connection, and n that were given at once
abbrev pub exchange_events : ℕ → ℕ → List ℕ → ℕ → List Event
exchange_events now id piece n = Bytes now id piece ∷ (if n == 0 then [] else given_events now id n)

-- these bytes were given into a room, piece by piece
-- TAPE-4
abbrev pub give_events : ℕ → ℕ → List ℕ → State → List Event
give_events now id given s = piece_events now id (pieces_of (first_piece s id) given)

-- the look for a call that must be sent, and that it was sent
abbrev pub send_events_of : Option UnsentCall → List Event
send_events_of None = Unsent ∷ []
send_events_of (Some unsent) = Unsent ∷ Sent unsent.number ∷ []

abbrev pub send_events : State → List Event
send_events s = send_events_of (unsent_call s)

-- ---- what is recorded

-- the options of a replay that begins as this run does, and each of its events with what it gave
abbrev pub entries_of : {s : State} → IsReached s → List (List ℕ)
entries_of r = options_text r.limits r.listener r.first_xid r.now ∷ run_entries (opening r.limits r.listener r.first_xid r.now) r.events

-- The tape has all of them while the recording goes on, and the first ones, whole, once it has ended.
-- TAPE-4: Each event is recorded as it happened, with its moment and with what it gave, if a record
-- is asked for; and nothing else is. What is given into a room is recorded piece by piece.
abbrev pub HasRecorded : {s : State} → IsReached s → Tape → Type 0
HasRecorded r tape = IsRecordOf (entries_of r) tape

-- ---- what a call gave, as an output

abbrev pub output_or_refusal : {A : Type 0} → (A → Output) → Result A CoreFault → Output
output_or_refusal show (Ok x) = show x
output_or_refusal show (Err fault) = Refused fault

-- ---- as the code has them

abbrev pub given_entries : ℕ → ℕ → List ℕ → List (List ℕ)
given_entries now id bytes = entry_text (Pending id) (IsPending bytes) ∷ entry_text (Gave now id (length bytes)) Done ∷ []

-- of each piece of what is given
abbrev pub pieces_entries : ℕ → ℕ → List (List ℕ) → List (List ℕ)
pieces_entries now id pieces = flat_map (given_entries now id) pieces

-- bytes that came with what was taken of them, and if some were given at once, what a look and a giving record
abbrev pub taken_entries : ℕ → ℕ → List ℕ → Output → List ℕ → List (List ℕ)
taken_entries now id piece taken given = entry_text (Bytes now id piece) taken ∷ (if length given == 0 then [] else given_entries now id given)

-- what was taken of bytes that came
abbrev pub taken_output : Result Exchanged CoreFault → Output
taken_output done = output_or_refusal show_taken (taken_in done)

-- the same by what the core said of the bytes
abbrev pub exchange_entries : ℕ → ℕ → List ℕ → Result Exchanged CoreFault → List ℕ → List (List ℕ)
exchange_entries now id piece done given = taken_entries now id piece (taken_output done) given

-- what a datagram was answered with, which is this reply if it has one
abbrev pub answer_shown : Response → List ℕ → Output
answer_shown NoCall reply = Silent
answer_shown Reply reply = Replied reply
answer_shown Forwarded reply = OutForwarded
answer_shown SilentCall reply = Silent

-- a datagram came
abbrev pub datagram_entry : ℕ → Who → List ℕ → Response → List ℕ → List ℕ
datagram_entry now who content response reply = entry_text (Datagram now who content) (answer_shown response reply)

-- the end of a forwarded call, with the last reply
abbrev pub end_entry : LentEvent → List ℕ → Told → List ℕ
end_entry event reply told = entry_text (lent_event event) (show_told reply told)

-- the look for a call that must be sent, which is this one
abbrev pub unsent_entry : ℕ → Peer → List ℕ → List ℕ
unsent_entry number target call = entry_text Unsent (UnsentIs (Some (record { number = number; target = target; call = call })))
