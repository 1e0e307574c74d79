-- Replies that are written into a room that the caller hands in: whole fragments, as many as there is room for (RFC 5531
-- section 11).
use Rattle.std.specs.Prelude.{◌≡◌, ℕ, zero, suc, ◌+◌, ◌*◌, ◌/◌, nat_le, max, if◌then◌else◌, List, [], ◌∷◌, length, take, drop, Option, Some, None, Result, Ok, Err}
use Rattle.std.specs.List.{flat_map}
use Rattle.rb_model.specs.declared.types.CoreFault.{CoreFault}
use Rattle.rb_model.specs.declared.types.Given.{Given}
use Rattle.rb_model.specs.State.{Owed, Phase, Connection, State}
use Rattle.rb_model.specs.State.Phase.{Idle, Reading, Owing, Awaiting, Lost}
use Rattle.rb_model.specs.Connections.{longest_fragment, with_given, on_live}
use Rattle.rb_model.specs.Costs.{walked, find_cost, listed_cost, recount_cost, gives_list}
use Rattle.rb_model.specs.Sessions.{pending_bytes}
use Rattle.rb_model.specs.Step.{pending, unless_refused, Event, Output, run, after}
use Rattle.rb_model.specs.Step.Event.{Pending, Gave}
use Rattle.rb_model.specs.Step.Output.{IsPending, Done}

-- ---- on one connection

-- where in the marked reply the last fragment ends that fits whole into this much room
abbrev pub end_within : ℕ → Owed → ℕ
end_within room o =
    if nat_le (length o.marked) (o.given + room) then length o.marked
    else longest_fragment * ((o.given + room) / longest_fragment)

-- the rest of the fragment that is pending, and each fragment after it, that fit whole
unfoldable pub fitting_of : ℕ → Owed → List ℕ
fitting_of room o = drop o.given (take (end_within room o) o.marked)

abbrev pub fitting_in : ℕ → Phase → List ℕ
fitting_in room (Owing o) = fitting_of room o
fitting_in room Idle = []
fitting_in room (Reading fed) = []
fitting_in room Awaiting = []
fitting_in room Lost = []

-- they are given
unfoldable pub write_fitting : ℕ → ℕ → Connection → List ℕ × Connection
write_fitting clock room c = (fitting_in room c.phase, with_given clock (length (fitting_in room c.phase)) c)

-- ---- in a state

-- GIVE-2: If no fragment fits whole into its room, or none is owed, `Core::write_into` changes
-- nothing, the clock neither.
abbrev pub unless_nothing : State → Result (List ℕ) CoreFault × State → Result (List ℕ) CoreFault × State
unless_nothing s (Ok [], new) = (Ok [], s)
unless_nothing s (Ok (byte ∷ bytes), new) = (Ok (byte ∷ bytes), new)
unless_nothing s (Err fault, new) = (Err fault, new)

-- those of the live connection of the number are given
-- GIVE-1: `Core::write_into` is a `pending`, and a `gave` of all of it, fragment by fragment, as
-- many as fit whole into the room that it gets; it says how many bytes, and they stand in that
-- room.
-- OUTBOX-3
unfoldable pub write_into : State → ℕ → ℕ → ℕ → Result (List ℕ) CoreFault × State
write_into s now id room =
    unless_nothing s (unless_refused now s (on_live id (write_fitting (max s.clock now) room) s.connections))

-- how many bytes a result says that were given
abbrev pub given_in : Result Given CoreFault → ℕ
given_in (Ok given) = given.count
given_in (Err fault) = 0

-- the bytes that a result says are in the room
abbrev pub bytes_given : List ℕ → Result Given CoreFault → Result (List ℕ) CoreFault
bytes_given room (Ok given) = Ok (take given.count room)
bytes_given room (Err fault) = Err fault

-- what it costs to give this many bytes so, beside this many rows: the look at how many are pending, and they themselves; each
-- fragment after them, and the next one; or both buffers emptied
abbrev pub written_into_cost : ℕ → ℕ → ℕ
written_into_cost rows n = n + 3 + (n / longest_fragment + 1) * listed_cost rows

-- and to find the connection among this many, if there is one
abbrev pub write_into_cost : ℕ → ℕ → ℕ → Option Connection → ℕ
write_into_cost connections rows n None = find_cost connections
write_into_cost connections rows n (Some c) =
    find_cost connections + written_into_cost (walked (gives_list c) rows) n + recount_cost

-- ---- the same as steps

-- the first this many bytes, then fragment by fragment; in at most k pieces
abbrev pub cut_from : ℕ → ℕ → List ℕ → List (List ℕ)
cut_from zero first bytes = []
cut_from (suc k) first [] = []
cut_from (suc k) first (byte ∷ bytes) =
    take first (byte ∷ bytes) ∷ cut_from k longest_fragment (drop first (byte ∷ bytes))

-- the pieces of what is given: up to the end of the fragment that is pending, then fragment by fragment
unfoldable pub pieces_of : ℕ → List ℕ → List (List ℕ)
pieces_of first bytes = cut_from (length bytes) first bytes

-- each is looked at, and is then given
abbrev pub piece_events : ℕ → ℕ → List (List ℕ) → List Event
piece_events now id pieces = flat_map (λ piece. Pending id ∷ Gave now id (length piece) ∷ []) pieces

abbrev pub piece_outputs : List (List ℕ) → List Output
piece_outputs pieces = flat_map (λ piece. IsPending piece ∷ Done ∷ []) pieces

-- how many bytes of the fragment are pending on the connection
abbrev pub first_piece : State → ℕ → ℕ
first_piece s id = length (pending_bytes (pending s id))

-- These bytes are given by looking at what is pending and giving it, piece by piece, and `new` is the state after it.
pub record GivesBySteps (s : State) (now id : ℕ) (bytes : List ℕ) (new : State) : Type 0 where
  pub state : new ≡ after s (piece_events now id (pieces_of (first_piece s id) bytes))
  pub outputs : run s (piece_events now id (pieces_of (first_piece s id) bytes)) ≡ piece_outputs (pieces_of (first_piece s id) bytes)

abbrev pub GivesAreSteps : Type 0
GivesAreSteps =
    (s : State) (now id room : ℕ) (bytes : List ℕ) (new : State)
    → write_into s now id room ≡ (Ok bytes, new) → GivesBySteps s now id bytes new
