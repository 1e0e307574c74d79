-- Replies that are given in the call that takes the end of their record: two events in one.
use Rattle.std.specs.Prelude.{ℕ, ◌==◌, nat_lt, Bool, not, ◌&&◌, ◌||◌, if◌then◌else◌, List, length, take, Option, Some, None, is_none, Result, Ok, Err}
use Rattle.rb_model.specs.declared.types.CoreFault.{CoreFault}
use Rattle.rb_model.specs.declared.types.Exchanged.{Exchanged}
use Rattle.rb_model.specs.declared.types.Taken.{Taken}
use Rattle.rb_model.specs.State.{Owed, Phase, Connection, State}
use Rattle.rb_model.specs.State.Phase.{Idle, Reading, Owing, Awaiting, Lost}
use Rattle.rb_model.specs.Connections.{longest_fragment, live_connection}
use Rattle.rb_model.specs.Laws.{is_owing}
use Rattle.rb_model.specs.Sessions.{pending_bytes}
use Rattle.rb_model.specs.Step.{bytes, pending, gave}

-- the first n bytes of what is pending on the connection
abbrev pub pending_front : ℕ → ℕ → State → List ℕ
pending_front n id s = take n (pending_bytes (pending s id))

-- the state once they were given
abbrev pub without_front : ℕ → ℕ → ℕ → State → State
without_front now n id s = if n == 0 then s else (gave s now id n).1

abbrev pub then_gave : ℕ → ℕ → ℕ → Result Taken CoreFault × State → (Result Taken CoreFault × List ℕ) × State
then_gave now id n (taken, s) = ((taken, pending_front n id s), without_front now n id s)

-- the reply is no list and one fragment, and there is room for the longest
abbrev pub fits_at_once : ℕ → Owed → Bool
fits_at_once room o = is_none o.stamp && not (nat_lt longest_fragment (length o.marked)) && not (nat_lt room longest_fragment)

abbrev pub at_once_in : ℕ → Phase → ℕ
at_once_in room (Owing o) = if fits_at_once room o then length o.marked else 0
at_once_in room Idle = 0
at_once_in room (Reading fed) = 0
at_once_in room Awaiting = 0
at_once_in room Lost = 0

-- how many bytes of its reply a connection gives at once
abbrev pub at_once_on : ℕ → Option Connection → ℕ
at_once_on room None = 0
at_once_on room (Some c) = at_once_in room c.phase

-- how many bytes are given at once by the result of taking bytes: none if that is refused, a
-- reply was owed before, or the record is no call
abbrev pub at_once_of : ℕ → ℕ → Connection → Result Taken CoreFault × State → ℕ
at_once_of room id before (Err fault, s) = 0
at_once_of room id before (Ok taken, s) =
    if is_owing before.phase || taken.lost then 0 else at_once_on room (live_connection id s.connections.all)

-- how many bytes are given at once if bytes came on the connection
-- EXCHANGE-2: The bytes that `Core::exchange` gives are the whole of a reply that was not owed
-- before, is one fragment and no list, if there is room for the longest fragment; otherwise it
-- gives none.
abbrev pub at_once : ℕ → ℕ → Option Connection → Result Taken CoreFault × State → ℕ
at_once room id None result = 0
at_once room id (Some before) result = at_once_of room id before result

abbrev pub count_now : ℕ → ℕ → List ℕ → ℕ → State → ℕ
count_now now id piece room s = at_once room id (live_connection id s.connections.all) (bytes s now id piece)

-- Bytes arrive on a connection; if they end a record whose reply is one fragment, and no list, and there is room for
-- the longest, the reply is given.
-- EXCHANGE-1: `Core::exchange` is a `bytes`, and then a `gave` of the first bytes of what is
-- pending; it says how many, and they stand in the room that it gets.
abbrev pub exchange : ℕ → ℕ → List ℕ → ℕ → State → (Result Taken CoreFault × List ℕ) × State
exchange now id piece room s =
    then_gave now id (count_now now id piece room s) (bytes s now id piece)

-- how far the bytes were taken
abbrev pub taken_in : Result Exchanged CoreFault → Result Taken CoreFault
taken_in (Ok exchanged) = Ok exchanged.taken
taken_in (Err fault) = Err fault

-- how many were given
abbrev pub count_given : Result Exchanged CoreFault → ℕ
count_given (Ok exchanged) = exchanged.given
count_given (Err fault) = 0
