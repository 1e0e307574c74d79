-- Where the bytes end that are taken of a piece (RFC 5531 section 11).
use Rattle.std.specs.Prelude.{◌≡◌, ◌⊎◌, ℕ, false, List, [], ◌++◌, length, Some, None}
use Rattle.rb_rpc.specs.Records.{first_record}
use Rattle.rb_answers.specs.declared.listener.Listener.{Listener}
use Rattle.rb_model.specs.declared.types.Limits.{Limits}
use Rattle.rb_model.specs.State.{Connection, State, opening}
use Rattle.rb_model.specs.Laws.{IsLive, owed_in, is_awaiting}
use Rattle.rb_model.specs.Step.{Event, step, after}
use Rattle.rb_model.specs.Step.Event.{Bytes}
use Rattle.rb_model.specs.Sessions.{Session, taken_by, session}

-- All of the piece is taken, and no record ends in it after the unfinished bytes.
pub record IsWhole (unfinished piece taken : List ℕ) : Type 0 where
  pub all : taken ≡ piece
  pub none : first_record (unfinished ++ taken) ≡ None

-- The first record that ends in the unfinished bytes and those taken ends with the last of them.
abbrev pub EndsRecord : List ℕ → List ℕ → Type 0
EndsRecord unfinished taken =
    first_record (unfinished ++ taken) ≡ Some (length (unfinished ++ taken))

-- what is taken of a piece that comes to the connection of a number
abbrev pub taken_of : State → ℕ → ℕ → List ℕ → List ℕ
taken_of s id now piece = taken_by id (Bytes now id piece) (step s (Bytes now id piece)).0

-- It is taken whole, or to the end of a record.
abbrev pub StopsAtRecord : List ℕ → List ℕ → List ℕ → Type 0
StopsAtRecord unfinished piece taken = IsWhole unfinished piece taken ⊎ EndsRecord unfinished taken

-- In each run: if nothing is owed or awaited on a live connection, a piece is taken so.
abbrev pub PiecesEndAtRecords : Type 0
PiecesEndAtRecords =
    (limits : Limits) (listener : Listener) (first_xid opened : ℕ) (events : List Event)
    (id : ℕ) (c : Connection)
    → let start : State = opening limits listener first_xid opened in
    let s : State = after start events in
    let t : Session = session start id events in
    IsLive s id c → owed_in c.phase ≡ [] → is_awaiting c.phase ≡ false → (now : ℕ) (piece : List ℕ)
    → StopsAtRecord t.unfinished piece (taken_of s id now piece)
