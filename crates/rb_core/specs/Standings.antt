-- Where a connection stands after a call on it.
use Rattle.std.specs.Prelude.{◌≡◌, ℕ, None}
use Rattle.rb_model.specs.declared.types.Exchanged.{Exchanged}
use Rattle.rb_rpc.specs.declared.standing.Standing.{Standing}
use Rattle.rb_model.specs.Standings.{standing_of, standing_behind}
use Rattle.rb_connections.specs.StandsFor.{Table}
use Rattle.rb_connections.specs.Slots.{Shows}
use Rattle.rb_connections.specs.Standings.{IsStanding}
use Rattle.rb_core.specs.declared.calls.Piece.{Piece}
use Rattle.rb_core.specs.StandsFor.{CoreView, StandsFor}

-- So stands the connection of the number in each state that the core stands for.
-- STANDING-1
abbrev pub StandsThen : ℕ → CoreView → Standing → Type 0
StandsThen id held standing = Shows StandsFor (standing_of id) held standing

-- So it stands there after this many bytes that were taken of a piece.
-- STANDING-2
abbrev pub StandsBehind : ℕ → ℕ → CoreView → Standing → Type 0
StandsBehind id count held standing = Shows StandsFor (λ s. standing_behind count (standing_of id s)) held standing

-- So it stands there after what was taken of a piece, of whose reply some may have been given at once.
abbrev pub StandsAfterPiece : ℕ → CoreView → Exchanged → Type 0
StandsAfterPiece id held done = StandsBehind id done.taken.count held done.standing

-- where it stands by the table, if no record ended in the piece
abbrev pub TellsIfQuiet : ℕ → Table → Piece → Type 0
TellsIfQuiet id table got = got.received.ended ≡ None → IsStanding id table got.standing
