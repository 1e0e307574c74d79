-- What an outbox holds, and how much of a connection is on its way.
use Rattle.std.specs.Prelude.{ℕ, List, []}

-- ---- numbers of bytes

-- a whole fragment of a reply: its header of 4 and 1,024 more
abbrev pub longest_fragment : ℕ
longest_fragment = 1028

-- the room of a connection's own outbox: nine fragments
abbrev pub own_room : ℕ
own_room = 9252

-- the room of the outbox that goes from one connection to another: 64 fragments
abbrev pub long_room : ℕ
long_room = 65792

-- how many bytes of a connection are read ahead of the core, at most
abbrev pub read_ahead : ℕ
read_ahead = 1024

-- ---- an outbox

-- The bytes that are on their way to the socket, how much of its room is free after them, and all of its room.
pub record Outgoing : Type 0 where
  pub bytes : List ℕ
  pub free : ℕ
  pub room : ℕ

-- nothing is on its way
abbrev pub nothing_in : ℕ → Outgoing
nothing_in room = record { bytes = []; free = room; room = room }
