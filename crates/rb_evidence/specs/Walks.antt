-- A walk through a table that comes in slices: its lines, each once, and what they show of a connection.
use Rattle.std.specs.Prelude.{◌≡◌, ℕ, if◌then◌else◌, List, [], ◌∷◌, ◌++◌, length, map, Option, None}
use Rattle.std.specs.Option.{option_map}
use Rattle.rb_evidence.specs.declared.table.OwnedSocket.{OwnedSocket}
use Rattle.rb_evidence.specs.declared.sight.Seen.{Seen}
use Rattle.rb_evidence.specs.declared.sight.Sight.{Sight}
use Rattle.rb_evidence.specs.declared.sight.Seen.TheVariants.{Nothing, One, Several}
use Rattle.rb_evidence.specs.Table.{lines_of, is_between, is_same_socket, socket_in, uid_between, IsWithout, IsCutAt}

-- ---- what was seen of a connection

-- after one more line, which shows this socket, if it shows one
-- EVIDENCE-7
abbrev pub seen_more : Seen → Option OwnedSocket → Seen
seen_more Nothing socket = One socket
seen_more (One before) socket = if is_same_socket before socket then One before else Several
seen_more Several socket = Several

abbrev pub after_line : List ℕ → List ℕ → Seen → List ℕ → Seen
after_line theirs ours seen line = if is_between theirs ours line then seen_more seen (socket_in line) else seen

abbrev pub after_lines : List ℕ → List ℕ → Seen → List (List ℕ) → Seen
after_lines theirs ours seen [] = seen
after_lines theirs ours seen (line ∷ lines) = after_lines theirs ours (after_line theirs ours seen line) lines

abbrev pub nothing_seen : Seen
nothing_seen = Nothing

-- of a connection that is looked for, by the texts of its ends
abbrev pub sight_after : List ℕ → Sight → Sight
sight_after line s = record s { seen = after_line s.theirs.bytes s.ours.bytes s.seen line }

-- of the place of one, if there is one
abbrev pub place_after : List ℕ → Option Sight → Option Sight
place_after line place = option_map (sight_after line) place

abbrev pub after_line_of_all : List ℕ → List (Option Sight) → List (Option Sight)
after_line_of_all line places = map (place_after line) places

abbrev pub after_lines_of_all : List (List ℕ) → List (Option Sight) → List (Option Sight)
after_lines_of_all [] places = places
after_lines_of_all (line ∷ lines) places = after_lines_of_all lines (after_line_of_all line places)

abbrev pub uid_seen : Seen → Option ℕ
uid_seen Nothing = None
uid_seen (One socket) = option_map (λ s. s.uid) socket
uid_seen Several = None

-- EVIDENCE-5: A walk looks at each line of a table once, for all connections that are looked for, and finds of each what the whole table shows.
abbrev pub WalksSeeTheWhole : Type 0
WalksSeeTheWhole = (table theirs ours : List ℕ) → uid_seen (after_lines theirs ours Nothing (lines_of table)) ≡ uid_between table theirs ours

-- ---- its lines

-- Bytes wait behind the last line feed, and others are yet to be read. A line that waits is taken; or more bytes are
-- read, which come behind those that wait; or nothing is left to be read, and what waits is the last line.
pub data IsWalk : List ℕ → List ℕ → List (List ℕ) → Type 0 where
  takes : (line back rest : List ℕ) (lines : List (List ℕ)) (waiting : List ℕ) → IsCutAt 10 line back waiting → IsWalk back rest lines → IsWalk waiting rest (line ∷ lines)
  reads : (slice waiting rest : List ℕ) (lines : List (List ℕ)) → IsWalk (waiting ++ slice) rest lines → IsWalk waiting (slice ++ rest) lines
  ends : (waiting : List ℕ) → IsWithout 10 waiting → IsWalk waiting [] (waiting ∷ [])

-- EVIDENCE-6: However a table is cut into slices, its lines are those of its whole text: one that is cut between two slices is one line.
abbrev pub CutLinesAreOne : Type 0
CutLinesAreOne = (table : List ℕ) (lines : List (List ℕ)) → IsWalk [] table lines → lines ≡ lines_of table

-- What is left is now what was left before, and this many bytes that came behind it.
pub record IsReadBehind (old new : List ℕ) (count : ℕ) : Type 0 where
  pub slice : List ℕ
  pub count_is : length slice ≡ count
  pub behind : new ≡ old ++ slice

-- Lines were taken, and looked at for all of them.
pub record HasPassed (old new : List ℕ) (before after : List (Option Sight)) : Type 0 where
  pub lines : List (List ℕ)
  pub seen : after ≡ after_lines_of_all lines before
  pub walk : (rest : List ℕ) (more : List (List ℕ)) → IsWalk new rest more → IsWalk old rest (lines ++ more)

-- Each line that was whole was looked at for all of them, and what is left has no line feed.
-- EVIDENCE-5
pub record HasWalked (old new : List ℕ) (before after : List (Option Sight)) : Type 0 where
  pub passed : HasPassed old new before after
  pub left : IsWithout 10 new
