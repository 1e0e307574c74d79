-- How a record is read piece by piece (RFC 5531 section 11).
use Rattle.std.specs.Prelude.{◌≡◌, ℕ, ◌+◌, ◌-◌, List, ◌++◌, length, take, Option, Some, None}
use Rattle.rb_xdr.specs.Kept.{Kept}
use Rattle.rb_rpc.specs.declared.marks.Marks.{Marks}
use Rattle.rb_rpc.specs.Records.{first_record, data_of}
use Rattle.rb_rpc.specs.Verdict.{verdict}
use Rattle.rb_rpc.specs.Marks.{StandsForFed}
use Rattle.rb_rpc.specs.Feeds.{StandsForCall, arguments_of}
use Rattle.rb_model.specs.Calls.{longest_kept, kept_of}
use Rattle.rb_connections.specs.StandsFor.{buffer_size, IsReading}
pub use Rattle.rb_connections.specs.declared.reading.Fed.{Fed}
pub use Rattle.rb_connections.specs.declared.reading.Intake.{Intake}
pub use Rattle.rb_connections.specs.declared.reading.Reader.{Reader}

-- ---- a record that is read

-- what is returned of a piece after the bytes `fed`: it is taken up to the end of the first record, with the verdict
-- on that, or whole
abbrev pub fed_until : List ℕ → List ℕ → Option ℕ → Fed
fed_until fed piece None = record { count = length piece; verdict = None }
fed_until fed piece (Some n) = record { count = n - length fed; verdict = Some (verdict (data_of (take n (fed ++ piece)))) }

-- The reader and the buffer stand for all these bytes, or if these have a whole record, the
-- buffer has what is kept of the first.
abbrev pub StandsBehind : Reader → Kept → List ℕ → Option ℕ → Type 0
StandsBehind reader kept all None = IsReading reader kept all
StandsBehind reader kept all (Some n) = kept.bytes ≡ kept_of (data_of (take n all))

-- Whatever record the reader stands in, this is what is returned of a piece,
abbrev pub CountsPiece : Reader → Kept → List ℕ → Fed → Type 0
CountsPiece reader kept piece result =
    (fed : List ℕ) → IsReading reader kept fed → result ≡ fed_until fed piece (first_record (fed ++ piece))

-- and there the reader and the buffer stand after it.
abbrev pub ReadsPiece : Reader → Kept → List ℕ → Reader → Kept → Type 0
ReadsPiece reader kept piece new now =
    (fed : List ℕ) → IsReading reader kept fed → StandsBehind new now (fed ++ piece) (first_record (fed ++ piece))

-- ---- while a piece is taken

-- The first bytes of these arguments are kept, and there is room for this many more.
pub record AreKept (kept : Kept) (room : ℕ) (arguments : List ℕ) : Type 0 where
  pub bytes_are : kept.bytes ≡ take longest_kept arguments
  pub room_is : room + length kept.bytes ≡ longest_kept
  pub cap : kept.cap ≡ buffer_size

-- More arguments are kept as far as there is room, which leaves this much.
abbrev pub KeepsMore : Kept → ℕ → List ℕ → Kept → ℕ → Type 0
KeepsMore kept room more now left = (arguments : List ℕ) → AreKept kept room arguments → AreKept now left (arguments ++ more)

-- The head and the buffer have this data of a record, with the room that is left.
pub record HasData (intake : Intake) (kept : Kept) (content : List ℕ) : Type 0 where
  pub head_is : StandsForCall intake.head content
  pub kept_are : AreKept kept intake.room (arguments_of content)

-- With more data they have that too.
abbrev pub TakesData : Intake → Kept → List ℕ → Intake → Kept → Type 0
TakesData intake kept more new now = (content : List ℕ) → HasData intake kept content → HasData new now (content ++ more)

-- In the middle of a piece, after these bytes of a record.
pub record IsInside (marks : Marks) (intake : Intake) (kept : Kept) (fed : List ℕ) : Type 0 where
  pub marks_are : StandsForFed marks fed
  pub data_is : HasData intake kept (data_of fed)

-- After such bytes of the record, the head and the buffer have their data too.
abbrev pub HasMore : Marks → Intake → Kept → List ℕ → Intake → Kept → Type 0
HasMore marks intake kept run new now =
    (fed : List ℕ) → IsInside marks intake kept fed → HasData new now (data_of (fed ++ run))
