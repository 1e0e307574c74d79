-- What a reader of marked records says of the bytes that it is fed (RFC 5531 section 11).
use Rattle.std.specs.Prelude.{◌≡◌, ℕ, ◌+◌, ◌*◌, ◌%◌, ◌^◌, ◌==◌, nat_lt, not, Bool, true, false, if◌then◌else◌, List, [], ◌∷◌, ◌++◌, length, Some, None}
use Rattle.rb_rpc.specs.Records.{first_record, data_of}
use Rattle.rb_rpc.specs.RecordLaws.{Records}
use Rattle.rb_rpc.specs.declared.marks.Place.TheVariants.{Header, Data}
use Rattle.rb_rpc.specs.declared.marks.Part.TheVariants as parts
use Rattle.rb_rpc.specs.declared.marks.Part.{Part}
use Rattle.rb_rpc.specs.declared.marks.Place.{Place}
use Rattle.rb_rpc.specs.declared.marks.Marks.{Marks}
use Rattle.rb_rpc.specs.Marks.{StandsForFed}

-- how many bytes of the fragment's data are still to come; none before its header ends
-- RECORD-4: A run of a fragment's data is taken as far as the piece and the fragment go.
abbrev pub data_left : Place → ℕ
data_left (Header seen number) = 0
data_left (Data left last) = left

-- the data among these bytes
abbrev pub data_among : Part → List ℕ → List ℕ
data_among parts.Data bytes = bytes
data_among parts.Header bytes = []

-- ---- all bytes

-- the data of the records that ended, and of the one that did not, as far as it goes
pub record RecordData : Type 0 where
  pub contents : List (List ℕ)
  pub unfinished : List ℕ

abbrev pub no_data : RecordData
no_data = record { contents = []; unfinished = [] }

-- with these bytes more; with the last of them the record ends, or does not
abbrev pub more_data : List ℕ → Bool → RecordData → RecordData
more_data bytes true read = record { contents = read.contents ++ (read.unfinished ++ bytes) ∷ []; unfinished = [] }
more_data bytes false read = record { contents = read.contents; unfinished = read.unfinished ++ bytes }

-- The reader was fed these bytes since it was new, and this is the data of their marked records and of the rest.
-- RECORD-3: For all bytes since it was made, a reader of records gives the data and the ends of the
-- stream's records, and the data of the unfinished rest.
pub record StandsForStream (marks : Marks) (bytes : List ℕ) (read : RecordData) : Type 0 where
  pub rest : List ℕ
  pub records : Records bytes read.contents rest
  pub unfinished_is : read.unfinished ≡ data_of rest
  pub stands : StandsForFed marks rest

-- ---- what is said of bytes that are fed

-- whether the record ends with the last of them
abbrev pub RecordEnds : Marks → List ℕ → Bool → Type 0
RecordEnds marks run ended =
    (fed : List ℕ) → StandsForFed marks fed → first_record (fed ++ run) ≡ (if ended then Some (length fed + length run) else None)

-- They are all data, or all header.
abbrev pub ArePart : Marks → Part → List ℕ → Type 0
ArePart marks part run = (fed : List ℕ) → StandsForFed marks fed → data_of (fed ++ run) ≡ data_of fed ++ data_among part run

-- After them the reader stands for them too, or is at the start of the next record.
abbrev pub StandsForMore : Marks → List ℕ → Bool → Marks → Type 0
StandsForMore marks run ended behind = (fed : List ℕ) → StandsForFed marks fed → StandsForFed behind (if ended then [] else fed ++ run)

-- What is said of them goes on with what was said of all bytes before.
abbrev pub StreamGoesOn : Marks → Part → List ℕ → Bool → Marks → Type 0
StreamGoesOn marks part run ended behind =
    (bytes : List ℕ) (read : RecordData) → StandsForStream marks bytes read
    → StandsForStream behind (bytes ++ run) (more_data (data_among part run) ended read)

-- ---- one step

-- after a header or some of a fragment's data, before this many more bytes of it; and whether the record ended
unfoldable pub behind : ℕ → Bool → Place × Bool
behind left last = if left == 0 then (Header 0 0, last) else (Data left last, false)

-- after one more byte of a header
unfoldable pub behind_header : ℕ → ℕ → ℕ → Place × Bool
behind_header seen number byte =
    if nat_lt seen 3 then (Header (seen + 1) (number * 256 % 2 ^ 32 + byte), false)
    else behind ((number * 256 % 2 ^ 32 + byte) % 2 ^ 31) (not (nat_lt (number * 256 % 2 ^ 32 + byte) (2 ^ 31)))

-- No record ended among the bytes that a reader stands for.
abbrev pub NoRecordEnded : Type 0
NoRecordEnded = (marks : Marks) (fed : List ℕ) → StandsForFed marks fed → first_record fed ≡ None
