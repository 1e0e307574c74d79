-- A marked reply that is shown as its bytes come.
use Rattle.std.specs.Prelude.{◌≡◌, ◌⊎◌, ◌+◌, ◌<◌, ◌==◌, ⊤, if◌then◌else◌, ℕ, Bool, true, false, List, [], ◌∷◌, ◌++◌, length, Option, Some, None, Result, Ok, Err}
use Rattle.std.specs.Global.{Vec}
use Rattle.std.specs.Io.KnownBytes.{Appends}
use Rattle.rb_rpc.specs.Records.{data_of}
use Rattle.rb_rpc.specs.RecordLaws.{IsMarked}
use Rattle.rb_rpc.specs.declared.marks.Marks.{Marks}
use Rattle.rb_rpc.specs.declared.marks.Part.{Part}
use Rattle.rb_rpc.specs.Streams.{RecordData, StandsForStream, data_among}
use Rattle.rb_show.specs.declared.fault.InfoFault.{InfoFault}
use Rattle.rb_show.specs.declared.fault.InfoFault.TheVariants.{CutOff, TooLong, Memory}
use Rattle.rb_show.specs.Telling.{add_lines, lines_text, EndsIn, IsNotShown}
use Rattle.rb_show.specs.Telling.Told.{Stop}
use Rattle.rb_show.specs.Data.{longest_record}
use Rattle.rb_show.specs.declared.ask.Ask.{Ask}
use Rattle.rb_show.specs.declared.form.Form.{Form}
use Rattle.rb_show.specs.declared.show.Shown.{Shown}
use Rattle.rb_show.specs.declared.showing.Showing.{Showing}
use Rattle.rb_show.specs.Tellings.{rest_of}
use Rattle.rb_show.specs.Replies.{tell_reply, tell_bytes}

-- no record ended, and this is the data so far
abbrev pub unfinished : List ℕ → RecordData
unfinished content = record { contents = []; unfinished = content }

-- All data of the first record was told that these bytes have: these are its lines, and if no more bytes come, the reply
-- is cut off.
pub record StandsAfter (ask : Ask) (form : Form) (xid : ℕ) (s : Showing) (bytes : List ℕ) (lines : List (List ℕ)) : Type 0 where
  pub so_far : tell_bytes ask form xid bytes ≡ Stop lines CutOff
  pub fed : StandsForStream s.marks bytes (unfinished (data_of bytes))
  pub counted : length bytes + s.allowed ≡ longest_record
  pub open_still : 0 < s.allowed
  pub goes_on : (end : InfoFault) (more : List ℕ)
      → tell_reply ask form xid end (data_of bytes ++ more) ≡ add_lines lines (rest_of s.telling end (s.held.items ++ more))

-- what the bytes come to
abbrev pub ComesTo : Ask → Form → ℕ → Showing → List ℕ → List (List ℕ) → Result (Option Shown) InfoFault → Type 0
ComesTo ask form xid new bytes lines (Ok None) = StandsAfter ask form xid new bytes lines
ComesTo ask form xid new bytes lines (Ok (Some shown)) = EndsIn (tell_bytes ask form xid bytes) lines (Ok shown)
ComesTo ask form xid new bytes lines (Err fault) = EndsIn (tell_bytes ask form xid bytes) lines (Err fault)

-- further lines were written, and with them all lines that the bytes tell
pub record ShowsFurther (ask : Ask) (form : Form) (xid : ℕ) (new : Showing) (bytes : List ℕ) (lines : List (List ℕ)) (held held' : Option (List ℕ)) (result : Result (Option Shown) InfoFault) : Type 0 where
  pub more : List (List ℕ)
  pub written : Appends held held' (lines_text more)
  pub comes_to : ComesTo ask form xid new bytes (lines ++ more) result

-- SHOW-10: After any cut of a reply's bytes, what was written is the lines that their front tells.
abbrev pub Feeds : {W : Type 0} → Showing → Showing → List ℕ → (W → Option (List ℕ)) → W → W → Result (Option Shown) InfoFault → Type 0
Feeds old new bytes contents writer writer' result =
    (ask : Ask) (form : Form) (xid : ℕ) (before : List ℕ) (lines : List (List ℕ)) → StandsAfter ask form xid old before lines
    → IsNotShown (contents writer) (contents writer') result
    ⊎ ShowsFurther ask form xid new (before ++ bytes) lines (contents writer) (contents writer') result

-- ---- parts

-- a byte of data was kept
abbrev pub Keeps : Part → ℕ → List ℕ → List ℕ → Type 0
Keeps part byte held held' = held' ≡ held ++ data_among part (byte ∷ [])

-- the bytes begin with a record of this data
pub record BeginsWithRecord (bytes content : List ℕ) : Type 0 where
  pub text : List ℕ
  pub rest : List ℕ
  pub marked : IsMarked text content
  pub whole : bytes ≡ text ++ rest

abbrev pub EndsRecord : Marks → List ℕ → List ℕ → Bool → Type 0
EndsRecord marks bytes content true = BeginsWithRecord bytes content
EndsRecord marks bytes content false = StandsForStream marks bytes (unfinished content)

-- the data among the bytes was kept, up to the end of the record
pub record Unmarks (new : Marks) (bytes content held held' : List ℕ) (ended : Bool) : Type 0 where
  pub found : List ℕ
  pub held_is : held' ≡ held ++ found
  pub ends : EndsRecord new bytes (content ++ found) ended

abbrev pub UnmarksOr : {E : Type 0} → Marks → Marks → List ℕ → Vec ℕ → Vec ℕ → Result Bool E → Type 0
UnmarksOr old new bytes held held' (Ok ended) =
    (before content : List ℕ) → StandsForStream old before (unfinished content) → Unmarks new (before ++ bytes) content held.items held'.items ended
UnmarksOr old new bytes held held' (Err refused) = ⊤

-- what is so if more data is needed
abbrev pub lack_of : Bool → ℕ → Result (Option Shown) InfoFault
lack_of ended allowed = if ended then Err CutOff else if allowed == 0 then Err TooLong else Ok None

abbrev pub after_piece : Result (Option Shown) InfoFault → Bool → ℕ → Result (Option Shown) InfoFault
after_piece (Ok None) ended allowed = lack_of ended allowed
after_piece (Ok (Some shown)) ended allowed = Ok (Some shown)
after_piece (Err fault) ended allowed = Err fault

-- if no more bytes come
abbrev pub as_whole : Result (Option Shown) InfoFault → Result Shown InfoFault
as_whole (Ok None) = Err CutOff
as_whole (Ok (Some shown)) = Ok shown
as_whole (Err fault) = Err fault

-- the text was written
abbrev pub IsWritten : {W : Type 0} → Result (Option Shown) InfoFault → List ℕ → (W → Option (List ℕ)) → W → W → Result (Option Shown) InfoFault → Type 0
IsWritten told text contents writer writer' result =
    IsNotShown (contents writer) (contents writer') result ⊎ ((result ≡ told) × (told ≡ Err Memory → ⊥) × Appends (contents writer) (contents writer') text)
