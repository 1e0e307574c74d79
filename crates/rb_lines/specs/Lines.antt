-- Event lines: what a text of them says.
use Rattle.std.specs.Prelude.{◌≡◌, ℕ, ◌+◌, ◌^◌, ◌==◌, nat_lt, ◌||◌, if◌then◌else◌, List, [], ◌∷◌, ◌++◌, length, slice_index, Option, Some, None, Result, Ok, Err, codes}
use Rattle.std.specs.List.{slice_split}
use Rattle.std.specs.Option.{option_map}
use Rattle.std.specs.Str.{bytes_eq}
use Rattle.std.specs.Global.{Vec}
use Rattle.std.specs.Vec.{vec_items}
use Rattle.rb_address.specs.CallerTexts.{who}
use Rattle.rb_address.specs.Reading.{◌>>=◌, cut, number_below, peer}
use Rattle.rb_model.specs.Step.{Event}
use Rattle.rb_model.specs.Step.Event.{Open, Bytes, Pending, Gave, Closed, NextLost, Datagram, Unsent, Sent, Forward, Expire, ZeroStats}
use Rattle.rb_model.specs.Plain.{OwnedEvent, event_of, events_of}
use Rattle.rb_lines.specs.declared.lines.Line as line_type
use Rattle.rb_lines.specs.declared.lines.Line.TheVariants as lines
use Rattle.rb_lines.specs.declared.lines.ReadFault.{ReadFault}
use Rattle.rb_lines.specs.declared.lines.ReadFault.TheVariants.{BadLine, TooLong, NoMemory}
use Rattle.rb_lines.specs.Fields.{hex_bytes}

-- what follows the word `datagram`: a moment, a caller and bytes
unfoldable pub datagram_line : List ℕ → Option Event
datagram_line text = do
  first ← cut 32 text
  second ← cut 32 first.1
  now ← number_below (2 ^ 64) first.0
  from ← who second.0
  bytes ← hex_bytes second.1
  Some (Datagram now from bytes)

-- what follows the word `forward`: a moment, a peer and bytes
unfoldable pub forward_line : List ℕ → Option Event
forward_line text = do
  first ← cut 32 text
  second ← cut 32 first.1
  now ← number_below (2 ^ 64) first.0
  from ← peer second.0
  bytes ← hex_bytes second.1
  Some (Forward now from bytes)

-- what follows the word `open`: a moment and a caller
unfoldable pub open_line : List ℕ → Option Event
open_line text = do
  parts ← cut 32 text
  now ← number_below (2 ^ 64) parts.0
  from ← who parts.1
  Some (Open now from)

-- what follows the word `bytes`: a moment, a connection's number and bytes
unfoldable pub bytes_line : List ℕ → Option Event
bytes_line text = do
  first ← cut 32 text
  second ← cut 32 first.1
  now ← number_below (2 ^ 64) first.0
  id ← number_below (2 ^ 64) second.0
  bytes ← hex_bytes second.1
  Some (Bytes now id bytes)

-- what follows the word `gave`: a moment, a connection's number and how many bytes
unfoldable pub gave_line : List ℕ → Option Event
gave_line text = do
  first ← cut 32 text
  second ← cut 32 first.1
  now ← number_below (2 ^ 64) first.0
  id ← number_below (2 ^ 64) second.0
  n ← number_below (2 ^ 64) second.1
  Some (Gave now id n)

-- the event of a line of more than one word: the first, and what stands after the space after it
unfoldable pub event : List ℕ → List ℕ → Option Event
event word rest =
    if bytes_eq word (codes "datagram") then datagram_line rest
    else if bytes_eq word (codes "open") then open_line rest
    else if bytes_eq word (codes "bytes") then bytes_line rest
    else if bytes_eq word (codes "pending") then option_map Pending (number_below (2 ^ 64) rest)
    else if bytes_eq word (codes "gave") then gave_line rest
    else if bytes_eq word (codes "closed") then option_map Closed (number_below (2 ^ 64) rest)
    else if bytes_eq word (codes "sent") then option_map Sent (number_below (2 ^ 64) rest)
    else if bytes_eq word (codes "forward") then forward_line rest
    else if bytes_eq word (codes "expire") then option_map Expire (number_below (2 ^ 64) rest)
    else None

-- the event of a line of one word
unfoldable pub lone_event : List ℕ → Option Event
lone_event word =
    if bytes_eq word (codes "lost") then Some NextLost
    else if bytes_eq word (codes "unsent") then Some Unsent
    else if bytes_eq word (codes "zero") then Some ZeroStats
    else None

abbrev pub event_of_parts : List ℕ → Option (List ℕ × List ℕ) → Option Event
event_of_parts text None = lone_event text
event_of_parts text (Some parts) = event parts.0 parts.1

pub data Line : Type 0 where
  Skipped : Line
  Happens : Event → Line
  Bad : Line

abbrev pub happens_or_bad : Option Event → Line
happens_or_bad (Some event) = Happens event
happens_or_bad None = Bad

-- an empty line, and one that begins with `#`, says nothing
unfoldable pub line : List ℕ → Line
line text =
    if length text == 0 || slice_index text 0 == 35 then Skipped
    else happens_or_bad (event_of_parts text (cut 32 text))

-- what the line of this number adds to what the lines after it give
abbrev pub add_line : ℕ → Line → Result (List Event) ReadFault → Result (List Event) ReadFault
add_line k Skipped rest = rest
add_line k Bad rest = Err (BadLine k)
add_line k (Happens event) (Ok events) = Ok (event ∷ events)
add_line k (Happens event) (Err fault) = Err fault

-- the events of the lines, the first of which has this number, or the number of the first bad line
-- LINE-10
unfoldable pub events_from : ℕ → List (List ℕ) → Result (List Event) ReadFault
events_from k [] = Ok []
events_from k (text ∷ texts) = add_line k (line text) (events_from (k + 1) texts)

-- the lines of a text: a line feed ends each but the last
unfoldable pub lines_of : List ℕ → List (List ℕ)
lines_of text = slice_split (λ b. b == 10) text

-- in bytes
unfoldable pub longest_input : ℕ
longest_input = 16777216

-- the events of a text
unfoldable pub read : List ℕ → Result (List Event) ReadFault
read text = if nat_lt longest_input (length text) then Err TooLong else events_from 1 (lines_of text)

-- ---- as the code has them

abbrev pub line_of : line_type.Line → Line
line_of lines.Skipped = Skipped
line_of (lines.Happens event) = Happens (event_of event)
line_of lines.Bad = Bad

-- What a function returned is what reading gives, unless memory ran out.
abbrev pub Fails : ReadFault → Result (List Event) ReadFault → Type 0
Fails NoMemory given = Unit {0}
Fails TooLong given = given ≡ Err TooLong
Fails (BadLine k) given = given ≡ Err (BadLine k)

abbrev pub GivesEvents : {X : Type 0} → (X → List Event) → Result X ReadFault → Result (List Event) ReadFault → Type 0
GivesEvents events (Ok x) given = given ≡ Ok (events x)
GivesEvents events (Err fault) given = Fails fault given

-- The events of this list were given.
abbrev pub GivesItems : Result (Vec OwnedEvent) ReadFault → Result (List Event) ReadFault → Type 0
GivesItems result given = GivesEvents (λ events. events_of (vec_items events)) result given

-- the events that were read, in front of those that are left
abbrev pub with_front : List Event → Result (List Event) ReadFault → Result (List Event) ReadFault
with_front front (Ok events) = Ok (front ++ events)
with_front front (Err fault) = Err fault

-- The events grew by what the line of this number says.
abbrev pub AddsLine : ℕ → Line → List OwnedEvent → List OwnedEvent → Type 0
AddsLine k said old new =
    (rest : Result (List Event) ReadFault)
    → with_front (events_of new) rest ≡ with_front (events_of old) (add_line k said rest)

-- what may be wrong with the line of this number
abbrev pub IsLineFault : ℕ → Line → ReadFault → Type 0
IsLineFault k said NoMemory = Unit {0}
IsLineFault k said TooLong = ⊥
IsLineFault k said (BadLine n) = (said ≡ Bad) × (n ≡ k)
