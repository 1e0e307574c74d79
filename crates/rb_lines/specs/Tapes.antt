-- What a tape holds.
use Rattle.std.specs.Prelude.{◌≡◌, ◌≤◌, ◌+◌, nat_le, nat_lt, ℕ, Bool, true, false, List, [], ◌∷◌, ◌++◌, length, take, drop, codes, ◌⊎◌}
use Rattle.std.specs.List.{concat}

-- All that was recorded, how many bytes of it the file has, whether the recording goes on, and how many bytes there may be.
pub record Tape : Type 0 where
  pub text : List ℕ
  pub written : ℕ
  pub is_on : Bool
  pub limit : ℕ

-- what the file has not got yet
abbrev pub unwritten : Tape → List ℕ
unwritten tape = drop tape.written tape.text

-- the tape once the file has it all
abbrev pub all_written : Tape → Tape
all_written tape = record tape { written = length tape.text }

-- the last line of a record that reached its limit
abbrev pub last_line : List ℕ
last_line = codes "# the limit of this record is reached: what follows is not in it\n"

-- A new one: it records if there is room for more than the last line.
abbrev pub empty_tape : ℕ → Tape
empty_tape limit = record { text = []; written = 0; is_on = nat_lt (length last_line) limit; limit = limit }

-- There is room for bytes after a text, and for the last line after both.
abbrev pub HasRoom : ℕ → List ℕ → List ℕ → Type 0
HasRoom limit text bytes = length text + length bytes + length last_line ≤ limit

-- Whether an entry can be recorded after a text: the last line has to fit after both.
abbrev pub entry_fits : ℕ → List ℕ → List ℕ → Bool
entry_fits limit text entry = nat_le (length text + length entry + length last_line) limit

-- After a text and the first of these entries, this many, the next entry does not fit.
-- TAPE-3: An entry that fits, with the last line after it, ends no record.
pub record IsFull (limit : ℕ) (text : List ℕ) (entries : List (List ℕ)) (count : ℕ) : Type 0 where
  pub next : List ℕ
  pub left : List (List ℕ)
  pub is_next : drop count entries ≡ next ∷ left
  pub is_too_long : entry_fits limit (text ++ concat (take count entries)) next ≡ false

-- Of these entries the first ones were recorded, whole, up to one that does not fit; and after them the last line.
pub record EndsWithin (limit : ℕ) (entries : List (List ℕ)) (old new : List ℕ) : Type 0 where
  pub count : ℕ
  pub is_full : IsFull limit old entries count
  pub text : new ≡ old ++ (concat (take count entries) ++ last_line)

-- While the recording goes on, it went on before, and these entries are recorded after what was. It ends in front of the
-- first entry that does not fit, and nowhere else. If it had ended, all stays. No byte is written out.
-- TAPE-1: What a turn recorded is written at its end.
-- TAPE-2: A record ends at its limit, in front of the event that would pass it, with a comment
-- line; and at a fault of its file, which is said once. The daemon goes on.
pub record Records (entries : List (List ℕ)) (old new : Tape) : Type 0 where
  pub on : new.is_on ≡ true → old.is_on ≡ true
  pub grows : new.is_on ≡ true → new.text ≡ old.text ++ concat entries
  pub ends : old.is_on ≡ true → new.is_on ≡ false → EndsWithin old.limit entries old.text new.text
  pub stays : old.is_on ≡ false → new ≡ old
  pub written : new.written ≡ old.written
  pub limit : new.limit ≡ old.limit
  pub within : length new.text ≤ new.limit

-- A text has the first of these entries, whole, and after them nothing, or the last line.
pub record HasFirst (entries : List (List ℕ)) (text : List ℕ) : Type 0 where
  pub count : ℕ
  pub are_there : count ≤ length entries
  pub last : List ℕ
  pub last_is : (last ≡ []) ⊎ (last ≡ last_line)
  pub is : text ≡ concat (take count entries) ++ last

-- A tape is a record of these entries: it has all of them while the recording goes on, and the first ones in any case. It has
-- the last line only if the next entry does not fit.
-- TAPE-2
pub record IsRecordOf (entries : List (List ℕ)) (tape : Tape) : Type 0 where
  pub all : tape.is_on ≡ true → tape.text ≡ concat entries
  pub first : HasFirst entries tape.text
  pub ends : first.last ≡ last_line → IsFull tape.limit [] entries first.count
  pub within : length tape.text ≤ tape.limit
