-- What an event line is spelled from: words, with one space between each two. A caller and a peer are spelled as they are
-- printed (`SpellsWho` and `SpellsPeer` of rb_address).
use Rattle.std.specs.Prelude.{◌≡◌, ◌↔◌, ◌⊎◌, ℕ, ◌+◌, ◌*◌, ◌^◌, ◌<◌, List, [], ◌∷◌, ◌++◌, codes}
use Rattle.std.specs.Char.{digit_value}
use Rattle.std.specs.Str.Parse.{IsNumeral, digits_value}
use Rattle.rb_address.specs.CallerTexts.{SpellsWho}
use Rattle.rb_address.specs.Reading.{SpellsPeer}
use Rattle.rb_model.specs.Step.{Event}
use Rattle.rb_model.specs.Step.Event.{Datagram, Open, Bytes, Pending, Gave, Closed, NextLost, Unsent, Sent, Forward, Expire, ZeroStats}
use Rattle.rb_lines.specs.Lines.{line}
use Rattle.rb_lines.specs.Lines.Line.{Skipped, Happens, Bad}

-- ---- the words

abbrev pub Spells : List ℕ → List ℕ → Type 0
Spells word text = text ≡ word

-- LINE-6: Moments, numbers and counts are decimal digits of a value below 2^64, with leading zeros
-- if one likes and no sign.
pub record SpellsNumber (n : ℕ) (text : List ℕ) : Type 0 where
  pub digits : IsNumeral 10 text
  pub value : digits_value 10 text ≡ n
  pub fits : n < 2 ^ 64

-- two hexadecimal digits of either case, the high four bits first
pub record SpellsByte (byte high low : ℕ) : Type 0 where
  pub high_digit : digit_value high < 16
  pub low_digit : digit_value low < 16
  pub value : digit_value high * 16 + digit_value low ≡ byte

abbrev pub SpellsBytes : List ℕ → List ℕ → Type 0
SpellsBytes [] [] = Unit {0}
SpellsBytes (byte ∷ bytes) (high ∷ low ∷ text) = SpellsByte byte high low × SpellsBytes bytes text
SpellsBytes _ _ = ⊥

-- LINE-9: Bytes in an event line are two hexadecimal digits of either case for each, or `-` for
-- none.
abbrev pub SpellsHex : List ℕ → List ℕ → Type 0
SpellsHex [] text = text ≡ codes "-"
SpellsHex (byte ∷ bytes) text = SpellsBytes (byte ∷ bytes) text

-- ---- the lines

-- a text of the one kind, a space, and a text of the other
pub record IsSpaced (Front Back : List ℕ → Type 0) (text : List ℕ) : Type 0 where
  pub front : List ℕ
  pub back : List ℕ
  pub in_front : Front front
  pub behind : Back back
  pub text_is : text ≡ front ++ 32 ∷ back

infixr 5 ◌␣◌
abbrev pub ◌␣◌ : (List ℕ → Type 0) → (List ℕ → Type 0) → List ℕ → Type 0
Front ␣ Back = IsSpaced Front Back

-- LINE-5: A line is the event's words with one space between each two.
-- LINE-7: The lines of forwarded calls are `unsent`, `sent ID`, `forward NOW PEER HEX` and `expire
-- NOW`.
-- LINE-8: The line by which statistics begin anew is `zero`.
abbrev pub SpellsEvent : Event → List ℕ → Type 0
SpellsEvent (Open now from) = Spells (codes "open") ␣ SpellsNumber now ␣ SpellsWho from
SpellsEvent (Bytes now id bytes) = Spells (codes "bytes") ␣ SpellsNumber now ␣ SpellsNumber id ␣ SpellsHex bytes
SpellsEvent (Pending id) = Spells (codes "pending") ␣ SpellsNumber id
SpellsEvent (Gave now id n) = Spells (codes "gave") ␣ SpellsNumber now ␣ SpellsNumber id ␣ SpellsNumber n
SpellsEvent (Closed id) = Spells (codes "closed") ␣ SpellsNumber id
SpellsEvent NextLost = Spells (codes "lost")
SpellsEvent (Datagram now from bytes) =
    Spells (codes "datagram") ␣ SpellsNumber now ␣ SpellsWho from ␣ SpellsHex bytes
SpellsEvent Unsent = Spells (codes "unsent")
SpellsEvent (Sent id) = Spells (codes "sent") ␣ SpellsNumber id
SpellsEvent (Forward now from bytes) =
    Spells (codes "forward") ␣ SpellsNumber now ␣ SpellsPeer from ␣ SpellsHex bytes
SpellsEvent (Expire now) = Spells (codes "expire") ␣ SpellsNumber now
SpellsEvent ZeroStats = Spells (codes "zero")

-- LINE-10: Empty lines and lines that begin with `#` are skipped, and count for the number in the
-- error message.
abbrev pub SaysNothing : List ℕ → Type 0
SaysNothing text = (text ≡ []) ⊎ ((rest : List ℕ) × (text ≡ codes "#" ++ rest))

-- ---- the laws

-- A line is this event exactly if it is spelled so.
abbrev pub EventsAreSpelled : Type 0
EventsAreSpelled = (text : List ℕ) (event : Event) → (line text ≡ Happens event) ↔ SpellsEvent event text

abbrev pub SkippedSayNothing : Type 0
SkippedSayNothing = (text : List ℕ) → (line text ≡ Skipped) ↔ SaysNothing text

-- A line is bad exactly if it says something, and no event.
abbrev pub BadSpellNothing : Type 0
BadSpellNothing =
    (text : List ℕ)
    → (line text ≡ Bad) ↔ ((SaysNothing text → ⊥) × ((event : Event) → SpellsEvent event text → ⊥))
