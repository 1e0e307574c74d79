-- Bytes that are put at the end of a buffer.
use Rattle.std.specs.Prelude.{◌≡◌, ℕ, ◌+◌, ◌<◌, ◌≤◌, ◌↔◌, List, ◌++◌, length, Option, MatchOption, Result, IsOk, OnOk, OnErr}
use Rattle.rb_xdr.specs.Kept.{Kept}

-- the bytes stand after those that were there
abbrev pub Appends : List ℕ → Kept → Kept → Type 0
Appends bytes old new = new ≡ record old { bytes = old.bytes ++ bytes }

-- the bytes fit after those that are there
abbrev pub HasRoom : List ℕ → Kept → Type 0
HasRoom bytes kept = length kept.bytes + length bytes ≤ kept.cap

-- the room that is left of this much after the bytes, None if they don't fit
abbrev pub Leaves : List ℕ → ℕ → Option ℕ → Type 0
Leaves bytes room result = MatchOption result (room < length bytes) (λ left. left + length bytes ≡ room)

-- The bytes are put if the buffer then has at most `limit` bytes. Else they are refused, and it stays as it was.
-- XDR-5: What does not fit is refused whole, and the buffer stays as it was.
-- PUT-1
pub record Puts {A E : Type 0} (bytes : List ℕ) (limit : ℕ) (old new : Kept) (result : Result A E) : Type 0 where
  pub room : IsOk result ↔ (length old.bytes + length bytes ≤ limit)
  pub ok : OnOk result (Appends bytes old new)
  pub unchanged : OnErr result (new ≡ old)
  pub cap : new.cap ≡ old.cap
  pub tie : new.tie ≡ old.tie
