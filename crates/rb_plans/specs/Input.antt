-- The reply on standard input: one marked record in hexadecimal text.
use Rattle.std.specs.Prelude.{◌≡◌, ℕ, ◌+◌, ◌==◌, ◌&&◌, ◌||◌, ◌⊎◌, not, nat_lt, nat_le, Bool, if◌then◌else◌, List, [], length, take, filter, Option, IfSome, Result, Ok, Err}
use Rattle.std.specs.Io.KnownBytes.{Keeps}
use Rattle.hex.specs.Hex.{decode_of}
use Rattle.hex.specs.declared.error.FromHexError.{FromHexError}
use Rattle.rb_show.specs.declared.fault.InfoFault.{InfoFault}
use Rattle.rb_show.specs.declared.fault.InfoFault.TheVariants.{Read, Unreadable, TooLong, Memory}
use Rattle.rb_show.specs.Telling.{Told, Outcome}
use Rattle.rb_show.specs.Telling.Told.{Stop}
use Rattle.rb_show.specs.declared.ask.Ask.{Ask}
use Rattle.rb_show.specs.declared.form.Form.{Form}
use Rattle.rb_show.specs.declared.show.Shown.{Shown}
use Rattle.rb_show.specs.Replies.{tell_bytes}

-- the six white space characters of ASCII: space, tab, line feed, vertical tab, form feed, carriage return
abbrev pub is_white : ℕ → Bool
is_white b = b == 32 || (nat_le 9 b && nat_le b 13)

-- a text without its white space
abbrev pub digits_of : List ℕ → List ℕ
digits_of text = filter (λ b. not (is_white b)) text

-- the greatest length of a text
-- HEX-2: A text of more than 67,108,864 bytes is too long, whatever it holds.
unfoldable pub longest_text : ℕ
longest_text = 67108864

abbrev pub or_unreadable : Result (List ℕ) FromHexError → Result (List ℕ) InfoFault
or_unreadable (Ok bytes) = Ok bytes
or_unreadable (Err fault) = Err Unreadable

-- HEX-1: The text of standard input is pairs of hexadecimal digits of either case, white space
-- anywhere; other text is an unreadable reply.
abbrev pub read_hex : List ℕ → Result (List ℕ) InfoFault
read_hex text = or_unreadable (decode_of (digits_of text))

-- the bytes that a text gives
abbrev pub bytes_of : List ℕ → Result (List ℕ) InfoFault
bytes_of text = if nat_lt longest_text (length text) then Err TooLong else read_hex text

-- want of memory, or the fault that such a text has
abbrev pub FailsAs : Result (List ℕ) InfoFault → InfoFault → Type 0
FailsAs gives fault = (fault ≡ Memory) ⊎ (gives ≡ Err fault)

-- the xid of a first call
abbrev pub first_xid : ℕ
first_xid = 1

abbrev pub tell_read : Ask → Form → Result (List ℕ) InfoFault → Told Shown
tell_read ask form (Ok bytes) = tell_bytes ask form first_xid bytes
tell_read ask form (Err fault) = Stop [] fault

-- what the reply in a text tells
abbrev pub tell_text : Ask → Form → List ℕ → Told Shown
tell_text ask form text = tell_read ask form (bytes_of text)

-- what was read of an input is all of it, or enough to show that it is too long
abbrev pub IsEnoughOf : Option (List ℕ) → List ℕ → Type 0
IsEnoughOf left text = IfSome left (λ input. text ≡ take (longest_text + 1) input)

-- the lines were written, as far as the result says, or the input failed and nothing was written
abbrev pub IsToldOr : Told Shown → Option (List ℕ) → Option (List ℕ) → Result Shown InfoFault → Type 0
IsToldOr told old new result = Outcome told old new result ⊎ ((result ≡ Err Read) × Keeps old new)

-- If the text that the input has is known, what its reply tells is written, or the input failed.
abbrev pub ShowsIn : {I O : Type 0} → (I → Option (List ℕ)) → (O → Option (List ℕ)) → Ask → Form → I → O → O → Result Shown InfoFault → Type 0
ShowsIn remaining contents ask form input output output' result =
    IfSome (remaining input) (λ text. IsToldOr (tell_text ask form text) (contents output) (contents output') result)
