-- Texts that are read as bytes.
use Rattle.std.proofs.Common.{◌≡◌, ℕ, List, length, Result, Ok, Err, refl, inl, inr}
use Rattle.std.proofs.lemmas.Bool.{lt-ltb, le-ltb}
use Rattle.hex.specs.Hex.{decode_of}
use Rattle.hex.specs.declared.error.FromHexError.{FromHexError}
use Rattle.rb_show.specs.declared.fault.InfoFault.{InfoFault}
use Rattle.rb_show.specs.declared.fault.InfoFault.TheVariants.{Unreadable}
use Rattle.rb_plans.specs.Input.{digits_of, longest_text, or_unreadable}
use Rattle.rb_plans.specs.InputLaws.{HexTextsGiveBytes, OnlyHexTextsDo, OthersAreUnreadable, DigitsGiveTheirBytes, LongTextsAreNotRead, TheRestIsRead}
use Rattle.hex.proofs.HexLemmas.{decode_of-ok, decode_of-digits, decode_of-encode_lower, decode_of-encode_upper}

abbrev given : List ℕ → Result (List ℕ) InfoFault
given bytes = Ok bytes

abbrev refused : InfoFault → Result (List ℕ) InfoFault
refused fault = Err fault

pub was_ok : (r : Result (List ℕ) FromHexError) (bytes : List ℕ) → or_unreadable r ≡ Ok bytes → r ≡ Ok bytes
was_ok (Ok read) bytes e = rw (same read bytes e) refl
  where
    same : (a b : List ℕ) → given a ≡ given b → a ≡ b
    same a b e = cc
was_ok (Err fault) bytes e = absurd cc

was_err : (r : Result (List ℕ) FromHexError) (fault : InfoFault) → or_unreadable r ≡ Err fault → fault ≡ Unreadable
was_err (Ok read) fault e = absurd cc
was_err (Err why) fault e = same fault Unreadable e
  where
    same : (a b : InfoFault) → refused b ≡ refused a → a ≡ b
    same a b e = cc

pub accepted : HexTextsGiveBytes
accepted text is =
    let r = decode_of-digits (digits_of text) is.even is.digits in
    let all = decode_of-ok (digits_of text) r.0 r.1 in
    record { bytes = r.0; read = rw r.1 refl; half = all.2 }

pub only : OnlyHexTextsDo
only text bytes e =
    let all = decode_of-ok (digits_of text) bytes (was_ok (decode_of (digits_of text)) bytes e) in
    record { even = all.0; digits = all.1 }

pub others : OthersAreUnreadable
others text fault e = was_err (decode_of (digits_of text)) fault e

pub own_bytes : DigitsGiveTheirBytes
own_bytes text bytes are (inl e) = rw (e, decode_of-encode_lower bytes are) refl
own_bytes text bytes are (inr e) = rw (e, decode_of-encode_upper bytes are) refl

pub long : LongTextsAreNotRead
long text over = rw (lt-ltb longest_text (length text) over) refl

pub short : TheRestIsRead
short text fits = rw (le-ltb longest_text (length text) fits) refl
