-- Lines that were recorded, read back.
use Rattle.std.specs.List.{flat_map, concat, onto_first, list_all, AllByRecursion}
use Rattle.std.specs.Prelude.{IfSome}
use Rattle.std.specs.Fmt.{decimal, digits, digits_onto, digit_glyph}
use Rattle.std.specs.Net.Text.{ipv4_text}
use Rattle.std.specs.Char.{digit_value}
use Rattle.std.proofs.Common.{◌≡◌, ◌==◌, ◌<◌, ◌≤◌, ◌/◌, ◌%◌, ℕ, zero, suc, Bool, true, false, cond, eqb, codes, List, [], ◌∷◌, ◌++◌, map, slice_index, Option, Some, None, refl, sym, ap, subst, ◌∙◌, arith, inl, inr, ◌⊎◌, append_assoc, length, take}
use Rattle.std.proofs.lemmas.Fmt.{decimal_is_IsNumeral}
use Rattle.std.proofs.lemmas.List.Elements.{All-append, All-cons, All-nil, All-head, All-tail}
use Rattle.std.proofs.lemmas.List.Splits.{slice_split-cons_yes, slice_split-cons_no}
use Rattle.std.proofs.lemmas.Bool.{and_parts, leb-true, ne_eqb}
use Rattle.std.proofs.lemmas.Bool.Decides.{nat_tests}
use Rattle.rb_uaddr.specs.Uaddr.{ipv6_host_text}
use Rattle.rb_address.specs.declared.host.Host.{Host}
use Rattle.rb_address.specs.declared.host.Host.TheVariants.{V4, V6}
use Rattle.rb_address.specs.declared.peer.Peer.{Peer}
use Rattle.rb_address.specs.declared.who.Source.{Source}
use Rattle.rb_address.specs.declared.who.Source.TheVariants.{Inet, Local}
use Rattle.rb_address.specs.declared.who.Who.{Who}
use Rattle.rb_address.specs.Peers.{IsPeer, bare_host_text, host_text, peer_text}
use Rattle.rb_address.specs.Callers.{IsWho, source_text, who_text}
use Rattle.rb_address.specs.Reading.{SpellsPeer}
use Rattle.rb_address.specs.CallerTexts.{SpellsWho}
use Rattle.rb_address.proofs.HostTexts.{IsWithout, host_without}
use Rattle.rb_address.proofs.CallerWords.{who_without}
use Rattle.rb_forward.specs.Forwards.{Unsent as UnsentCall}
use Rattle.rb_answers.specs.declared.listener.Forwarding.{Forwarding}
use Rattle.rb_answers.specs.declared.listener.Forwarding.TheVariants.{Anywhere, ForAll, ForLocal}
use Rattle.rb_answers.specs.declared.listener.Listener.{Listener}
use Rattle.rb_answers.specs.declared.reserved.Reservation.{Reservation}
use Rattle.rb_answers.specs.declared.listener.Terms.{Terms}
use Rattle.rb_model.specs.declared.types.Limits.{Limits}
use Rattle.rb_model.specs.declared.types.CoreFault.{CoreFault}
use Rattle.rb_model.specs.declared.types.CoreFault.TheVariants.{NoMemory, BadLimits, Full, Spent, Gone}
use Rattle.rb_model.specs.State.{State, opening}
use Rattle.rb_model.specs.Step.{Event, Output, step, run}
use Rattle.rb_model.specs.Step.Event.{Datagram, Open, Bytes, Pending, Gave, Closed, NextLost, Unsent, Sent, Forward, Expire, ZeroStats}
use Rattle.rb_model.specs.Step.Output.{Opened, Refused, TooMuch, Took, TookAndLost, IsPending, Done, LostIs, Replied, Forwarded, Silent, UnsentIs, Ignored, Nothing, ConnectionLost, Ready, RepliedTo}
use Rattle.rb_lines.specs.Printing.{hex_text, refusal_text, bytes_line, peer_line, source_line, output_text}
use Rattle.rb_lines.specs.Entries.{event_text, entry_text, run_entries, run_text, limits_text, announce_text, inet_text, inet6_text, local_text, lists_text, forwarding_text, last_text, reservation_text, reserve_text, reserved_text, terms_text, listener_text, options_text}
use Rattle.rb_lines.specs.Tapes.{last_line}
use Rattle.rb_lines.specs.Lines.{longest_input, line, lines_of}
use Rattle.rb_lines.specs.Lines.Line.{Skipped, Happens}
use Rattle.rb_lines.specs.LineLaws.{event_in, has_bad}
use Rattle.rb_lines.specs.LineGrammar.{Spells, SpellsNumber, SpellsByte, SpellsBytes, SpellsHex, ◌␣◌, SpellsEvent}
use Rattle.rb_lines.specs.OutputLines.{output_line_in, output_lines_in, output_lines}
use Rattle.rb_lines.specs.Paths.{is_quotable, is_path}
use Rattle.rb_lines.specs.RecordLaws.{Fits, AreBytes, HasLine, HasPath, ReadsAs, RecordsAreRead, EndedRecordsAreRead}
use Rattle.rb_lines.proofs.LineLaws.{reads_the_events}
use Rattle.rb_lines.proofs.LineWords.{line_of, skipped_say_nothing}
use Rattle.hex.specs.Hex.{encode_with, encode_lower, lower_digits}
use mathlib.Core.Bool.{true≢false}

-- ---- lines of a text

-- a line that ends, and the text after it
line_then : (front rest : List ℕ) → IsWithout 10 front → lines_of (front ++ 10 ∷ rest) ≡ front ∷ lines_of rest
unfolding lines_of
line_then [] rest none = slice_split-cons_yes (λ b. eqb b 10) 10 rest refl
line_then (x ∷ front) rest none =
    let P : ℕ → Type 0 = λ b. eqb b 10 ≡ false in
    slice_split-cons_no (λ b. eqb b 10) x (front ++ 10 ∷ rest) (All-head P x front none) ∙ ap (onto_first x) (line_then front rest (All-tail P x front none))

-- A text is one line, with its end.
pub record IsLine (text : List ℕ) : Type 0 where
  pub body : List ℕ
  pub whole : text ≡ body ++ 10 ∷ []
  pub apart : IsWithout 10 body

pub lines_behind : (text rest : List ℕ) (l : IsLine text) → lines_of (text ++ rest) ≡ l.body ∷ lines_of rest
lines_behind text rest l =
    ap (λ (t : List ℕ). lines_of (t ++ rest)) l.whole ∙ ap lines_of (append_assoc l.body (10 ∷ []) rest) ∙ line_then l.body rest l.apart

-- ---- what has no line feed

joined : (xs ys : List ℕ) → IsWithout 10 xs → IsWithout 10 ys → IsWithout 10 (xs ++ ys)
joined xs ys a b = All-append (λ (b : ℕ). eqb b 10 ≡ false) xs ys a b

behind : (x : ℕ) (xs : List ℕ) → eqb x 10 ≡ false → IsWithout 10 xs → IsWithout 10 (x ∷ xs)
behind x xs a b = All-cons (λ (b : ℕ). eqb b 10 ≡ false) x xs a b

nothing : IsWithout 10 []
nothing = All-nil (λ (b : ℕ). eqb b 10 ≡ false)

-- whether a text has a line feed
abbrev has_end : List ℕ → Bool
has_end [] = false
has_end (x ∷ xs) = cond (eqb x 10) true (has_end xs)

apart : (xs : List ℕ) → has_end xs ≡ false → IsWithout 10 xs
apart [] none = nothing
apart (x ∷ xs) none = at (eqb x 10) refl none (λ less. apart xs less)
  where
    at : (b : Bool) → eqb x 10 ≡ b → cond b true (has_end xs) ≡ false → (has_end xs ≡ false → IsWithout 10 xs) → IsWithout 10 (x ∷ xs)
    at true e none others = absurd (true≢false none)
    at false e none others = behind x xs e (others none)

number_spelled : (n : ℕ) → Fits n → SpellsNumber n (decimal n)
number_spelled n fits = let is = decimal_is_IsNumeral n fits in record { digits = is.0; value = is.1; fits = fits }

glyph_apart : (digit : ℕ) → eqb (digit_glyph false digit) 10 ≡ false
glyph_apart digit = ne_eqb (digit_glyph false digit) 10 (λ e. grind (arith, nat_tests, e))

digits_onto_apart : (most n : ℕ) (more : List ℕ) → IsWithout 10 more → IsWithout 10 (digits_onto most 10 false n more)
digits_onto_apart zero n more none = none
digits_onto_apart (suc most) n more none = by_last (eqb (n / 10) 0) (digits_onto_apart most (n / 10) (digit_glyph false (n % 10) ∷ more) longer)
  where
    longer : IsWithout 10 (digit_glyph false (n % 10) ∷ more)
    longer = behind (digit_glyph false (n % 10)) more (glyph_apart (n % 10)) none

    by_last : (last : Bool) → IsWithout 10 (digits_onto most 10 false (n / 10) (digit_glyph false (n % 10) ∷ more)) → IsWithout 10 (cond last (digit_glyph false (n % 10) ∷ more) (digits_onto most 10 false (n / 10) (digit_glyph false (n % 10) ∷ more)))
    by_last true others = longer
    by_last false others = others

-- whatever number it is
number_apart : (n : ℕ) → IsWithout 10 (decimal n)
unfolding digits
number_apart n = digits_onto_apart 64 n [] nothing

peer_spelled : (p : Peer) → IsPeer p → SpellsPeer p (peer_text p)
peer_spelled p is = record { is_peer = is; text_is = refl }

dot_apart : IsWithout 10 (codes ".")
dot_apart = apart (codes ".") refl

dots_apart : (octets : List ℕ) → IsWithout 10 (ipv4_text octets)
dots_apart octets =
    let octet : (i : ℕ) → IsWithout 10 (decimal (slice_index octets i)) = λ i. number_apart (slice_index octets i) in
    let one = joined _ (codes ".") (octet 0) dot_apart in
    let two = joined _ (codes ".") (joined _ _ one (octet 1)) dot_apart in
    let three = joined _ (codes ".") (joined _ _ two (octet 2)) dot_apart in
    joined _ _ three (octet 3)

groups_apart : (octets : List ℕ) → IsWithout 10 (ipv6_host_text octets)
groups_apart octets = host_without 10 (inl (omega arith)) octets

bare_apart : (h : Host) → IsWithout 10 (bare_host_text h)
bare_apart (V4 octets) = dots_apart octets
bare_apart (V6 octets) = groups_apart octets

host_apart : (h : Host) → IsWithout 10 (host_text h)
host_apart (V4 octets) = dots_apart octets
host_apart (V6 octets) =
    let front = joined (codes "[") (ipv6_host_text octets) (apart (codes "[") refl) (groups_apart octets) in
    joined (codes "[" ++ ipv6_host_text octets) (codes "]") front (apart (codes "]") refl)

-- whatever host and port it has
peer_apart : (p : Peer) → IsWithout 10 (peer_text p)
peer_apart p = joined _ (decimal p.port) (joined (host_text p.host) (codes ":") (host_apart p.host) (apart (codes ":") refl)) (number_apart p.port)

who_spelled : (w : Who) → IsWho w → SpellsWho w (who_text w)
who_spelled w is = record { is_who = is; text_is = refl }

who_apart : (w : Who) → IsWho w → IsWithout 10 (who_text w)
who_apart w is = who_without 10 (omega arith) w is

source_apart : (s : Source) → IsWithout 10 (source_text s)
source_apart (Inet p) = peer_apart p
source_apart Local = apart (codes "local") refl

-- ---- hexadecimal digits

digit_apart : (i : ℕ) → eqb (slice_index lower_digits i) 10 ≡ false
digit_apart zero = refl
digit_apart (suc zero) = refl
digit_apart (suc (suc zero)) = refl
digit_apart (suc (suc (suc zero))) = refl
digit_apart (suc (suc (suc (suc zero)))) = refl
digit_apart (suc (suc (suc (suc (suc zero))))) = refl
digit_apart (suc (suc (suc (suc (suc (suc zero)))))) = refl
digit_apart (suc (suc (suc (suc (suc (suc (suc zero))))))) = refl
digit_apart (suc (suc (suc (suc (suc (suc (suc (suc zero)))))))) = refl
digit_apart (suc (suc (suc (suc (suc (suc (suc (suc (suc zero))))))))) = refl
digit_apart (suc (suc (suc (suc (suc (suc (suc (suc (suc (suc zero)))))))))) = refl
digit_apart (suc (suc (suc (suc (suc (suc (suc (suc (suc (suc (suc zero))))))))))) = refl
digit_apart (suc (suc (suc (suc (suc (suc (suc (suc (suc (suc (suc (suc zero)))))))))))) = refl
digit_apart (suc (suc (suc (suc (suc (suc (suc (suc (suc (suc (suc (suc (suc zero))))))))))))) = refl
digit_apart (suc (suc (suc (suc (suc (suc (suc (suc (suc (suc (suc (suc (suc (suc zero)))))))))))))) = refl
digit_apart (suc (suc (suc (suc (suc (suc (suc (suc (suc (suc (suc (suc (suc (suc (suc zero))))))))))))))) = refl
digit_apart (suc (suc (suc (suc (suc (suc (suc (suc (suc (suc (suc (suc (suc (suc (suc (suc i)))))))))))))))) = refl

digit_value_of : (i : ℕ) → i < 16 → digit_value (slice_index lower_digits i) ≡ i
digit_value_of zero lt = refl
digit_value_of (suc zero) lt = refl
digit_value_of (suc (suc zero)) lt = refl
digit_value_of (suc (suc (suc zero))) lt = refl
digit_value_of (suc (suc (suc (suc zero)))) lt = refl
digit_value_of (suc (suc (suc (suc (suc zero))))) lt = refl
digit_value_of (suc (suc (suc (suc (suc (suc zero)))))) lt = refl
digit_value_of (suc (suc (suc (suc (suc (suc (suc zero))))))) lt = refl
digit_value_of (suc (suc (suc (suc (suc (suc (suc (suc zero)))))))) lt = refl
digit_value_of (suc (suc (suc (suc (suc (suc (suc (suc (suc zero))))))))) lt = refl
digit_value_of (suc (suc (suc (suc (suc (suc (suc (suc (suc (suc zero)))))))))) lt = refl
digit_value_of (suc (suc (suc (suc (suc (suc (suc (suc (suc (suc (suc zero))))))))))) lt = refl
digit_value_of (suc (suc (suc (suc (suc (suc (suc (suc (suc (suc (suc (suc zero)))))))))))) lt = refl
digit_value_of (suc (suc (suc (suc (suc (suc (suc (suc (suc (suc (suc (suc (suc zero))))))))))))) lt = refl
digit_value_of (suc (suc (suc (suc (suc (suc (suc (suc (suc (suc (suc (suc (suc (suc zero)))))))))))))) lt = refl
digit_value_of (suc (suc (suc (suc (suc (suc (suc (suc (suc (suc (suc (suc (suc (suc (suc zero))))))))))))))) lt = refl
digit_value_of (suc (suc (suc (suc (suc (suc (suc (suc (suc (suc (suc (suc (suc (suc (suc (suc i)))))))))))))))) lt = absurd (omega (arith, lt))

digits_apart : (bytes : List ℕ) → IsWithout 10 (encode_lower bytes)
unfolding encode_with
digits_apart [] = nothing
digits_apart (byte ∷ bytes) =
    behind (slice_index lower_digits (byte / 16)) (slice_index lower_digits (byte % 16) ∷ encode_lower bytes) (digit_apart (byte / 16))
    (behind (slice_index lower_digits (byte % 16)) (encode_lower bytes) (digit_apart (byte % 16)) (digits_apart bytes))

hex_apart : (bytes : List ℕ) → IsWithout 10 (hex_text bytes)
hex_apart [] = behind 45 [] refl nothing
hex_apart (byte ∷ bytes) = digits_apart (byte ∷ bytes)

byte_spelled : (byte : ℕ) → byte < 256 → SpellsByte byte (slice_index lower_digits (byte / 16)) (slice_index lower_digits (byte % 16))
byte_spelled byte fits =
    let high : byte / 16 < 16 = omega (arith, fits) in
    let low : byte % 16 < 16 = omega arith in
    let a = digit_value_of (byte / 16) high in
    let b = digit_value_of (byte % 16) low in
    record {
      high_digit = omega (arith, a, high);
      low_digit = omega (arith, b, low);
      value = omega (arith, a, b);
    }

bytes_spelled : (bytes : List ℕ) → AreBytes bytes → SpellsBytes bytes (encode_lower bytes)
unfolding encode_with
bytes_spelled [] are = tt
bytes_spelled (byte ∷ bytes) are = (byte_spelled byte are.0, bytes_spelled bytes are.1)

hex_spelled : (bytes : List ℕ) → AreBytes bytes → SpellsHex bytes (hex_text bytes)
hex_spelled [] are = refl
hex_spelled (byte ∷ bytes) are = bytes_spelled (byte ∷ bytes) are

-- ---- the line of an event

spaced : (Front Back : List ℕ → Type 0) (front back : List ℕ) → Front front → Back back → (Front ␣ Back) (front ++ 32 ∷ back)
spaced Front Back front back f b = record { front = front; back = back; in_front = f; behind = b; text_is = refl }

-- a number or a peer, a space, and what follows, with the end of the line
ended : (front back : List ℕ) → front ++ 32 ∷ (back ++ 10 ∷ []) ≡ (front ++ 32 ∷ back) ++ 10 ∷ []
ended front back = sym (append_assoc front (32 ∷ back) (10 ∷ []))

apart_pair : (front back : List ℕ) → IsWithout 10 front → IsWithout 10 back → IsWithout 10 (front ++ 32 ∷ back)
apart_pair front back a b = joined front (32 ∷ back) a (behind 32 back refl b)

-- an event's line says that event
pub record IsEventLine (e : Event) : Type 0 where
  pub body : List ℕ
  pub whole : event_text e ≡ body ++ 10 ∷ []
  pub apart : IsWithout 10 body
  pub spelled : SpellsEvent e body
  pub quiet : output_line_in body ≡ []

open_apart : IsWithout 10 (codes "open")
open_apart = behind 111 (codes "pen") refl (behind 112 (codes "en") refl (behind 101 (codes "n") refl (behind 110 ([]) refl nothing)))

bytes_apart : IsWithout 10 (codes "bytes")
bytes_apart = behind 98 (codes "ytes") refl (behind 121 (codes "tes") refl (behind 116 (codes "es") refl (behind 101 (codes "s") refl (behind 115 ([]) refl nothing))))

pending_apart : IsWithout 10 (codes "pending")
pending_apart = behind 112 (codes "ending") refl (behind 101 (codes "nding") refl (behind 110 (codes "ding") refl (behind 100 (codes "ing") refl (behind 105 (codes "ng") refl (behind 110 (codes "g") refl (behind 103 ([]) refl nothing))))))

gave_apart : IsWithout 10 (codes "gave")
gave_apart = behind 103 (codes "ave") refl (behind 97 (codes "ve") refl (behind 118 (codes "e") refl (behind 101 ([]) refl nothing)))

closed_apart : IsWithout 10 (codes "closed")
closed_apart = behind 99 (codes "losed") refl (behind 108 (codes "osed") refl (behind 111 (codes "sed") refl (behind 115 (codes "ed") refl (behind 101 (codes "d") refl (behind 100 ([]) refl nothing)))))

lost_apart : IsWithout 10 (codes "lost")
lost_apart = behind 108 (codes "ost") refl (behind 111 (codes "st") refl (behind 115 (codes "t") refl (behind 116 ([]) refl nothing)))

datagram_apart : IsWithout 10 (codes "datagram")
datagram_apart = behind 100 (codes "atagram") refl (behind 97 (codes "tagram") refl (behind 116 (codes "agram") refl (behind 97 (codes "gram") refl (behind 103 (codes "ram") refl (behind 114 (codes "am") refl (behind 97 (codes "m") refl (behind 109 ([]) refl nothing)))))))

unsent_apart : IsWithout 10 (codes "unsent")
unsent_apart = behind 117 (codes "nsent") refl (behind 110 (codes "sent") refl (behind 115 (codes "ent") refl (behind 101 (codes "nt") refl (behind 110 (codes "t") refl (behind 116 ([]) refl nothing)))))

sent_apart : IsWithout 10 (codes "sent")
sent_apart = behind 115 (codes "ent") refl (behind 101 (codes "nt") refl (behind 110 (codes "t") refl (behind 116 ([]) refl nothing)))

forward_apart : IsWithout 10 (codes "forward")
forward_apart = behind 102 (codes "orward") refl (behind 111 (codes "rward") refl (behind 114 (codes "ward") refl (behind 119 (codes "ard") refl (behind 97 (codes "rd") refl (behind 114 (codes "d") refl (behind 100 ([]) refl nothing))))))

expire_apart : IsWithout 10 (codes "expire")
expire_apart = behind 101 (codes "xpire") refl (behind 120 (codes "pire") refl (behind 112 (codes "ire") refl (behind 105 (codes "re") refl (behind 114 (codes "e") refl (behind 101 ([]) refl nothing)))))

zero_apart : IsWithout 10 (codes "zero")
zero_apart = behind 122 (codes "ero") refl (behind 101 (codes "ro") refl (behind 114 (codes "o") refl (behind 111 ([]) refl nothing)))

pub event_line : (e : Event) → HasLine e → IsEventLine e
unfolding output_line_in
event_line (Open now from) h = record {
  body = codes "open" ++ 32 ∷ (decimal now ++ 32 ∷ who_text from);
  whole = ap (λ (t : List ℕ). codes "open " ++ t) (ended (decimal now) (who_text from));
  apart = apart_pair (codes "open") (decimal now ++ 32 ∷ who_text from) open_apart (apart_pair (decimal now) (who_text from) (number_apart now) (who_apart from h.1));
  spelled = spaced (Spells (codes "open")) (SpellsNumber now ␣ SpellsWho from) (codes "open") _ refl (spaced (SpellsNumber now) (SpellsWho from) (decimal now) (who_text from) (number_spelled now h.0) (who_spelled from h.1));
  quiet = refl;
}
event_line (Bytes now id bytes) h = record {
  body = codes "bytes" ++ 32 ∷ (decimal now ++ 32 ∷ (decimal id ++ 32 ∷ hex_text bytes));
  whole = ap (λ (t : List ℕ). codes "bytes " ++ t) (ap (λ (t : List ℕ). decimal now ++ 32 ∷ t) (ended (decimal id) (hex_text bytes)) ∙ ended (decimal now) (decimal id ++ 32 ∷ hex_text bytes));
  apart = apart_pair (codes "bytes") (decimal now ++ 32 ∷ (decimal id ++ 32 ∷ hex_text bytes)) bytes_apart (apart_pair (decimal now) (decimal id ++ 32 ∷ hex_text bytes) (number_apart now) (apart_pair (decimal id) (hex_text bytes) (number_apart id) (hex_apart bytes)));
  spelled = spaced (Spells (codes "bytes")) (SpellsNumber now ␣ SpellsNumber id ␣ SpellsHex bytes) (codes "bytes") _ refl
      (spaced (SpellsNumber now) (SpellsNumber id ␣ SpellsHex bytes) (decimal now) _ (number_spelled now h.0) (spaced (SpellsNumber id) (SpellsHex bytes) (decimal id) (hex_text bytes) (number_spelled id h.1) (hex_spelled bytes h.2)));
  quiet = refl;
}
event_line (Pending id) h = record {
  body = codes "pending" ++ 32 ∷ decimal id;
  whole = refl;
  apart = apart_pair (codes "pending") (decimal id) pending_apart (number_apart id);
  spelled = spaced (Spells (codes "pending")) (SpellsNumber id) (codes "pending") (decimal id) refl (number_spelled id h);
  quiet = refl;
}
event_line (Gave now id n) h = record {
  body = codes "gave" ++ 32 ∷ (decimal now ++ 32 ∷ (decimal id ++ 32 ∷ decimal n));
  whole = ap (λ (t : List ℕ). codes "gave " ++ t) (ap (λ (t : List ℕ). decimal now ++ 32 ∷ t) (ended (decimal id) (decimal n)) ∙ ended (decimal now) (decimal id ++ 32 ∷ decimal n));
  apart = apart_pair (codes "gave") (decimal now ++ 32 ∷ (decimal id ++ 32 ∷ decimal n)) gave_apart (apart_pair (decimal now) (decimal id ++ 32 ∷ decimal n) (number_apart now) (apart_pair (decimal id) (decimal n) (number_apart id) (number_apart n)));
  spelled = spaced (Spells (codes "gave")) (SpellsNumber now ␣ SpellsNumber id ␣ SpellsNumber n) (codes "gave") _ refl
      (spaced (SpellsNumber now) (SpellsNumber id ␣ SpellsNumber n) (decimal now) _ (number_spelled now h.0) (spaced (SpellsNumber id) (SpellsNumber n) (decimal id) (decimal n) (number_spelled id h.1) (number_spelled n h.2)));
  quiet = refl;
}
event_line (Closed id) h = record {
  body = codes "closed" ++ 32 ∷ decimal id;
  whole = refl;
  apart = apart_pair (codes "closed") (decimal id) closed_apart (number_apart id);
  spelled = spaced (Spells (codes "closed")) (SpellsNumber id) (codes "closed") (decimal id) refl (number_spelled id h);
  quiet = refl;
}
event_line NextLost h = record { body = codes "lost"; whole = refl; apart = lost_apart; spelled = refl; quiet = refl }
event_line (Datagram now from bytes) h = record {
  body = codes "datagram" ++ 32 ∷ (decimal now ++ 32 ∷ (who_text from ++ 32 ∷ hex_text bytes));
  whole = ap (λ (t : List ℕ). codes "datagram " ++ t) (ap (λ (t : List ℕ). decimal now ++ 32 ∷ t) (ended (who_text from) (hex_text bytes)) ∙ ended (decimal now) (who_text from ++ 32 ∷ hex_text bytes));
  apart = apart_pair (codes "datagram") (decimal now ++ 32 ∷ (who_text from ++ 32 ∷ hex_text bytes)) datagram_apart (apart_pair (decimal now) (who_text from ++ 32 ∷ hex_text bytes) (number_apart now) (apart_pair (who_text from) (hex_text bytes) (who_apart from h.1) (hex_apart bytes)));
  spelled = spaced (Spells (codes "datagram")) (SpellsNumber now ␣ SpellsWho from ␣ SpellsHex bytes) (codes "datagram") _ refl
      (spaced (SpellsNumber now) (SpellsWho from ␣ SpellsHex bytes) (decimal now) _ (number_spelled now h.0) (spaced (SpellsWho from) (SpellsHex bytes) (who_text from) (hex_text bytes) (who_spelled from h.1) (hex_spelled bytes h.2)));
  quiet = refl;
}
event_line Unsent h = record { body = codes "unsent"; whole = refl; apart = unsent_apart; spelled = refl; quiet = refl }
event_line (Sent number) h = record {
  body = codes "sent" ++ 32 ∷ decimal number;
  whole = refl;
  apart = apart_pair (codes "sent") (decimal number) sent_apart (number_apart number);
  spelled = spaced (Spells (codes "sent")) (SpellsNumber number) (codes "sent") (decimal number) refl (number_spelled number h);
  quiet = refl;
}
event_line (Forward now from bytes) h = record {
  body = codes "forward" ++ 32 ∷ (decimal now ++ 32 ∷ (peer_text from ++ 32 ∷ hex_text bytes));
  whole = ap (λ (t : List ℕ). codes "forward " ++ t) (ap (λ (t : List ℕ). decimal now ++ 32 ∷ t) (ended (peer_text from) (hex_text bytes)) ∙ ended (decimal now) (peer_text from ++ 32 ∷ hex_text bytes));
  apart = apart_pair (codes "forward") (decimal now ++ 32 ∷ (peer_text from ++ 32 ∷ hex_text bytes)) forward_apart (apart_pair (decimal now) (peer_text from ++ 32 ∷ hex_text bytes) (number_apart now) (apart_pair (peer_text from) (hex_text bytes) (peer_apart from) (hex_apart bytes)));
  spelled = spaced (Spells (codes "forward")) (SpellsNumber now ␣ SpellsPeer from ␣ SpellsHex bytes) (codes "forward") _ refl
      (spaced (SpellsNumber now) (SpellsPeer from ␣ SpellsHex bytes) (decimal now) _ (number_spelled now h.0) (spaced (SpellsPeer from) (SpellsHex bytes) (peer_text from) (hex_text bytes) (peer_spelled from h.1) (hex_spelled bytes h.2)));
  quiet = refl;
}
event_line (Expire now) h = record {
  body = codes "expire" ++ 32 ∷ decimal now;
  whole = refl;
  apart = apart_pair (codes "expire") (decimal now) expire_apart (number_apart now);
  spelled = spaced (Spells (codes "expire")) (SpellsNumber now) (codes "expire") (decimal now) refl (number_spelled now h);
  quiet = refl;
}
event_line ZeroStats h = record { body = codes "zero"; whole = refl; apart = zero_apart; spelled = refl; quiet = refl }

-- ---- the line of an output

w_reply : IsWithout 10 (codes "reply ")
w_reply = behind 114 (codes "eply ") refl (behind 101 (codes "ply ") refl (behind 112 (codes "ly ") refl (behind 108 (codes "y ") refl (behind 121 (codes " ") refl (behind 32 ([]) refl nothing)))))

w_silent : IsWithout 10 (codes "silent")
w_silent = behind 115 (codes "ilent") refl (behind 105 (codes "lent") refl (behind 108 (codes "ent") refl (behind 101 (codes "nt") refl (behind 110 (codes "t") refl (behind 116 ([]) refl nothing)))))

w_open : IsWithout 10 (codes "open ")
w_open = behind 111 (codes "pen ") refl (behind 112 (codes "en ") refl (behind 101 (codes "n ") refl (behind 110 (codes " ") refl (behind 32 ([]) refl nothing))))

w_took : IsWithout 10 (codes "took ")
w_took = behind 116 (codes "ook ") refl (behind 111 (codes "ok ") refl (behind 111 (codes "k ") refl (behind 107 (codes " ") refl (behind 32 ([]) refl nothing))))

w_and_closed : IsWithout 10 (codes " closed")
w_and_closed = behind 32 (codes "closed") refl (behind 99 (codes "losed") refl (behind 108 (codes "osed") refl (behind 111 (codes "sed") refl (behind 115 (codes "ed") refl (behind 101 (codes "d") refl (behind 100 ([]) refl nothing))))))

w_pending : IsWithout 10 (codes "pending ")
w_pending = behind 112 (codes "ending ") refl (behind 101 (codes "nding ") refl (behind 110 (codes "ding ") refl (behind 100 (codes "ing ") refl (behind 105 (codes "ng ") refl (behind 110 (codes "g ") refl (behind 103 (codes " ") refl (behind 32 ([]) refl nothing)))))))

w_ok : IsWithout 10 (codes "ok")
w_ok = behind 111 (codes "k") refl (behind 107 ([]) refl nothing)

w_toomuch : IsWithout 10 (codes "toomuch")
w_toomuch = behind 116 (codes "oomuch") refl (behind 111 (codes "omuch") refl (behind 111 (codes "much") refl (behind 109 (codes "uch") refl (behind 117 (codes "ch") refl (behind 99 (codes "h") refl (behind 104 ([]) refl nothing))))))

w_lost : IsWithout 10 (codes "lost ")
w_lost = behind 108 (codes "ost ") refl (behind 111 (codes "st ") refl (behind 115 (codes "t ") refl (behind 116 (codes " ") refl (behind 32 ([]) refl nothing))))

w_lost_none : IsWithout 10 (codes "lost -")
w_lost_none = behind 108 (codes "ost -") refl (behind 111 (codes "st -") refl (behind 115 (codes "t -") refl (behind 116 (codes " -") refl (behind 32 (codes "-") refl (behind 45 ([]) refl nothing)))))

w_forwarded : IsWithout 10 (codes "forwarded")
w_forwarded = behind 102 (codes "orwarded") refl (behind 111 (codes "rwarded") refl (behind 114 (codes "warded") refl (behind 119 (codes "arded") refl (behind 97 (codes "rded") refl (behind 114 (codes "ded") refl (behind 100 (codes "ed") refl (behind 101 (codes "d") refl (behind 100 ([]) refl nothing))))))))

w_unsent : IsWithout 10 (codes "unsent ")
w_unsent = behind 117 (codes "nsent ") refl (behind 110 (codes "sent ") refl (behind 115 (codes "ent ") refl (behind 101 (codes "nt ") refl (behind 110 (codes "t ") refl (behind 116 (codes " ") refl (behind 32 ([]) refl nothing))))))

w_unsent_none : IsWithout 10 (codes "unsent -")
w_unsent_none = behind 117 (codes "nsent -") refl (behind 110 (codes "sent -") refl (behind 115 (codes "ent -") refl (behind 101 (codes "nt -") refl (behind 110 (codes "t -") refl (behind 116 (codes " -") refl (behind 32 (codes "-") refl (behind 45 ([]) refl nothing)))))))

w_ignored : IsWithout 10 (codes "ignored")
w_ignored = behind 105 (codes "gnored") refl (behind 103 (codes "nored") refl (behind 110 (codes "ored") refl (behind 111 (codes "red") refl (behind 114 (codes "ed") refl (behind 101 (codes "d") refl (behind 100 ([]) refl nothing))))))

w_nothing : IsWithout 10 (codes "nothing")
w_nothing = behind 110 (codes "othing") refl (behind 111 (codes "thing") refl (behind 116 (codes "hing") refl (behind 104 (codes "ing") refl (behind 105 (codes "ng") refl (behind 110 (codes "g") refl (behind 103 ([]) refl nothing))))))

w_closed : IsWithout 10 (codes "closed ")
w_closed = behind 99 (codes "losed ") refl (behind 108 (codes "osed ") refl (behind 111 (codes "sed ") refl (behind 115 (codes "ed ") refl (behind 101 (codes "d ") refl (behind 100 (codes " ") refl (behind 32 ([]) refl nothing))))))

w_ready : IsWithout 10 (codes "ready ")
w_ready = behind 114 (codes "eady ") refl (behind 101 (codes "ady ") refl (behind 97 (codes "dy ") refl (behind 100 (codes "y ") refl (behind 121 (codes " ") refl (behind 32 ([]) refl nothing)))))

w_datagram : IsWithout 10 (codes "datagram ")
w_datagram = behind 100 (codes "atagram ") refl (behind 97 (codes "tagram ") refl (behind 116 (codes "agram ") refl (behind 97 (codes "gram ") refl (behind 103 (codes "ram ") refl (behind 114 (codes "am ") refl (behind 97 (codes "m ") refl (behind 109 (codes " ") refl (behind 32 ([]) refl nothing))))))))

w_full : IsWithout 10 (codes "full")
w_full = behind 102 (codes "ull") refl (behind 117 (codes "ll") refl (behind 108 (codes "l") refl (behind 108 ([]) refl nothing)))

w_spent : IsWithout 10 (codes "spent")
w_spent = behind 115 (codes "pent") refl (behind 112 (codes "ent") refl (behind 101 (codes "nt") refl (behind 110 (codes "t") refl (behind 116 ([]) refl nothing))))

w_gone : IsWithout 10 (codes "gone")
w_gone = behind 103 (codes "one") refl (behind 111 (codes "ne") refl (behind 110 (codes "e") refl (behind 101 ([]) refl nothing)))

w_no_memory : IsWithout 10 (codes "no memory")
w_no_memory = behind 110 (codes "o memory") refl (behind 111 (codes " memory") refl (behind 32 (codes "memory") refl (behind 109 (codes "emory") refl (behind 101 (codes "mory") refl (behind 109 (codes "ory") refl (behind 111 (codes "ry") refl (behind 114 (codes "y") refl (behind 121 ([]) refl nothing))))))))

w_bad_limits : IsWithout 10 (codes "bad limits")
w_bad_limits = behind 98 (codes "ad limits") refl (behind 97 (codes "d limits") refl (behind 100 (codes " limits") refl (behind 32 (codes "limits") refl (behind 108 (codes "imits") refl (behind 105 (codes "mits") refl (behind 109 (codes "its") refl (behind 105 (codes "ts") refl (behind 116 (codes "s") refl (behind 115 ([]) refl nothing)))))))))

fault_line : (fault : CoreFault) → IsLine (refusal_text fault)
fault_line Full = record { body = codes "full"; whole = refl; apart = w_full }
fault_line Spent = record { body = codes "spent"; whole = refl; apart = w_spent }
fault_line Gone = record { body = codes "gone"; whole = refl; apart = w_gone }
fault_line NoMemory = record { body = codes "no memory"; whole = refl; apart = w_no_memory }
fault_line BadLimits = record { body = codes "bad limits"; whole = refl; apart = w_bad_limits }

-- a word, and bytes
word_line : (word bytes : List ℕ) → IsWithout 10 word → IsLine (bytes_line word bytes)
word_line word bytes apart = record {
  body = word ++ hex_text bytes;
  whole = sym (append_assoc word (hex_text bytes) (10 ∷ []));
  apart = joined word (hex_text bytes) apart (hex_apart bytes);
}

-- a word, and bytes to or for a peer
to_line : (word : List ℕ) (p : Peer) (bytes : List ℕ) → IsWithout 10 word → IsLine (peer_line word p bytes)
to_line word p bytes apart = record {
  body = word ++ (peer_text p ++ 32 ∷ hex_text bytes);
  whole = ap (λ (t : List ℕ). word ++ t) (ended (peer_text p) (hex_text bytes)) ∙ sym (append_assoc word (peer_text p ++ 32 ∷ hex_text bytes) (10 ∷ []));
  apart = joined word (peer_text p ++ 32 ∷ hex_text bytes) apart (apart_pair (peer_text p) (hex_text bytes) (peer_apart p) (hex_apart bytes));
}

-- a word, and bytes to where a call came from
back_line : (word : List ℕ) (s : Source) (bytes : List ℕ) → IsWithout 10 word → IsLine (source_line word s bytes)
back_line word s bytes apart = record {
  body = word ++ (source_text s ++ 32 ∷ hex_text bytes);
  whole = ap (λ (t : List ℕ). word ++ t) (ended (source_text s) (hex_text bytes)) ∙ sym (append_assoc word (source_text s ++ 32 ∷ hex_text bytes) (10 ∷ []));
  apart = joined word (source_text s ++ 32 ∷ hex_text bytes) apart (apart_pair (source_text s) (hex_text bytes) (source_apart s) (hex_apart bytes));
}

-- a word, a number and another word
number_line : (word : List ℕ) (n : ℕ) (last : List ℕ) → IsWithout 10 word → IsWithout 10 last → IsLine (word ++ (decimal n ++ (last ++ 10 ∷ [])))
number_line word n last apart behind = record {
  body = word ++ (decimal n ++ last);
  whole = ap (λ (t : List ℕ). word ++ t) (sym (append_assoc (decimal n) last (10 ∷ []))) ∙ sym (append_assoc word (decimal n ++ last) (10 ∷ []));
  apart = joined word (decimal n ++ last) apart (joined (decimal n) last (number_apart n) behind);
}

plain_line : (word : List ℕ) → IsWithout 10 word → IsLine (word ++ 10 ∷ [])
plain_line word apart = record { body = word; whole = refl; apart = apart }

unsent_is_line : (unsent : Option UnsentCall) → IsLine (output_text (UnsentIs unsent))
unsent_is_line None = plain_line (codes "unsent -") w_unsent_none
unsent_is_line (Some unsent) =
    let tail = to_line (32 ∷ []) unsent.target unsent.call (behind 32 [] refl nothing) in
    record {
      body = codes "unsent " ++ (decimal unsent.number ++ tail.body);
      whole = ap (λ (t : List ℕ). codes "unsent " ++ t) (ap (λ (t : List ℕ). decimal unsent.number ++ t) tail.whole ∙ sym (append_assoc (decimal unsent.number) tail.body (10 ∷ [])));
      apart = joined (codes "unsent ") (decimal unsent.number ++ tail.body) w_unsent (joined (decimal unsent.number) tail.body (number_apart unsent.number) tail.apart);
    }

lost_is_line : (id : Option ℕ) → IsLine (output_text (LostIs id))
lost_is_line None = plain_line (codes "lost -") w_lost_none
lost_is_line (Some id) = number_line (codes "lost ") id [] w_lost nothing

output_line : (o : Output) → IsLine (output_text o)
output_line (Replied bytes) = word_line (codes "reply ") bytes w_reply
output_line Silent = plain_line (codes "silent") w_silent
output_line (Opened id) = number_line (codes "open ") id [] w_open nothing
output_line (Refused fault) = fault_line fault
output_line (Took n) = number_line (codes "took ") n [] w_took nothing
output_line (TookAndLost n) = number_line (codes "took ") n (codes " closed") w_took w_and_closed
output_line (IsPending bytes) = word_line (codes "pending ") bytes w_pending
output_line Done = plain_line (codes "ok") w_ok
output_line TooMuch = plain_line (codes "toomuch") w_toomuch
output_line (LostIs id) = lost_is_line id
output_line Forwarded = plain_line (codes "forwarded") w_forwarded
output_line (UnsentIs unsent) = unsent_is_line unsent
output_line Ignored = plain_line (codes "ignored") w_ignored
output_line Nothing = plain_line (codes "nothing") w_nothing
output_line (ConnectionLost id) = number_line (codes "closed ") id [] w_closed nothing
output_line (Ready id) = number_line (codes "ready ") id [] w_ready nothing
output_line (RepliedTo who bytes) = back_line (codes "datagram ") who.source bytes w_datagram

-- ---- what lines say

record Says (lines : List (List ℕ)) (events : List Event) (outputs : List Output) : Type 0 where
  good : has_bad lines ≡ false
  events_are : events ≡ flat_map event_in (map line lines)
  outputs_are : flat_map output_line_in lines ≡ map output_text outputs

-- an event, and what it gave
says_more : (front back : List ℕ) (lines : List (List ℕ)) (e : Event) (o : Output) (events : List Event) (outputs : List Output) → line front ≡ Happens e → output_line_in front ≡ [] → line back ≡ Skipped → output_line_in back ≡ output_text o ∷ [] → Says lines events outputs → Says (front ∷ back ∷ lines) (e ∷ events) (o ∷ outputs)
says_more front back lines e o events outputs happens quiet skipped said says = record {
  good = rw (happens, skipped) says.good;
  events_are = rw (happens, skipped) (ap (λ (xs : List Event). e ∷ xs) says.events_are);
  outputs_are = rw (quiet, said) (ap (λ (xs : List (List ℕ)). output_text o ∷ xs) says.outputs_are);
}

says_comment : (front : List ℕ) (lines : List (List ℕ)) (events : List Event) (outputs : List Output) → line front ≡ Skipped → output_line_in front ≡ [] → Says lines events outputs → Says (front ∷ lines) events outputs
says_comment front lines events outputs skipped quiet says = record {
  good = rw skipped says.good;
  events_are = rw skipped says.events_are;
  outputs_are = rw quiet says.outputs_are;
}

says_nothing : Says (lines_of []) [] []
unfolding lines_of line output_line_in
says_nothing = record { good = refl; events_are = refl; outputs_are = refl }

-- ---- a run

marked_line : (text : List ℕ) → IsLine text → IsLine (codes "#> " ++ text)
marked_line text l = record {
  body = codes "#> " ++ l.body;
  whole = ap (λ (t : List ℕ). codes "#> " ++ t) l.whole;
  apart = behind 35 (62 ∷ 32 ∷ l.body) refl (behind 62 (32 ∷ l.body) refl (behind 32 l.body refl l.apart));
}

marked_skipped : (body : List ℕ) → line (codes "#> " ++ body) ≡ Skipped
marked_skipped body = (skipped_say_nothing (codes "#> " ++ body)).1 (inr (codes "> " ++ body, refl))

marked_said : (body : List ℕ) → output_line_in (codes "#> " ++ body) ≡ (body ++ codes "\n") ∷ []
unfolding output_line_in
marked_said body = refl

entry_lines : (e : Event) (o : Output) (rest : List ℕ) (l : IsEventLine e) (m : IsLine (output_text o)) → lines_of (entry_text e o ++ rest) ≡ l.body ∷ (codes "#> " ++ m.body) ∷ lines_of rest
unfolding marked_line
entry_lines e o rest l m =
    ap lines_of (append_assoc (event_text e) (codes "#> " ++ output_text o) rest)
    ∙ lines_behind (event_text e) ((codes "#> " ++ output_text o) ++ rest) (record { body = l.body; whole = l.whole; apart = l.apart })
    ∙ ap (λ (ls : List (List ℕ)). l.body ∷ ls) (lines_behind (codes "#> " ++ output_text o) rest (marked_line (output_text o) m))

says_run : (s : State) (events : List Event) → AllByRecursion HasLine events → Says (lines_of (run_text s events)) events (run s events)
unfolding run_entries
says_run s [] all = says_nothing
says_run s (e ∷ events) all =
    let o : Output = (step s e).0 in
    let rest : List ℕ = run_text (step s e).1 events in
    let l : IsEventLine e = event_line e all.0 in
    let m : IsLine (output_text o) = output_line o in
    subst (λ (ls : List (List ℕ)). Says ls (e ∷ events) (run s (e ∷ events))) (sym (entry_lines e o rest l m))
    (says_more l.body (codes "#> " ++ m.body) (lines_of rest) e o events (run (step s e).1 events) (line_of l.body e l.spelled) l.quiet (marked_skipped m.body)
    (marked_said m.body ∙ ap (λ (t : List ℕ). t ∷ []) (sym m.whole)) (says_run (step s e).1 events all.1))

-- ---- its options

o_conns : IsWithout 10 (codes " --conns ")
o_conns = apart (codes " --conns ") refl

o_rows : IsWithout 10 (codes " --rows ")
o_rows = apart (codes " --rows ") refl

o_forwards : IsWithout 10 (codes " --forwards ")
o_forwards = apart (codes " --forwards ") refl

o_announce : IsWithout 10 (codes " --announce ")
o_announce = apart (codes " --announce ") refl

o_local : IsWithout 10 (codes " --local '")
o_local = apart (codes " --local '") refl

o_quote : IsWithout 10 (codes "'")
o_quote = apart (codes "'") refl

o_port : IsWithout 10 (codes " --port ")
o_port = apart (codes " --port ") refl

o_xid : IsWithout 10 (codes " --xid ")
o_xid = apart (codes " --xid ") refl

o_now : IsWithout 10 (codes " --now ")
o_now = apart (codes " --now ") refl

o_head : IsWithout 10 (codes "# rpcbind replay --check")
o_head = apart (codes "# rpcbind replay --check") refl

announce_apart : (h : Host) → IsWithout 10 (announce_text h)
announce_apart h = joined (codes " --announce ") (bare_host_text h) o_announce (bare_apart h)

inet_apart : (a : Option (List ℕ)) → IsWithout 10 (inet_text a)
inet_apart None = nothing
inet_apart (Some octets) = announce_apart (V4 octets)

inet6_apart : (a : Option (List ℕ)) → IsWithout 10 (inet6_text a)
inet6_apart None = nothing
inet6_apart (Some octets) = announce_apart (V6 octets)

path_apart : (path : List ℕ) → list_all is_quotable path ≡ true → IsWithout 10 path
path_apart [] are = nothing
path_apart (b ∷ path) are =
    let parts = and_parts _ _ are in
    let large : 32 ≤ b = leb-true 32 b (and_parts _ _ parts.0).0 in
    behind b path (ne_eqb b 10 (λ e. omega (arith, large, e))) (path_apart path parts.1)

local_apart : (a : Option (List ℕ)) → IfSome a (λ path. is_path path ≡ true) → IsWithout 10 (local_text a)
local_apart None is = nothing
local_apart (Some path) is = joined (codes " --local '") (path ++ codes "'") o_local (joined path (codes "'") (path_apart path (and_parts _ _ is).1) o_quote)

terms_apart : (terms : Terms) → IsWithout 10 (terms_text terms)
terms_apart terms = joined (lists_text terms.long_replies) (forwarding_text terms.forwarding) (lists_apart terms.long_replies) (forwarding_apart terms.forwarding)
  where
    lists_apart : (long : Bool) → IsWithout 10 (lists_text long)
    lists_apart true = nothing
    lists_apart false = apart (codes " --udp-lists local") refl

    forwarding_apart : (whom : Forwarding) → IsWithout 10 (forwarding_text whom)
    forwarding_apart Anywhere = nothing
    forwarding_apart ForAll = apart (codes " --forward-for all") refl
    forwarding_apart ForLocal = apart (codes " --forward-for local") refl

last_apart : (r : Reservation) → IsWithout 10 (last_text r)
last_apart r = by_test (r.first == r.last)
  where
    by_test : (b : Bool) → IsWithout 10 (cond b [] (codes "-" ++ decimal r.last))
    by_test true = nothing
    by_test false = joined (codes "-") (decimal r.last) (apart (codes "-") refl) (number_apart r.last)

reserve_apart : (r : Reservation) → IsWithout 10 (reserve_text r)
reserve_apart r =
    joined (codes " --reserve ") (reservation_text r) (apart (codes " --reserve ") refl)
    (joined (decimal r.first) (last_text r ++ (codes "=" ++ decimal r.uid)) (number_apart r.first)
    (joined (last_text r) (codes "=" ++ decimal r.uid) (last_apart r)
    (joined (codes "=") (decimal r.uid) (apart (codes "=") refl) (number_apart r.uid))))

reserved_apart : (reserved : List Reservation) → IsWithout 10 (reserved_text reserved)
reserved_apart [] = nothing
reserved_apart (r ∷ reserved) = joined (reserve_text r) (reserved_text reserved) (reserve_apart r) (reserved_apart reserved)

listener_apart : (listener : Listener) → HasPath listener → IsWithout 10 (listener_text listener)
listener_apart listener is =
    let terms = joined (terms_text listener.terms) (reserved_text listener.reserved) (terms_apart listener.terms) (reserved_apart listener.reserved) in
    let path = joined (local_text listener.local) (terms_text listener.terms ++ reserved_text listener.reserved) (local_apart listener.local is) terms in
    let port = joined (decimal listener.port) (local_text listener.local ++ (terms_text listener.terms ++ reserved_text listener.reserved)) (number_apart listener.port) path in
    joined (inet_text listener.announced.inet) _ (inet_apart listener.announced.inet)
    (joined (inet6_text listener.announced.inet6) _ (inet6_apart listener.announced.inet6) (joined (codes " --port ") _ o_port port))

options_line : (limits : Limits) (listener : Listener) (first_xid now : ℕ) → HasPath listener → IsLine (options_text limits listener first_xid now)
options_line limits listener first_xid now path =
    let of_limits = joined (codes " --conns ") _ o_conns (joined (decimal limits.conns) _ (number_apart limits.conns) (joined (codes " --rows ") _ o_rows (joined (decimal limits.rows) _ (number_apart limits.rows) (joined (codes " --forwards ") _ o_forwards (number_apart limits.forwards))))) in
    let of_listener = listener_apart listener path in
    let tail = joined (codes " --xid ") (decimal first_xid ++ (codes " --now " ++ decimal now)) o_xid (joined (decimal first_xid) (codes " --now " ++ decimal now) (number_apart first_xid) (joined (codes " --now ") (decimal now) o_now (number_apart now))) in
    record {
      body = codes "# rpcbind replay --check" ++ (limits_text limits ++ (listener_text listener ++ (codes " --xid " ++ (decimal first_xid ++ (codes " --now " ++ decimal now)))));
      whole = ap (λ (t : List ℕ). codes "# rpcbind replay --check" ++ t)
          (ap (λ (t : List ℕ). limits_text limits ++ t)
          (ap (λ (t : List ℕ). listener_text listener ++ t)
          (ap (λ (t : List ℕ). codes " --xid " ++ t) (sym (append_assoc (decimal first_xid) (codes " --now " ++ decimal now) (10 ∷ []))) ∙ sym (append_assoc (codes " --xid ") (decimal first_xid ++ (codes " --now " ++ decimal now)) (10 ∷ [])))
          ∙ sym (append_assoc (listener_text listener) (codes " --xid " ++ (decimal first_xid ++ (codes " --now " ++ decimal now))) (10 ∷ [])))
          ∙ sym (append_assoc (limits_text limits) (listener_text listener ++ (codes " --xid " ++ (decimal first_xid ++ (codes " --now " ++ decimal now)))) (10 ∷ [])));
      apart = joined (codes "# rpcbind replay --check") (limits_text limits ++ (listener_text listener ++ (codes " --xid " ++ (decimal first_xid ++ (codes " --now " ++ decimal now))))) o_head (joined (limits_text limits) (listener_text listener ++ (codes " --xid " ++ (decimal first_xid ++ (codes " --now " ++ decimal now)))) of_limits (joined (listener_text listener) (codes " --xid " ++ (decimal first_xid ++ (codes " --now " ++ decimal now))) of_listener tail));
    }

options_skipped : (rest : List ℕ) → line (codes "# rpcbind replay --check" ++ rest) ≡ Skipped
options_skipped rest = (skipped_say_nothing (codes "# rpcbind replay --check" ++ rest)).1 (inr (codes " rpcbind replay --check" ++ rest, refl))

options_quiet : (rest : List ℕ) → output_line_in (codes "# rpcbind replay --check" ++ rest) ≡ []
unfolding output_line_in
options_quiet rest = refl

pub records_are_read : RecordsAreRead
unfolding output_lines_in output_lines options_line
records_are_read limits listener first_xid now events path all short =
    let s : State = opening limits listener first_xid now in
    let l : IsLine (options_text limits listener first_xid now) = options_line limits listener first_xid now path in
    let text : List ℕ = options_text limits listener first_xid now ++ run_text s events in
    let says : Says (lines_of text) events (run s events) =
    subst (λ (ls : List (List ℕ)). Says ls events (run s events)) (sym (lines_behind (options_text limits listener first_xid now) (run_text s events) l))
    (says_comment l.body (lines_of (run_text s events)) events (run s events) (options_skipped _) (options_quiet _) (says_run s events all)) in
    record {
      events_are = (reads_the_events text events).1 (short, says.good, says.events_are);
      outputs_are = says.outputs_are;
    }

-- ---- a record that ended

says_first : (s : State) (events : List Event) (k : ℕ) (tail : List ℕ) → Says (lines_of tail) [] [] → AllByRecursion HasLine events → Says (lines_of (concat (take k (run_entries s events)) ++ tail)) (take k events) (run s (take k events))
unfolding run_entries
says_first s events zero tail end all = end
says_first s [] (suc k) tail end all = end
says_first s (e ∷ events) (suc k) tail end all =
    let o : Output = (step s e).0 in
    let front : List ℕ = concat (take k (run_entries (step s e).1 events)) in
    let l : IsEventLine e = event_line e all.0 in
    let m : IsLine (output_text o) = output_line o in
    subst (λ (ls : List (List ℕ)). Says ls (e ∷ take k events) (run s (e ∷ take k events)))
    (sym (ap lines_of (append_assoc (entry_text e o) front tail) ∙ entry_lines e o (front ++ tail) l m))
    (says_more l.body (codes "#> " ++ m.body) (lines_of (front ++ tail)) e o (take k events) (run (step s e).1 (take k events)) (line_of l.body e l.spelled) l.quiet (marked_skipped m.body)
    (marked_said m.body ∙ ap (λ (t : List ℕ). t ∷ []) (sym m.whole)) (says_first (step s e).1 events k tail end all.1))

abbrev ending_body : List ℕ
ending_body = codes "# the limit of this record is reached: what follows is not in it"

ending_line : IsLine last_line
ending_line = record { body = ending_body; whole = refl; apart = apart ending_body refl }

ending_skipped : line ending_body ≡ Skipped
ending_skipped = (skipped_say_nothing ending_body).1 (inr (codes " the limit of this record is reached: what follows is not in it", refl))

ending_quiet : output_line_in ending_body ≡ []
unfolding output_line_in
ending_quiet = refl

last_says : (last : List ℕ) → (last ≡ []) ⊎ (last ≡ last_line) → Says (lines_of last) [] []
unfolding ending_line
last_says last (inl is) = subst (λ (t : List ℕ). Says (lines_of t) [] []) (sym is) says_nothing
last_says last (inr is) =
    subst (λ (t : List ℕ). Says (lines_of t) [] []) (sym is)
    (subst (λ (ls : List (List ℕ)). Says ls [] []) (sym (lines_behind last_line [] ending_line))
    (says_comment ending_body (lines_of []) [] [] ending_skipped ending_quiet says_nothing))

-- with no entry at all
pub no_entries_are_read : (text last : List ℕ) → text ≡ last → (last ≡ []) ⊎ (last ≡ last_line) → length text ≤ longest_input → ReadsAs text [] []
unfolding output_lines_in output_lines
no_entries_are_read text last is ends short =
    let says : Says (lines_of text) [] [] = subst (λ (t : List ℕ). Says (lines_of t) [] []) (sym is) (last_says last ends) in
    record { events_are = (reads_the_events text []).1 (short, says.good, says.events_are); outputs_are = says.outputs_are }

pub ended_records_are_read : EndedRecordsAreRead
unfolding output_lines_in output_lines options_line
ended_records_are_read limits listener first_xid now events text k held count path all short =
    let s : State = opening limits listener first_xid now in
    let options : List ℕ = options_text limits listener first_xid now in
    let front : List ℕ = concat (take k (run_entries s events)) in
    let l : IsLine options = options_line limits listener first_xid now path in
    let is : text ≡ options ++ (front ++ held.last) =
    held.is ∙ ap (λ (n : ℕ). concat (take n (options ∷ run_entries s events)) ++ held.last) count ∙ append_assoc options front held.last in
    let says : Says (lines_of text) (take k events) (run s (take k events)) =
    subst (λ (ls : List (List ℕ)). Says ls (take k events) (run s (take k events))) (sym (ap lines_of is ∙ lines_behind options (front ++ held.last) l))
    (says_comment l.body (lines_of (front ++ held.last)) (take k events) (run s (take k events)) (options_skipped _) (options_quiet _) (says_first s events k held.last (last_says held.last held.last_is) all)) in
    record {
      events_are = (reads_the_events text (take k events)).1 (short, says.good, says.events_are);
      outputs_are = says.outputs_are;
    }
