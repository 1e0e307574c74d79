-- Event lines, and what they are spelled from.
use Rattle.std.specs.Prelude.{codes, bytes_eq}
use Rattle.std.specs.List.{list_all}
use Rattle.std.specs.Option.{option_map}
use Rattle.std.proofs.Common.{◌≡◌, ◌^◌, ℕ, Bool, true, false, not, cond, eqb, List, [], ◌∷◌, ◌++◌, length, get_or, Option, Some, None, refl, sym, ap, subst, ◌∙◌, arith, inl, inr}
use Rattle.std.proofs.lemmas.Bool.{and_parts, eqb-true, ne_eqb, not-true, or_cases, or_right}
use Rattle.std.proofs.lemmas.List.{nil_from_length}
use Rattle.std.proofs.lemmas.List.Elements.{All-nil, All-cons}
use Rattle.std.proofs.lemmas.Option.{none-some, same_Some}
use Rattle.std.proofs.lemmas.Slice.Eq.{bytes_eq-Decides}
use Rattle.rb_address.specs.declared.peer.Peer.{Peer}
use Rattle.rb_address.specs.declared.who.Who.{Who}
use Rattle.rb_address.specs.Reading.{cut, number_below, peer, SpellsPeer}
use Rattle.rb_address.specs.CallerTexts.{who, SpellsWho}
use Rattle.rb_address.proofs.HostTexts.{IsWithout}
use Rattle.rb_address.proofs.Words.{bound, cut_at, cut_is, numeral_without, peer_is, peer_of}
use Rattle.rb_address.proofs.CallerWords.{peer_without, who_without, who_is, who_of}
use Rattle.rb_model.specs.Step.{Event}
use Rattle.rb_model.specs.Step.Event.{Datagram, Open, Bytes, Pending, Gave, Closed, NextLost, Unsent, Sent, Forward, Expire, ZeroStats}
use Rattle.rb_lines.specs.Fields.{hex_bytes}
use Rattle.rb_lines.specs.Lines.{datagram_line, forward_line, open_line, bytes_line, gave_line, event, lone_event, event_of_parts, Line, happens_or_bad, line}
use Rattle.rb_lines.specs.Lines.Line.{Skipped, Happens, Bad}
use Rattle.rb_lines.specs.LineGrammar.{Spells, SpellsNumber, SpellsHex, IsSpaced, ◌␣◌, SpellsEvent, SaysNothing, EventsAreSpelled, SkippedSayNothing, BadSpellNothing}
use Rattle.rb_lines.proofs.Words.{number_is, number_of}
use Rattle.rb_lines.proofs.HexWords.{hex_is, hex_of}

-- ---- spaces

spaced : (Front Back : List ℕ → Type 0) (text front back : List ℕ) → cut 32 text ≡ Some (front, back) → Front front → Back back → (Front ␣ Back) text
spaced Front Back text front back is f b = record { front = front; back = back; in_front = f; behind = b; text_is = cut_is 32 text front back is }

worded : (word text : List ℕ) (Back : List ℕ → Type 0) → Back text → (Spells word ␣ Back) (word ++ 32 ∷ text)
worded word text Back b = record { front = word; back = text; in_front = refl; behind = b; text_is = refl }

cut_spaced : (Front Back : List ℕ → Type 0) (text : List ℕ) (s : IsSpaced Front Back text) → IsWithout 32 s.front → cut 32 text ≡ Some (s.front, s.back)
cut_spaced Front Back text s none = ap (cut 32) s.text_is ∙ cut_at 32 s.front s.back none

number_apart : (n : ℕ) (text : List ℕ) → SpellsNumber n text → IsWithout 32 text
number_apart n text s = numeral_without 32 text s.digits.1 (λ l h. omega arith)

peer_apart : (p : Peer) (text : List ℕ) → SpellsPeer p text → IsWithout 32 text
peer_apart p text s = subst (IsWithout 32) (sym s.text_is) (peer_without 32 (omega arith) p s.is_peer)

who_apart : (w : Who) (text : List ℕ) → SpellsWho w text → IsWithout 32 text
who_apart w text s = subst (IsWithout 32) (sym s.text_is) (who_without 32 (omega arith) w s.is_who)

-- ---- what follows the first word

open_is : (text : List ℕ) (e : Event) → open_line text ≡ Some e → SpellsEvent e (codes "open" ++ 32 ∷ text)
unfolding open_line
open_is text e h =
    let (parts, is_cut, rest1) = bound (cut 32 text) _ e h in
    let (now, is_now, rest2) = bound (number_below (2 ^ 64) parts.0) _ e rest1 in
    let (from, is_from, rest3) = bound (who parts.1) _ e rest2 in
    let tail = spaced (SpellsNumber now) (SpellsWho from) text parts.0 parts.1 is_cut (number_is parts.0 now is_now) (who_is parts.1 from is_from) in
    subst (λ (e : Event). SpellsEvent e (codes "open" ++ 32 ∷ text)) (same_Some _ _ rest3) (worded (codes "open") text (SpellsNumber now ␣ SpellsWho from) tail)

datagram_is : (text : List ℕ) (e : Event) → datagram_line text ≡ Some e → SpellsEvent e (codes "datagram" ++ 32 ∷ text)
unfolding datagram_line
datagram_is text e h =
    let (first, cut1, rest1) = bound (cut 32 text) _ e h in
    let (second, cut2, rest2) = bound (cut 32 first.1) _ e rest1 in
    let (now, is_now, rest3) = bound (number_below (2 ^ 64) first.0) _ e rest2 in
    let (from, is_from, rest4) = bound (who second.0) _ e rest3 in
    let (bytes, is_bytes, rest5) = bound (hex_bytes second.1) _ e rest4 in
    let last = spaced (SpellsWho from) (SpellsHex bytes) first.1 second.0 second.1 cut2 (who_is second.0 from is_from) (hex_is second.1 bytes is_bytes) in
    let tail = spaced (SpellsNumber now) (SpellsWho from ␣ SpellsHex bytes) text first.0 first.1 cut1 (number_is first.0 now is_now) last in
    subst (λ (e : Event). SpellsEvent e (codes "datagram" ++ 32 ∷ text)) (same_Some _ _ rest5) (worded (codes "datagram") text (SpellsNumber now ␣ SpellsWho from ␣ SpellsHex bytes) tail)

forward_is : (text : List ℕ) (e : Event) → forward_line text ≡ Some e → SpellsEvent e (codes "forward" ++ 32 ∷ text)
unfolding forward_line
forward_is text e h =
    let (first, cut1, rest1) = bound (cut 32 text) _ e h in
    let (second, cut2, rest2) = bound (cut 32 first.1) _ e rest1 in
    let (now, is_now, rest3) = bound (number_below (2 ^ 64) first.0) _ e rest2 in
    let (from, is_from, rest4) = bound (peer second.0) _ e rest3 in
    let (bytes, is_bytes, rest5) = bound (hex_bytes second.1) _ e rest4 in
    let last = spaced (SpellsPeer from) (SpellsHex bytes) first.1 second.0 second.1 cut2 (peer_is second.0 from is_from) (hex_is second.1 bytes is_bytes) in
    let tail = spaced (SpellsNumber now) (SpellsPeer from ␣ SpellsHex bytes) text first.0 first.1 cut1 (number_is first.0 now is_now) last in
    subst (λ (e : Event). SpellsEvent e (codes "forward" ++ 32 ∷ text)) (same_Some _ _ rest5) (worded (codes "forward") text (SpellsNumber now ␣ SpellsPeer from ␣ SpellsHex bytes) tail)

bytes_is : (text : List ℕ) (e : Event) → bytes_line text ≡ Some e → SpellsEvent e (codes "bytes" ++ 32 ∷ text)
unfolding bytes_line
bytes_is text e h =
    let (first, cut1, rest1) = bound (cut 32 text) _ e h in
    let (second, cut2, rest2) = bound (cut 32 first.1) _ e rest1 in
    let (now, is_now, rest3) = bound (number_below (2 ^ 64) first.0) _ e rest2 in
    let (id, is_id, rest4) = bound (number_below (2 ^ 64) second.0) _ e rest3 in
    let (bytes, is_bytes, rest5) = bound (hex_bytes second.1) _ e rest4 in
    let last = spaced (SpellsNumber id) (SpellsHex bytes) first.1 second.0 second.1 cut2 (number_is second.0 id is_id) (hex_is second.1 bytes is_bytes) in
    let tail = spaced (SpellsNumber now) (SpellsNumber id ␣ SpellsHex bytes) text first.0 first.1 cut1 (number_is first.0 now is_now) last in
    subst (λ (e : Event). SpellsEvent e (codes "bytes" ++ 32 ∷ text)) (same_Some _ _ rest5) (worded (codes "bytes") text (SpellsNumber now ␣ SpellsNumber id ␣ SpellsHex bytes) tail)

gave_is : (text : List ℕ) (e : Event) → gave_line text ≡ Some e → SpellsEvent e (codes "gave" ++ 32 ∷ text)
unfolding gave_line
gave_is text e h =
    let (first, cut1, rest1) = bound (cut 32 text) _ e h in
    let (second, cut2, rest2) = bound (cut 32 first.1) _ e rest1 in
    let (now, is_now, rest3) = bound (number_below (2 ^ 64) first.0) _ e rest2 in
    let (id, is_id, rest4) = bound (number_below (2 ^ 64) second.0) _ e rest3 in
    let (n, is_n, rest5) = bound (number_below (2 ^ 64) second.1) _ e rest4 in
    let last = spaced (SpellsNumber id) (SpellsNumber n) first.1 second.0 second.1 cut2 (number_is second.0 id is_id) (number_is second.1 n is_n) in
    let tail = spaced (SpellsNumber now) (SpellsNumber id ␣ SpellsNumber n) text first.0 first.1 cut1 (number_is first.0 now is_now) last in
    subst (λ (e : Event). SpellsEvent e (codes "gave" ++ 32 ∷ text)) (same_Some _ _ rest5) (worded (codes "gave") text (SpellsNumber now ␣ SpellsNumber id ␣ SpellsNumber n) tail)

mapped : (make : ℕ → Event) (o : Option ℕ) (e : Event) → option_map make o ≡ Some e → (n : ℕ) × (o ≡ Some n) × (make n ≡ e)
mapped make (Some n) e h = (n, refl, same_Some _ _ h)
mapped make None e h = absurd (none-some e h)

pending_is : (text : List ℕ) (e : Event) → option_map Pending (number_below (2 ^ 64) text) ≡ Some e → SpellsEvent e (codes "pending" ++ 32 ∷ text)
pending_is text e h =
    let (id, is_id, made) = mapped Pending _ e h in
    subst (λ (e : Event). SpellsEvent e (codes "pending" ++ 32 ∷ text)) made (worded (codes "pending") text (SpellsNumber id) (number_is text id is_id))

closed_is : (text : List ℕ) (e : Event) → option_map Closed (number_below (2 ^ 64) text) ≡ Some e → SpellsEvent e (codes "closed" ++ 32 ∷ text)
closed_is text e h =
    let (id, is_id, made) = mapped Closed _ e h in
    subst (λ (e : Event). SpellsEvent e (codes "closed" ++ 32 ∷ text)) made (worded (codes "closed") text (SpellsNumber id) (number_is text id is_id))

sent_is : (text : List ℕ) (e : Event) → option_map Sent (number_below (2 ^ 64) text) ≡ Some e → SpellsEvent e (codes "sent" ++ 32 ∷ text)
sent_is text e h =
    let (id, is_id, made) = mapped Sent _ e h in
    subst (λ (e : Event). SpellsEvent e (codes "sent" ++ 32 ∷ text)) made (worded (codes "sent") text (SpellsNumber id) (number_is text id is_id))

expire_is : (text : List ℕ) (e : Event) → option_map Expire (number_below (2 ^ 64) text) ≡ Some e → SpellsEvent e (codes "expire" ++ 32 ∷ text)
expire_is text e h =
    let (now, is_now, made) = mapped Expire _ e h in
    subst (λ (e : Event). SpellsEvent e (codes "expire" ++ 32 ∷ text)) made (worded (codes "expire") text (SpellsNumber now) (number_is text now is_now))

-- ---- the first word

named : (word text name : List ℕ) (e : Event) → bytes_eq word name ≡ true → SpellsEvent e (name ++ 32 ∷ text) → SpellsEvent e (word ++ 32 ∷ text)
named word text name e same s = subst (λ (w : List ℕ). SpellsEvent e (w ++ 32 ∷ text)) (sym ((bytes_eq-Decides word name).0 same)) s

else_word : (b : Bool) (x y : Option Event) (e : Event) (P : Type 0) → cond b x y ≡ Some e → (b ≡ true → x ≡ Some e → P) → (y ≡ Some e → P) → P
else_word true x y e P h found other = found refl h
else_word false x y e P h found other = other h

pub event_is : (word text : List ℕ) (e : Event) → event word text ≡ Some e → SpellsEvent e (word ++ 32 ∷ text)
unfolding event
event_is word text e h =
    let P : Type 0 = SpellsEvent e (word ++ 32 ∷ text) in
    else_word (bytes_eq word (codes "datagram")) (datagram_line text) _ e P h (λ same is. named word text (codes "datagram") e same (datagram_is text e is)) (λ h1.
    else_word (bytes_eq word (codes "open")) (open_line text) _ e P h1 (λ same is. named word text (codes "open") e same (open_is text e is)) (λ h2.
    else_word (bytes_eq word (codes "bytes")) (bytes_line text) _ e P h2 (λ same is. named word text (codes "bytes") e same (bytes_is text e is)) (λ h3.
    else_word (bytes_eq word (codes "pending")) (option_map Pending (number_below (2 ^ 64) text)) _ e P h3 (λ same is. named word text (codes "pending") e same (pending_is text e is)) (λ h4.
    else_word (bytes_eq word (codes "gave")) (gave_line text) _ e P h4 (λ same is. named word text (codes "gave") e same (gave_is text e is)) (λ h5.
    else_word (bytes_eq word (codes "closed")) (option_map Closed (number_below (2 ^ 64) text)) _ e P h5 (λ same is. named word text (codes "closed") e same (closed_is text e is)) (λ h6.
    else_word (bytes_eq word (codes "sent")) (option_map Sent (number_below (2 ^ 64) text)) _ e P h6 (λ same is. named word text (codes "sent") e same (sent_is text e is)) (λ h7.
    else_word (bytes_eq word (codes "forward")) (forward_line text) _ e P h7 (λ same is. named word text (codes "forward") e same (forward_is text e is)) (λ h8.
    else_word (bytes_eq word (codes "expire")) (option_map Expire (number_below (2 ^ 64) text)) None e P h8 (λ same is. named word text (codes "expire") e same (expire_is text e is)) (λ h9.
    absurd (none-some e h9))))))))))

lone_is : (text : List ℕ) (e : Event) → lone_event text ≡ Some e → SpellsEvent e text
unfolding lone_event
lone_is text e h =
    else_word (bytes_eq text (codes "lost")) (Some NextLost) _ e (SpellsEvent e text) h
    (λ same is. subst (λ (e : Event). SpellsEvent e text) (same_Some _ _ is) ((bytes_eq-Decides text (codes "lost")).0 same)) (λ other.
    else_word (bytes_eq text (codes "unsent")) (Some Unsent) _ e (SpellsEvent e text) other
    (λ same is. subst (λ (e : Event). SpellsEvent e text) (same_Some _ _ is) ((bytes_eq-Decides text (codes "unsent")).0 same)) (λ another.
    else_word (bytes_eq text (codes "zero")) (Some ZeroStats) None e (SpellsEvent e text) another
    (λ same is. subst (λ (e : Event). SpellsEvent e text) (same_Some _ _ is) ((bytes_eq-Decides text (codes "zero")).0 same))
    (λ none. absurd (none-some e none))))

parts_are : (text : List ℕ) (o : Option (List ℕ × List ℕ)) (e : Event) → cut 32 text ≡ o → event_of_parts text o ≡ Some e → SpellsEvent e text
parts_are text None e is h = lone_is text e h
parts_are text (Some parts) e is h = subst (SpellsEvent e) (sym (cut_is 32 text parts.0 parts.1 is)) (event_is parts.0 parts.1 e h)

says_event : (b : Bool) (o : Option Event) (e : Event) → cond b Skipped (happens_or_bad o) ≡ Happens e → o ≡ Some e
says_event true o e h = cc h
says_event false None e h = cc h
says_event false (Some x) e h = cc h

pub line_is : (text : List ℕ) (e : Event) → line text ≡ Happens e → SpellsEvent e text
unfolding line
line_is text e h = parts_are text (cut 32 text) e refl (says_event _ _ e h)

-- ---- what is spelled is read

without_space : (text : List ℕ) → list_all (λ b. not (eqb b 32)) text ≡ true → IsWithout 32 text
without_space [] h = All-nil (λ b. eqb b 32 ≡ false)
without_space (b ∷ text) h = let parts = and_parts _ _ h in All-cons (λ b. eqb b 32 ≡ false) b text (not-true _ parts.0) (without_space text parts.1)

-- a line that begins with another byte than `#` says what its parts say
said : (c : ℕ) (text : List ℕ) (o : Option (List ℕ × List ℕ)) → eqb c 35 ≡ false → cut 32 (c ∷ text) ≡ o → line (c ∷ text) ≡ happens_or_bad (event_of_parts (c ∷ text) o)
unfolding line
said c text o other is =
    let some : eqb (length (c ∷ text)) 0 ≡ false = ne_eqb (length (c ∷ text)) 0 (λ e. omega (arith, e)) in
    rw (some, other, is) refl

said_word : (c : ℕ) (word back : List ℕ) (e : Event) → eqb c 35 ≡ false → list_all (λ b. not (eqb b 32)) (c ∷ word) ≡ true → event (c ∷ word) back ≡ Some e → line ((c ∷ word) ++ 32 ∷ back) ≡ Happens e
said_word c word back e other apart is =
    said c (word ++ 32 ∷ back) (Some (c ∷ word, back)) other (cut_at 32 (c ∷ word) back (without_space (c ∷ word) apart)) ∙ ap happens_or_bad is

open_reads : (text front back : List ℕ) (now : ℕ) (from : Who) → cut 32 text ≡ Some (front, back) → number_below (2 ^ 64) front ≡ Some now → who back ≡ Some from → open_line text ≡ Some (Open now from)
unfolding open_line
open_reads text front back now from is a b = rw (is, a, b) refl

datagram_reads : (text front rest middle back : List ℕ) (now : ℕ) (from : Who) (bytes : List ℕ) → cut 32 text ≡ Some (front, rest) → cut 32 rest ≡ Some (middle, back)
    → number_below (2 ^ 64) front ≡ Some now → who middle ≡ Some from → hex_bytes back ≡ Some bytes → datagram_line text ≡ Some (Datagram now from bytes)
unfolding datagram_line
datagram_reads text front rest middle back now from bytes cut1 cut2 a b c = rw (cut1, cut2, a, b, c) refl

forward_reads : (text front rest middle back : List ℕ) (now : ℕ) (from : Peer) (bytes : List ℕ) → cut 32 text ≡ Some (front, rest) → cut 32 rest ≡ Some (middle, back)
    → number_below (2 ^ 64) front ≡ Some now → peer middle ≡ Some from → hex_bytes back ≡ Some bytes → forward_line text ≡ Some (Forward now from bytes)
unfolding forward_line
forward_reads text front rest middle back now from bytes cut1 cut2 a b c = rw (cut1, cut2, a, b, c) refl

bytes_reads : (text front rest middle back : List ℕ) (now id : ℕ) (bytes : List ℕ) → cut 32 text ≡ Some (front, rest) → cut 32 rest ≡ Some (middle, back)
    → number_below (2 ^ 64) front ≡ Some now → number_below (2 ^ 64) middle ≡ Some id → hex_bytes back ≡ Some bytes → bytes_line text ≡ Some (Bytes now id bytes)
unfolding bytes_line
bytes_reads text front rest middle back now id bytes cut1 cut2 a b c = rw (cut1, cut2, a, b, c) refl

gave_reads : (text front rest middle back : List ℕ) (now id n : ℕ) → cut 32 text ≡ Some (front, rest) → cut 32 rest ≡ Some (middle, back)
    → number_below (2 ^ 64) front ≡ Some now → number_below (2 ^ 64) middle ≡ Some id → number_below (2 ^ 64) back ≡ Some n → gave_line text ≡ Some (Gave now id n)
unfolding gave_line
gave_reads text front rest middle back now id n cut1 cut2 a b c = rw (cut1, cut2, a, b, c) refl

named_line : (word text back : List ℕ) (e : Event) (front : List ℕ) → text ≡ front ++ 32 ∷ back → front ≡ word → line (word ++ 32 ∷ back) ≡ Happens e → line text ≡ Happens e
named_line word text back e front is same h = rw (is, same) h

pub line_of : (text : List ℕ) (e : Event) → SpellsEvent e text → line text ≡ Happens e
unfolding event line cut lone_event
line_of text (Open now from) s =
    let t = s.behind in
    let is = open_reads s.back t.front t.back now from (cut_spaced (SpellsNumber now) (SpellsWho from) s.back t (number_apart now t.front t.in_front)) (number_of t.front now t.in_front) (who_of t.back from t.behind) in
    named_line (codes "open") text s.back (Open now from) s.front s.text_is s.in_front (said_word 111 (codes "pen") s.back (Open now from) refl refl is)
line_of text (Bytes now id bytes) s =
    let t = s.behind in
    let u = t.behind in
    let is = bytes_reads s.back t.front t.back u.front u.back now id bytes (cut_spaced (SpellsNumber now) (SpellsNumber id ␣ SpellsHex bytes) s.back t (number_apart now t.front t.in_front))
    (cut_spaced (SpellsNumber id) (SpellsHex bytes) t.back u (number_apart id u.front u.in_front)) (number_of t.front now t.in_front) (number_of u.front id u.in_front) (hex_of u.back bytes u.behind) in
    named_line (codes "bytes") text s.back (Bytes now id bytes) s.front s.text_is s.in_front (said_word 98 (codes "ytes") s.back (Bytes now id bytes) refl refl is)
line_of text (Pending id) s =
    let is = ap (option_map Pending) (number_of s.back id s.behind) in
    named_line (codes "pending") text s.back (Pending id) s.front s.text_is s.in_front (said_word 112 (codes "ending") s.back (Pending id) refl refl is)
line_of text (Gave now id n) s =
    let t = s.behind in
    let u = t.behind in
    let is = gave_reads s.back t.front t.back u.front u.back now id n (cut_spaced (SpellsNumber now) (SpellsNumber id ␣ SpellsNumber n) s.back t (number_apart now t.front t.in_front))
    (cut_spaced (SpellsNumber id) (SpellsNumber n) t.back u (number_apart id u.front u.in_front)) (number_of t.front now t.in_front) (number_of u.front id u.in_front) (number_of u.back n u.behind) in
    named_line (codes "gave") text s.back (Gave now id n) s.front s.text_is s.in_front (said_word 103 (codes "ave") s.back (Gave now id n) refl refl is)
line_of text (Closed id) s =
    let is = ap (option_map Closed) (number_of s.back id s.behind) in
    named_line (codes "closed") text s.back (Closed id) s.front s.text_is s.in_front (said_word 99 (codes "losed") s.back (Closed id) refl refl is)
line_of text NextLost s = ap line s
line_of text (Datagram now from bytes) s =
    let t = s.behind in
    let u = t.behind in
    let is = datagram_reads s.back t.front t.back u.front u.back now from bytes (cut_spaced (SpellsNumber now) (SpellsWho from ␣ SpellsHex bytes) s.back t (number_apart now t.front t.in_front))
    (cut_spaced (SpellsWho from) (SpellsHex bytes) t.back u (who_apart from u.front u.in_front)) (number_of t.front now t.in_front) (who_of u.front from u.in_front) (hex_of u.back bytes u.behind) in
    named_line (codes "datagram") text s.back (Datagram now from bytes) s.front s.text_is s.in_front (said_word 100 (codes "atagram") s.back (Datagram now from bytes) refl refl is)
line_of text Unsent s = ap line s
line_of text (Sent id) s =
    let is = ap (option_map Sent) (number_of s.back id s.behind) in
    named_line (codes "sent") text s.back (Sent id) s.front s.text_is s.in_front (said_word 115 (codes "ent") s.back (Sent id) refl refl is)
line_of text (Forward now from bytes) s =
    let t = s.behind in
    let u = t.behind in
    let is = forward_reads s.back t.front t.back u.front u.back now from bytes (cut_spaced (SpellsNumber now) (SpellsPeer from ␣ SpellsHex bytes) s.back t (number_apart now t.front t.in_front))
    (cut_spaced (SpellsPeer from) (SpellsHex bytes) t.back u (peer_apart from u.front u.in_front)) (number_of t.front now t.in_front) (peer_of u.front from u.in_front) (hex_of u.back bytes u.behind) in
    named_line (codes "forward") text s.back (Forward now from bytes) s.front s.text_is s.in_front (said_word 102 (codes "orward") s.back (Forward now from bytes) refl refl is)
line_of text (Expire now) s =
    let is = ap (option_map Expire) (number_of s.back now s.behind) in
    named_line (codes "expire") text s.back (Expire now) s.front s.text_is s.in_front (said_word 101 (codes "xpire") s.back (Expire now) refl refl is)
line_of text ZeroStats s = ap line s

-- ---- lines that say nothing, and bad ones

says_nothing : (b : Bool) (o : Option Event) → cond b Skipped (happens_or_bad o) ≡ Skipped → b ≡ true
says_nothing true o h = refl
says_nothing false None h = cc h
says_nothing false (Some x) h = cc h

begins : (text : List ℕ) → eqb (get_or text 0 0) 35 ≡ true → SaysNothing text
begins [] h = inl refl
begins (c ∷ text) h = inr (text, ap (λ (c : ℕ). c ∷ text) (eqb-true c 35 h))

skipped_is : (text : List ℕ) → line text ≡ Skipped → SaysNothing text
unfolding line
skipped_is text h = elim (or_cases (eqb (length text) 0) (eqb (get_or text 0 0) 35) (says_nothing _ _ h)) [
  | inl empty ↦ inl (nil_from_length text (eqb-true (length text) 0 empty))
  | inr mark ↦ begins text mark
]

skipped_of : (text : List ℕ) → SaysNothing text → line text ≡ Skipped
unfolding line
skipped_of text s = elim s [
  | inl empty ↦ ap line empty
  | inr marked ↦ ap line marked.1 ∙ rw (or_right (eqb (length (35 ∷ marked.0)) 0) true refl) refl
]

not_skipped : (said : Line) → said ≡ Bad → said ≡ Skipped → ⊥
not_skipped said h k = cc

not_event : (said : Line) (e : Event) → said ≡ Bad → said ≡ Happens e → ⊥
not_event said e h k = cc

bad_else : (said : Line) → (said ≡ Skipped → ⊥) → ((e : Event) → said ≡ Happens e → ⊥) → said ≡ Bad
bad_else Skipped skip happens = absurd (skip refl)
bad_else (Happens e) skip happens = absurd (happens e refl)
bad_else Bad skip happens = refl

pub events_are_spelled : EventsAreSpelled
events_are_spelled text e = (line_is text e, line_of text e)

pub skipped_say_nothing : SkippedSayNothing
skipped_say_nothing text = (skipped_is text, skipped_of text)

pub bad_spell_nothing : BadSpellNothing
bad_spell_nothing text = (
  λ h. (λ s. not_skipped (line text) h (skipped_of text s), λ e s. not_event (line text) e h (line_of text e s)),
  λ h. bad_else (line text) (λ k. h.0 (skipped_is text k)) (λ e k. h.1 e (line_is text e k)),
)
