-- Numbers one after the other, put into a buffer.
use Rattle.std.proofs.Common.{◌≡◌, ◌+◌, ◌*◌, ◌<◌, ◌≤◌, ℕ, List, [], ◌∷◌, ◌++◌, length, take, get_or, refl, sym, ap, ◌∙◌, append_assoc, append-nil, arith, length-append}
use Rattle.std.proofs.lemmas.List.{take_more, length-take}
use Rattle.std.proofs.lemmas.List.Concat.{flat_map-append}
use Rattle.rb_xdr.specs.Kept.{Kept}
use Rattle.rb_xdr.specs.Meter.{Meter, Pays}
use Rattle.rb_xdr.specs.Xdr.{number, opaque, words}
use Rattle.rb_rpc.specs.Messages.{CallHead}
use Rattle.rb_rpc.specs.CallBytes.{call_bytes}
use Rattle.rb_rpc.specs.declared.call.Credential.TheVariants as credentials
use Rattle.rb_xdr.proofs.Words.{length-number}

pub length-words : (numbers : List ℕ) → length (words numbers) ≡ 4 * length numbers
length-words [] = refl
length-words (n ∷ more) = omega (arith, length-words more, length-append (number n) (words more), length-number n)

-- one more number
words_more : (numbers : List ℕ) (i : ℕ) → i < length numbers → words (take (i + 1) numbers) ≡ words (take i numbers) ++ number (get_or numbers i 0)
words_more numbers i lt =
    ap words (take_more numbers i 0 lt) ∙ flat_map-append number (take i numbers) (get_or numbers i 0 ∷ [])
    ∙ ap (λ (xs : List ℕ). words (take i numbers) ++ xs) (append-nil (number (get_or numbers i 0)))

-- the buffer after this many of the numbers
abbrev pub with_words : Kept → List ℕ → Kept
with_words old numbers = record old { bytes = old.bytes ++ words numbers }

pub put_more : (old now new : Kept) (numbers : List ℕ) (i : ℕ) → i < length numbers → now ≡ with_words old (take i numbers)
    → new ≡ record now { bytes = now.bytes ++ number (get_or numbers i 0) } → new ≡ with_words old (take (i + 1) numbers)
put_more old now new numbers i lt was is =
    is ∙ ap (λ (k : Kept). record k { bytes = k.bytes ++ number (get_or numbers i 0) }) was
    ∙ ap (λ (xs : List ℕ). record old { bytes = xs }) (append_assoc old.bytes (words (take i numbers)) (number (get_or numbers i 0)) ∙ ap (λ (xs : List ℕ). old.bytes ++ xs) (sym (words_more numbers i lt)))

-- there is room for one more
pub room_more : (old now : Kept) (numbers : List ℕ) (i n : ℕ) → i < length numbers → now ≡ with_words old (take i numbers)
    → length old.bytes + 4 * length numbers ≤ old.cap → length now.bytes + length (number n) ≤ now.cap
room_more old now numbers i n lt was room =
    omega (arith, lt, room, ap (λ (k : Kept). length k.bytes) was, ap (λ (k : Kept). k.cap) was, length-append old.bytes (words (take i numbers)), length-words (take i numbers), length-take i numbers, length-number n)

-- what was paid, and then more
pub pays_more : (old now new : Meter) (a b c : ℕ) → Pays old now a → Pays now new b → a + b ≡ c → Pays old new c
pays_more old now new a b c first then e =
    then ∙ ap (λ (m : Meter). record m { steps = m.steps + b }) first ∙ ap (λ (n : ℕ). record old { steps = n }) (omega (arith, e))

-- the head of a call by AUTH_SYS, number by number
pub call_by_sys : (head : CallHead) (uid : ℕ) → head.cred ≡ credentials.Sys uid
    → words (head.xid ∷ 0 ∷ 2 ∷ head.prog ∷ head.vers ∷ head.proc ∷ 1 ∷ 20 ∷ 0 ∷ 0 ∷ uid ∷ 0 ∷ 0 ∷ 0 ∷ 0 ∷ []) ≡ call_bytes head
unfolding call_bytes number opaque
call_by_sys head uid is = rw is refl
