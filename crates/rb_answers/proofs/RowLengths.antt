-- What a row adds to a list of entries is short, and is written.
use Rattle.std.proofs.Common.{◌≡◌, ◌≤◌, ◌+◌, ◌++◌, ℕ, List, length, true, false, sym, ap, ◌∙◌, append_assoc, arith, rules}
use Rattle.std.specs.Prelude.{Result, Ok, Err, replicate}
use Rattle.std.proofs.lemmas.List.{length-append}
use Rattle.rb_xdr.specs.Kept.{Kept}
use Rattle.rb_xdr.specs.Puts.{Appends, HasRoom, Puts}
use Rattle.rb_xdr.specs.Xdr.{boolean, number, opaque, residue, IsContent}
use Rattle.rb_xdr.proofs.Types.{length-boolean, opaque_bounded}
use Rattle.rb_address.specs.declared.netid.Netid.{Netid}
use Rattle.rb_address.specs.declared.netid.Netid.TheVariants.{Tcp, Udp, Tcp6, Udp6, Local}
use Rattle.rb_address.specs.Netids.{netid_text}
use Rattle.rb_answers.specs.Netids.{entry_end}
use Rattle.rb_answers.specs.Results.{entry_told}
use Rattle.rb_answers.specs.ListParts.{IsShort}

entry_end_is_short : (netid : Netid) → length (entry_end netid) ≤ 36
unfolding opaque number
entry_end_is_short Tcp = omega arith
entry_end_is_short Udp = omega arith
entry_end_is_short Tcp6 = omega arith
entry_end_is_short Udp6 = omega arith
entry_end_is_short Local = omega arith

pub entry_told_length : (text : List ℕ) (netid : Netid) → length (entry_told text netid) ≡ 4 + length (opaque text) + length (entry_end netid)
entry_told_length text netid =
    omega (arith, length-append (boolean true) (opaque text ++ entry_end netid), length-append (opaque text) (entry_end netid), length-boolean true)

pub entry_is_short : (text : List ℕ) (netid : Netid) → IsContent 128 text → IsShort (entry_told text netid)
entry_is_short text netid content =
    omega (arith, entry_told_length text netid, opaque_bounded 128 text content, entry_end_is_short netid)

-- what fits is put
put_whole : {A E : Type 0} (bytes : List ℕ) (limit : ℕ) (old new : Kept) (result : Result A E) → Puts bytes limit old new result → length old.bytes + length bytes ≤ limit → Appends bytes old new
put_whole bytes limit old new (Ok v) puts fits = puts.ok
put_whole bytes limit old new (Err e) puts fits = let clash : false ≡ true = puts.room.1 fits in absurd (cc)

joined : (t n x z e : List ℕ) → (t ++ n) ++ (x ++ (z ++ e)) ≡ t ++ (((n ++ x) ++ z) ++ e)
joined t n x z e = append_assoc t n (x ++ (z ++ e)) ∙ ap (λ (xs : List ℕ). t ++ xs) (sym (append_assoc (n ++ x) z e ∙ append_assoc n x (z ++ e)))

-- an entry is written in three pieces: before its address, the address, and after it
module _ (text : List ℕ) (netid : Netid) where
  abbrev head : List ℕ
  head = boolean true ++ number (length text)

  abbrev tail : List ℕ
  tail = replicate (residue (length text)) 0 ++ entry_end netid

  pieces : head ++ (text ++ tail) ≡ entry_told text netid
  unfolding opaque
  pieces = joined (boolean true) (number (length text)) text (replicate (residue (length text)) 0) (entry_end netid)

  pub pieces_size : length (entry_told text netid) ≡ length head + length text + length tail
  pieces_size =
      omega (arith, ap (λ (xs : List ℕ). length xs) pieces, length-append head (text ++ tail), length-append text tail)

  module _ (content : IsContent 128 text) (old : Kept) (fits : IsShort (entry_told text netid) → HasRoom (entry_told text netid) old) where
    all_fit : length old.bytes + length head + length text + length tail ≤ old.cap
    all_fit = omega (arith, fits (entry_is_short text netid content), pieces_size)

    pub entry_written : {A E : Type 0} (first second new : Kept) (one two three : Result A E) → Puts head old.cap old first one → Puts text first.cap first second two → Puts tail second.cap second new three → Appends (entry_told text netid) old new
    entry_written first second new one two three before address behind =
        let put_head = put_whole head old.cap old first one before (omega (arith, all_fit)) in
        let size_head : length first.bytes ≡ length old.bytes + length head = ap (λ (k : Kept). length k.bytes) put_head ∙ length-append old.bytes head in
        let put_text = put_whole text first.cap first second two address (omega (arith, all_fit, size_head, before.cap)) in
        let size_text : length second.bytes ≡ length first.bytes + length text = ap (λ (k : Kept). length k.bytes) put_text ∙ length-append first.bytes text in
        let put_tail = put_whole tail second.cap second new three behind (omega (arith, all_fit, size_head, size_text, before.cap, address.cap)) in
        put_tail
        ∙ ap (λ (k : Kept). record k { bytes = k.bytes ++ tail }) (put_text ∙ ap (λ (k : Kept). record k { bytes = k.bytes ++ text }) put_head)
        ∙ ap (λ (xs : List ℕ). record old { bytes = xs })
        (append_assoc (old.bytes ++ head) text tail ∙ append_assoc old.bytes head (text ++ tail) ∙ ap (λ (xs : List ℕ). old.bytes ++ xs) pieces)

pub netid_is_content : (netid : Netid) → IsContent 32 (netid_text netid)
netid_is_content Tcp = search rules
netid_is_content Udp = search rules
netid_is_content Tcp6 = search rules
netid_is_content Udp6 = search rules
netid_is_content Local = search rules
