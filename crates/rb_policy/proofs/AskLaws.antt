-- A call that changes rows passes the look at the bytes of its record, however they are cut.
use Rattle.std.proofs.Common.{◌≡◌, ◌<◌, ◌≤◌, ◌+◌, ◌-◌, ◌%◌, ◌^◌, ℕ, Bool, true, false, cond, ltb, eqb, ◌&&◌, ◌||◌, Some, None, List, [], ◌∷◌, ◌++◌, length, take, drop, refl, sym, ap, ◌∙◌, arith, append_assoc}
use Rattle.std.proofs.lemmas.Bool.{ltb-false}
use Rattle.std.proofs.lemmas.Bool.Decides.{nat_tests}
use Rattle.std.proofs.lemmas.List.{length-append, length-drop, length-take, take-take, take-append-le, drop-append-le, drop-take, drop_at, drop-drop}
use Rattle.std.proofs.lemmas.Grind.{common_steps}
use Rattle.std.specs.Int.{w32, from_be_bytes}
use Rattle.rb_xdr.specs.Xdr.{number_at, word}
use Rattle.rb_xdr.proofs.Words.{length-number, number_at-number}
use Rattle.rb_rpc.specs.declared.call.CallHead.{CallHead}
use Rattle.rb_rpc.specs.Records.{Fragment, fragment_header, marking, markings, is_last, is_cut}
use Rattle.rb_rpc.specs.RecordLaws.{is_empty, AreFragments, joined_data}
use Rattle.rb_rpc.specs.declared.call.Verdict.{Verdict}
use Rattle.rb_rpc.specs.Verdict.{verdict, head_of}
use Rattle.rb_rpc.specs.declared.call.Verdict.TheVariants.{NoCall, RpcMismatch, AuthError, Call}
use Rattle.rb_policy.specs.declared.asks.Held.TheVariants.{Part}
use Rattle.rb_policy.specs.Asks.{changes, has_short_fragment, may_change, asks_for_owner, ChangesWait, held_by, held_in, PartsAreNotWhole}

-- ---- the head

abbrev is_a_call : Verdict → Bool
is_a_call NoCall = false
is_a_call (RpcMismatch xid) = false
is_a_call (AuthError xid stat) = false
is_a_call (Call head place) = true

abbrev head_in : CallHead → Verdict → CallHead
head_in other NoCall = other
head_in other (RpcMismatch xid) = other
head_in other (AuthError xid stat) = other
head_in other (Call head place) = head

false_is_true : false ≡ true → ⊥
false_is_true is = cc

past : (b : Bool) (v w : Verdict) (head : CallHead) (place : ℕ) → is_a_call v ≡ false → cond b v w ≡ Call head place → w ≡ Call head place
past true v w head place none is = absurd (false_is_true (sym none ∙ ap is_a_call is))
past false v w head place none is = is

head_is : (content : List ℕ) (head : CallHead) (place : ℕ) → verdict content ≡ Call head place → head_of content ≡ head
unfolding verdict
head_is content head place is = grind (arith, common_steps)

-- ---- the words

-- a front that is long enough has the same four bytes at a place
front_four : (place came : ℕ) (text : List ℕ) → place + 4 ≤ came → take 4 (drop place (take came text)) ≡ take 4 (drop place text)
front_four place came text enough =
    ap (λ (n : ℕ). take 4 (drop place (take n text))) (omega (arith, enough))
    ∙ ap (take 4) (drop-take place (came - place) text)
    ∙ take-take 4 (came - place) (drop place text) (omega (arith, enough))

-- and so has what stands in front of something
same_four : (place : ℕ) (front more : List ℕ) → place + 4 ≤ length front → take 4 (drop place (front ++ more)) ≡ take 4 (drop place front)
same_four place front more enough =
    ap (take 4) (drop-append-le place front more (omega (arith, enough)))
    ∙ take-append-le 4 (drop place front) more (omega (arith, enough, length-drop place front))

-- a word of the first fragment, behind its header, is that of the data
same_word : (place came : ℕ) (header content data_more text_more : List ℕ) → length header ≡ 4 → place + 4 ≤ length content → place + 8 ≤ came
    → number_at (4 + place) (take came (header ++ (content ++ text_more))) ≡ number_at place (content ++ data_more)
unfolding number_at
same_word place came header content data_more text_more four within enough =
    ap (from_be_bytes w32)
    (front_four (4 + place) came (header ++ (content ++ text_more)) (omega (arith, enough))
    ∙ ap (take 4) (sym (drop-drop place 4 (header ++ (content ++ text_more))) ∙ ap (drop place) (drop_at header (content ++ text_more) 4 four))
    ∙ same_four place content text_more within
    ∙ sym (same_four place content data_more within))

-- the mark of the first fragment
length-mark : (len : ℕ) (last : Bool) → length (fragment_header len last) ≡ 4
unfolding fragment_header
length-mark len last = length-number _

mark_says : (len : ℕ) (last : Bool) (rest : List ℕ) → len < 2 ^ 31 → number_at 0 (fragment_header len last ++ rest) % 2 ^ 31 ≡ len
unfolding fragment_header
mark_says len true rest small = ap (λ (n : ℕ). n % 2 ^ 31) (number_at-number (2 ^ 31 + len) rest (omega (arith, small))) ∙ omega (arith, small)
mark_says len false rest small = ap (λ (n : ℕ). n % 2 ^ 31) (number_at-number len rest (omega (arith, small))) ∙ omega (arith, small)

mark_there : (came : ℕ) (text : List ℕ) → 4 ≤ came → number_at 0 (take came text) ≡ number_at 0 text
unfolding number_at
mark_there came text enough = ap (from_be_bytes w32) (front_four 0 came text (omega (arith, enough)))

-- ---- the look

-- by what it looks at
by_looks : (short fragment asks : Bool) → (short ≡ false → fragment ≡ false → asks ≡ true) → (short || fragment || asks) ≡ true
by_looks true fragment asks f = refl
by_looks false true asks f = refl
by_looks false false asks f = f refl refl

looked_at : (f : Fragment) (more : List Fragment) (rest : List ℕ) (came : ℕ) (head : CallHead)
    → AreFragments (f ∷ more) → head_of (joined_data (f ∷ more)) ≡ head → asks_for_owner head ≡ true
    → may_change (take came (markings (f ∷ more) ++ rest)) ≡ true
looked_at f more rest came head are is asks =
    let front : List ℕ = take came (markings (f ∷ more) ++ rest) in
    by_looks (ltb (length front) 28) (has_short_fragment front) (eqb (word 4 front) 100000 && changes (word 6 front)) (λ long fragment.
    let header : List ℕ = fragment_header (length f.content) f.last in
    let text : List ℕ = markings (f ∷ more) ++ rest in
    let behind : List ℕ = markings more ++ rest in
    let text_is : text ≡ header ++ (f.content ++ behind) =
    append_assoc (marking f) (markings more) rest ∙ append_assoc header f.content behind in
    let four : length header ≡ 4 = length-mark (length f.content) f.last in
    let enough : 28 ≤ came = omega (arith, ltb-false _ _ long, length-take came text) in
    let mark : number_at 0 (take came text) % 2 ^ 31 ≡ length f.content =
    ap (λ (n : ℕ). n % 2 ^ 31) (mark_there came text (omega (arith, enough)) ∙ ap (number_at 0) text_is)
    ∙ mark_says (length f.content) f.last (f.content ++ behind) are.0 in
    let whole : 24 ≤ length f.content = omega (arith, ltb-false _ _ fragment, mark) in
    let prog : number_at 16 (take came text) ≡ head.prog =
    ap (λ (t : List ℕ). number_at 16 (take came t)) text_is
    ∙ same_word 12 came header f.content (joined_data more) behind four (omega (arith, whole)) (omega (arith, enough))
    ∙ ap (λ (h : CallHead). h.prog) is in
    let proc : number_at 24 (take came text) ≡ head.proc =
    ap (λ (t : List ℕ). number_at 24 (take came t)) text_is
    ∙ same_word 20 came header f.content (joined_data more) behind four (omega (arith, whole)) (omega (arith, enough))
    ∙ ap (λ (h : CallHead). h.proc) is in
    ap (λ (n : ℕ). eqb n 100000 && changes (number_at 24 (take came text))) prog
    ∙ ap (λ (n : ℕ). eqb head.prog 100000 && changes n) proc
    ∙ asks)

by_fragments : (fragments : List Fragment) (text content rest : List ℕ) (came : ℕ) (head : CallHead)
    → is_empty fragments ≡ false → AreFragments fragments → text ≡ markings fragments → content ≡ joined_data fragments
    → head_of content ≡ head → asks_for_owner head ≡ true → may_change (take came (text ++ rest)) ≡ true
by_fragments [] text content rest came head some are spelled joined is asks = absurd cc
by_fragments (f ∷ more) text content rest came head some are spelled joined is asks =
    ap (λ (t : List ℕ). may_change (take came (t ++ rest))) spelled
    ∙ looked_at f more rest came head are (ap head_of (sym joined) ∙ is) asks

pub changes_wait : ChangesWait
changes_wait text content rest head place came is call asks =
    by_fragments is.fragments text content rest came head is.marked.some is.marked.fragmented is.marked.spelled is.content_is
    (head_is content head place call) asks

-- ---- how much of it is there

mark_word : (len : ℕ) (last : Bool) (rest : List ℕ) → len < 2 ^ 31 → number_at 0 (fragment_header len last ++ rest) ≡ cond last (2 ^ 31 + len) len
unfolding fragment_header
mark_word len true rest small = number_at-number (2 ^ 31 + len) rest (omega (arith, small))
mark_word len false rest small = number_at-number len rest (omega (arith, small))

a_part : (cut last : Bool) (content : List ℕ) → (cut ≡ false → last ≡ true → ⊥) → held_by (cond cut None (cond last (Some content) None)) ≡ Part
a_part true last content refuted = refl
a_part false false content refuted = refl
a_part false true content refuted = absurd (refuted refl refl)

-- the first fragment is not whole, or another one follows it
module _ (f : Fragment) (more : List Fragment) (came : ℕ) (are : AreFragments (f ∷ more)) (missing : came < length (markings (f ∷ more))) where
  abbrev front : List ℕ
  front = take came (markings (f ∷ more))

  word_is : 4 ≤ came → number_at 0 front ≡ cond f.last (2 ^ 31 + length f.content) (length f.content)
  word_is enough =
      mark_there came (markings (f ∷ more)) enough
      ∙ ap (number_at 0) (append_assoc (fragment_header (length f.content) f.last) f.content (markings more))
      ∙ mark_word (length f.content) f.last (f.content ++ markings more) are.0

  refuted : (last : Bool) (rest : List Fragment) → f.last ≡ last → more ≡ rest → is_cut front ≡ false → is_last front ≡ true → ⊥
  refuted true [] is none whole flag =
      let fits = ltb-false _ _ whole in
      let few = length-take came (markings (f ∷ more)) in
      let word = word_is (omega (arith, fits, few)) ∙ ap (λ (b : Bool). cond b (2 ^ 31 + length f.content) (length f.content)) is in
      let all = ap (λ (fs : List Fragment). length (markings (f ∷ fs))) none in
      let one = length-append (marking f) [] in
      let mark = length-append (fragment_header (length f.content) f.last) f.content in
      omega (arith, fits, few, word, all, one, mark, length-mark (length f.content) f.last, are.0, missing)
  refuted true (g ∷ rest) is some whole flag = absurd (false_is_true (sym (ap is_empty some) ∙ sym are.1 ∙ is))
  refuted false rest is all whole flag =
      let fits = ltb-false _ _ whole in
      let few = length-take came (markings (f ∷ more)) in
      let word = word_is (omega (arith, fits, few)) ∙ ap (λ (b : Bool). cond b (2 ^ 31 + length f.content) (length f.content)) is in
      grind (arith, nat_tests, flag, word, are.0)

  of_part : held_in front ≡ Part
  of_part = a_part (is_cut front) (is_last front) _ (refuted f.last more refl refl)

by_parts : (fragments : List Fragment) (text : List ℕ) (came : ℕ)
    → is_empty fragments ≡ false → AreFragments fragments → text ≡ markings fragments → came < length text → held_in (take came text) ≡ Part
by_parts [] text came some are spelled missing = absurd cc
by_parts (f ∷ more) text came some are spelled missing =
    ap (λ (t : List ℕ). held_in (take came t)) spelled
    ∙ of_part f more came are (omega (arith, missing, ap (λ (t : List ℕ). length t) spelled))

pub parts_are_not_whole : PartsAreNotWhole
parts_are_not_whole text content came is missing =
    by_parts is.fragments text came is.marked.some is.marked.fragmented is.marked.spelled missing
