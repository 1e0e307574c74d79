-- The reading of replies and their grammar agree.
use Rattle.std.proofs.Common.{◌≡◌, ◌<◌, ◌≤◌, ◌+◌, ◌^◌, ℕ, Bool, true, false, not, cond, eqb, List, [], ◌∷◌, ◌++◌, length, drop, Option, Some, None, refl, sym, ap, subst, ◌∙◌, append_assoc, arith, length-append, inl, inr, ◌⊎◌}
use Rattle.std.specs.Prelude.{find}
use Rattle.std.proofs.lemmas.Bool.{eqb-true, ltb-false, le-ltb, not-false, cond-false, cond-true}
use Rattle.std.proofs.lemmas.List.{drop_at}
use Rattle.std.proofs.lemmas.Nat.{from_be_bytes-to_be_bytes_4}
use Rattle.rb_xdr.specs.Xdr.{AreBytes, IsNumber, number, number_at, word}
use Rattle.rb_rpc.specs.Messages.{AuthStat, auth, auth_stat_number, auth_stats, auth_stat_of}
use Rattle.rb_rpc.specs.Verdict.{auth_end}
use Rattle.rb_rpc.specs.Replies.{ReplyStatus, ReplyHead, accepted_reply, rejected_reply, reply_with, reply_head}
use Rattle.rb_rpc.specs.ReadReplies.{Read, says, refused_by, by_accept_stat, read_prog_mismatch, read_accept_stat, read_accepted, read_rpc_mismatch, read_denied, read_reply}
use Rattle.rb_rpc.specs.declared.reply.ReplyStatus.TheVariants.{Success, ProgUnavail, ProgMismatch, ProcUnavail, GarbageArgs, SystemErr, RpcMismatch, AuthError}
use Rattle.rb_rpc.specs.declared.auth.AuthStat.TheVariants as stats
use Rattle.rb_rpc.specs.Grammar.{IsAuth, IsReplyStatus, BeginsWithReply, RepliesAreOfTheGrammar, WrittenRepliesAreRead}
use Rattle.rb_xdr.proofs.Words.{length-number, number_at-number, number_at-append, number_at-drop, number_at_small, split_number}
use Rattle.rb_rpc.proofs.Auths.{body_of, auth_there, AuthAgain, auth_again, or_parts, or_no}

-- ---- from the reading to the grammar

passed : (b : Bool) (x : Read) (r : ReplyHead × ℕ) → cond b None x ≡ Some r → (b ≡ false) × (x ≡ Some r)
passed true x r e = absurd cc
passed false x r e = (refl, e)

chosen : (b : Bool) (u v : Read) (r : ReplyHead × ℕ) → cond b u v ≡ Some r → ((b ≡ true) × (u ≡ Some r)) ⊎ ((b ≡ false) × (v ≡ Some r))
chosen true u v r e = inl (refl, e)
chosen false u v r e = inr (refl, e)

some_is : (x y : ReplyHead × ℕ) → Some x ≡ Some y → x ≡ y
some_is x y e = cc

some_stat : (x y : AuthStat) → Some x ≡ Some y → x ≡ y
some_stat x y e = cc

-- the head stands after a verifier at the place
record TailThere (status : ReplyStatus) (place : ℕ) (bytes : List ℕ) (end : ℕ) : Type 0 where
  rest : List ℕ
  fits : IsReplyStatus status
  text : (xid : ℕ) (verifier : List ℕ) → number xid ++ (number 1 ++ (number 0 ++ (verifier ++ drop place bytes))) ≡ reply_with verifier xid status ++ rest
  size : (xid : ℕ) (verifier : List ℕ) → length (reply_with verifier xid status) + place ≡ 12 + length verifier + end

plain_text : (xid stat : ℕ) (verifier rest front : List ℕ) → front ≡ number stat ++ rest → number xid ++ (number 1 ++ (number 0 ++ (verifier ++ front))) ≡ accepted_reply xid verifier stat ++ rest
plain_text xid stat verifier rest front e = rw e (simp append_assoc refl)

length-accepted : (xid : ℕ) (verifier : List ℕ) (stat : ℕ) → length (accepted_reply xid verifier stat) ≡ 16 + length verifier
length-accepted xid verifier stat =
    omega (arith, length-append (number xid ++ number 1 ++ number 0 ++ verifier) (number stat), length-append (number xid ++ number 1 ++ number 0) verifier, length-append (number xid ++ number 1) (number 0), length-append (number xid) (number 1), length-number xid, length-number 1, length-number 0, length-number stat)

stat_front : (place stat : ℕ) (bytes : List ℕ) → AreBytes bytes → place + 4 ≤ length bytes → number_at place bytes ≡ stat → drop place bytes ≡ number stat ++ drop (place + 4) bytes
stat_front place stat bytes are long e = split_number place bytes are long ∙ ap (λ (k : ℕ). number k ++ drop (place + 4) bytes) e

-- two more numbers
two_text : (xid stat low high : ℕ) (verifier rest front : List ℕ) → front ≡ number stat ++ (number low ++ (number high ++ rest))
    → number xid ++ (number 1 ++ (number 0 ++ (verifier ++ front))) ≡ (accepted_reply xid verifier stat ++ number low ++ number high) ++ rest
two_text xid stat low high verifier rest front e = rw e (simp append_assoc refl)

two_front : (place : ℕ) (bytes : List ℕ) → AreBytes bytes → place + 8 ≤ length bytes → drop place bytes ≡ number (number_at place bytes) ++ (number (number_at (place + 4) bytes) ++ drop (place + 8) bytes)
two_front place bytes are long =
    split_number place bytes are (omega (arith, long))
    ∙ ap (λ (xs : List ℕ). number (number_at place bytes) ++ xs) (split_number (place + 4) bytes are (omega (arith, long)) ∙ ap (λ (k : ℕ). number (number_at (place + 4) bytes) ++ drop k bytes) (omega arith))

length-two : (text : List ℕ) (low high : ℕ) → length (text ++ number low ++ number high) ≡ length text + 8
length-two text low high = omega (arith, length-append (text ++ number low) (number high), length-append text (number low), length-number low, length-number high)

mismatch_there : (place : ℕ) (bytes : List ℕ) → AreBytes bytes → place + 12 ≤ length bytes → number_at place bytes ≡ 2 → TailThere (ProgMismatch (number_at (place + 4) bytes) (number_at (place + 8) bytes)) place bytes (place + 12)
mismatch_there place bytes are long e =
    let low : ℕ = number_at (place + 4) bytes in
    let high : ℕ = number_at (place + 8) bytes in
    let rest : List ℕ = drop (place + 12) bytes in
    let behind : drop (place + 4) bytes ≡ number low ++ (number high ++ rest) =
    two_front (place + 4) bytes are (omega (arith, long)) ∙ ap (λ (p : ℕ × ℕ). number low ++ (number (number_at p.0 bytes) ++ drop p.1 bytes)) (pair_is _ _ _ _ (omega arith) (omega arith)) in
    let front : drop place bytes ≡ number 2 ++ (number low ++ (number high ++ rest)) = stat_front place 2 bytes are (omega (arith, long)) e ∙ ap (λ (xs : List ℕ). number 2 ++ xs) behind in
    record {
      rest = rest;
      fits = (number_at_small (place + 4) bytes are, number_at_small (place + 8) bytes are);
      text = λ xid verifier. two_text xid 2 low high verifier rest (drop place bytes) front;
      size = λ xid verifier. omega (arith, length-two (accepted_reply xid verifier 2) low high, length-accepted xid verifier 2);
    }
  where
    pair_is : (a b c d : ℕ) → a ≡ b → c ≡ d → ◌≡◌ {A = ℕ × ℕ} (a, c) (b, d)
    pair_is a b c d e f = rw (e, f) refl

record StatThere (place : ℕ) (bytes : List ℕ) (r : ReplyHead × ℕ) : Type 0 where
  xid_is : word 0 bytes ≡ r.0.xid
  tail : TailThere r.0.status place bytes r.1

stat_there : (place : ℕ) (bytes : List ℕ) (r : ReplyHead × ℕ) → AreBytes bytes → read_accept_stat place bytes ≡ Some r → StatThere place bytes r
unfolding read_accept_stat read_prog_mismatch
stat_there place bytes r are e =
    let a = passed _ _ r e in
    let long : place + 4 ≤ length bytes = ltb-false _ _ a.0 in
    let stat : ℕ = number_at place bytes in
    let size : (k xid : ℕ) (verifier : List ℕ) → length (accepted_reply xid verifier k) + place ≡ 12 + length verifier + (place + 4) = λ k xid verifier. omega (arith, length-accepted xid verifier k) in
    let text : (k : ℕ) → stat ≡ k → (xid : ℕ) (verifier : List ℕ) → number xid ++ (number 1 ++ (number 0 ++ (verifier ++ drop place bytes))) ≡ accepted_reply xid verifier k ++ drop (place + 4) bytes =
    λ k e xid verifier. plain_text xid k verifier (drop (place + 4) bytes) (drop place bytes) (stat_front place k bytes are long e) in
    elim (chosen (eqb stat 0) _ _ r a.1) [
      | inl h ↦ subst (StatThere place bytes) (some_is _ r h.1) (record { xid_is = refl; tail = record { rest = drop (place + 4) bytes; fits = tt; text = text 0 (eqb-true _ _ h.0); size = size 0 } })
      | inr b ↦ elim (chosen (eqb stat 1) _ _ r b.1) [
        | inl h ↦ subst (StatThere place bytes) (some_is _ r h.1) (record { xid_is = refl; tail = record { rest = drop (place + 4) bytes; fits = tt; text = text 1 (eqb-true _ _ h.0); size = size 1 } })
        | inr c ↦ elim (chosen (eqb stat 2) _ _ r c.1) [
          | inl h ↦
              let m = passed _ _ r h.1 in
              subst (StatThere place bytes) (some_is _ r m.1) (record { xid_is = refl; tail = mismatch_there place bytes are (ltb-false _ _ m.0) (eqb-true _ _ h.0) })
          | inr d ↦ elim (chosen (eqb stat 3) _ _ r d.1) [
            | inl h ↦ subst (StatThere place bytes) (some_is _ r h.1) (record { xid_is = refl; tail = record { rest = drop (place + 4) bytes; fits = tt; text = text 3 (eqb-true _ _ h.0); size = size 3 } })
            | inr f ↦ elim (chosen (eqb stat 4) _ _ r f.1) [
              | inl h ↦ subst (StatThere place bytes) (some_is _ r h.1) (record { xid_is = refl; tail = record { rest = drop (place + 4) bytes; fits = tt; text = text 4 (eqb-true _ _ h.0); size = size 4 } })
              | inr g ↦ elim (chosen (eqb stat 5) _ _ r g.1) [
                | inl h ↦ subst (StatThere place bytes) (some_is _ r h.1) (record { xid_is = refl; tail = record { rest = drop (place + 4) bytes; fits = tt; text = text 5 (eqb-true _ _ h.0); size = size 5 } })
                | inr h ↦ absurd (no_some r h.1)
              ]
            ]
          ]
        ]
      ]
    ]
  where
    no_some : (r : ReplyHead × ℕ) → None ≡ Some r → ⊥
    no_some r e = cc

is : (a b : ℕ) → not (eqb a b) ≡ false → a ≡ b
is a b e = eqb-true a b (not-false (eqb a b) e)

none_fits : IsAuth 0 []
none_fits = record { flavor_fits = omega arith; body_fits = (omega arith, omega arith, λ i. omega arith) }

three_words : (bytes : List ℕ) → AreBytes bytes → 12 ≤ length bytes → bytes ≡ number (word 0 bytes) ++ (number (word 1 bytes) ++ (number (word 2 bytes) ++ drop 12 bytes))
three_words bytes are long =
    two_front 0 bytes are (omega (arith, long)) ∙ ap (λ (xs : List ℕ). number (word 0 bytes) ++ (number (word 1 bytes) ++ xs)) (split_number 8 bytes are (omega (arith, long)))

accepted_there : (bytes : List ℕ) (r : ReplyHead × ℕ) → AreBytes bytes → 12 ≤ length bytes → word 1 bytes ≡ 1 → word 2 bytes ≡ 0 → read_accepted bytes ≡ Some r → BeginsWithReply r.0.xid r.0.status r.1 bytes
unfolding read_accepted
accepted_there bytes r are long w1 w2 e =
    let a = passed _ _ r e in
    let parts = or_parts _ _ a.0 in
    let v = auth_there 12 bytes are parts.0 parts.1 in
    let s = stat_there (auth_end 12 bytes) bytes r are a.1 in
    let verifier : List ℕ = auth (number_at 12 bytes) (body_of 12 bytes) in
    let front : bytes ≡ number (word 0 bytes) ++ (number 1 ++ (number 0 ++ (verifier ++ drop (auth_end 12 bytes) bytes))) =
    three_words bytes are long
    ∙ ap (λ (k : ℕ). number (word 0 bytes) ++ (number k ++ (number (word 2 bytes) ++ drop 12 bytes))) w1
    ∙ ap (λ (k : ℕ). number (word 0 bytes) ++ (number 1 ++ (number k ++ drop 12 bytes))) w2
    ∙ ap (λ (xs : List ℕ). number (word 0 bytes) ++ (number 1 ++ (number 0 ++ xs))) v.text in
    record {
      flavor = number_at 12 bytes;
      body = body_of 12 bytes;
      rest = s.tail.rest;
      xid_fits = subst IsNumber s.xid_is (number_at_small 0 bytes are);
      status_fits = s.tail.fits;
      verifier_fits = v.fits;
      whole = front ∙ s.tail.text (word 0 bytes) verifier ∙ ap (λ (x : ℕ). reply_with verifier x r.0.status ++ s.tail.rest) s.xid_is;
      place_is = omega (arith, s.tail.size r.0.xid verifier, v.end_is);
    }

four_words : (bytes : List ℕ) → AreBytes bytes → 16 ≤ length bytes → word 1 bytes ≡ 1 → word 2 bytes ≡ 1 → bytes ≡ rejected_reply (word 0 bytes) (word 3 bytes) ++ drop 16 bytes
four_words bytes are long w1 w2 =
    three_words bytes are (omega (arith, long))
    ∙ ap (λ (k : ℕ). number (word 0 bytes) ++ (number k ++ (number (word 2 bytes) ++ drop 12 bytes))) w1
    ∙ ap (λ (k : ℕ). number (word 0 bytes) ++ (number 1 ++ (number k ++ drop 12 bytes))) w2
    ∙ ap (λ (xs : List ℕ). number (word 0 bytes) ++ (number 1 ++ (number 1 ++ xs))) (split_number 12 bytes are (omega (arith, long)))
    ∙ simp append_assoc refl

length-denied : (xid stat : ℕ) → length (rejected_reply xid stat) ≡ 16
unfolding number
length-denied xid stat = refl

-- the auth_stat that is found has the number
passes : (p : AuthStat → Bool) (xs : List AuthStat) (x : AuthStat) → find p xs ≡ Some x → p x ≡ true
passes p [] x e = absurd cc
passes p (y ∷ ys) x e = by_test (p y) refl e (λ h. passes p ys x h)
  where
    by_test : (b : Bool) → p y ≡ b → cond b (Some y) (find p ys) ≡ Some x → (find p ys ≡ Some x → p x ≡ true) → p x ≡ true
    by_test true is e later = ap p (sym (some_stat y x e)) ∙ is
    by_test false is e later = later e

stat_number : (n : ℕ) (stat : AuthStat) → auth_stat_of n ≡ Some stat → auth_stat_number stat ≡ n
unfolding auth_stat_of
stat_number n stat e = eqb-true _ _ (passes (λ s. eqb (auth_stat_number s) n) auth_stats stat e)

error_there : (bytes : List ℕ) (r : ReplyHead × ℕ) → AreBytes bytes → word 1 bytes ≡ 1 → word 2 bytes ≡ 1 → 20 ≤ length bytes → word 3 bytes ≡ 1
    → refused_by (auth_stat_of (word 4 bytes)) (word 0 bytes) ≡ Some r → BeginsWithReply r.0.xid r.0.status r.1 bytes
error_there bytes r are w1 w2 long w3 e = by_stat (auth_stat_of (word 4 bytes)) refl e
  where
    no_some : None ≡ Some r → ⊥
    no_some e = cc

    by_stat : (found : Option AuthStat) → auth_stat_of (word 4 bytes) ≡ found → refused_by found (word 0 bytes) ≡ Some r → BeginsWithReply r.0.xid r.0.status r.1 bytes
    by_stat None was e = absurd (no_some e)
    by_stat (Some stat) was e =
        let n : ℕ = auth_stat_number stat in
        let n_is : word 4 bytes ≡ n = sym (stat_number (word 4 bytes) stat was) in
        subst (λ (q : ReplyHead × ℕ). BeginsWithReply q.0.xid q.0.status q.1 bytes) (some_is _ r e) (record {
          flavor = 0;
          body = [];
          rest = drop 20 bytes;
          xid_fits = number_at_small 0 bytes are;
          status_fits = tt;
          verifier_fits = none_fits;
          whole = four_words bytes are (omega (arith, long)) w1 w2 ∙ ap (λ (k : ℕ). rejected_reply (word 0 bytes) k ++ drop 16 bytes) w3 ∙ ap (λ (xs : List ℕ). rejected_reply (word 0 bytes) 1 ++ xs) (split_number 16 bytes are long) ∙ sym (append_assoc (rejected_reply (word 0 bytes) 1) (number (word 4 bytes)) (drop 20 bytes)) ∙ ap (λ (k : ℕ). rejected_reply (word 0 bytes) 1 ++ number k ++ drop 20 bytes) n_is;
          place_is = omega (arith, length-append (rejected_reply (word 0 bytes) 1) (number n), length-denied (word 0 bytes) 1, length-number n);
        })

denied_there : (bytes : List ℕ) (r : ReplyHead × ℕ) → AreBytes bytes → word 1 bytes ≡ 1 → word 2 bytes ≡ 1 → read_denied bytes ≡ Some r → BeginsWithReply r.0.xid r.0.status r.1 bytes
unfolding read_denied read_rpc_mismatch
denied_there bytes r are w1 w2 e =
    let a = passed _ _ r e in
    let long : 20 ≤ length bytes = ltb-false _ _ a.0 in
    let whole = four_words bytes are (omega (arith, long)) w1 w2 in
    elim (chosen (eqb (word 3 bytes) 0) _ _ r a.1) [
      | inl h ↦
          let m = passed _ _ r h.1 in
          let more : 24 ≤ length bytes = ltb-false _ _ m.0 in
          subst (λ (q : ReplyHead × ℕ). BeginsWithReply q.0.xid q.0.status q.1 bytes) (some_is _ r m.1) (record {
            flavor = 0;
            body = [];
            rest = drop 24 bytes;
            xid_fits = number_at_small 0 bytes are;
            status_fits = (number_at_small 16 bytes are, number_at_small 20 bytes are);
            verifier_fits = none_fits;
            whole = whole ∙ ap (λ (k : ℕ). rejected_reply (word 0 bytes) k ++ drop 16 bytes) (eqb-true _ _ h.0) ∙ ap (λ (xs : List ℕ). rejected_reply (word 0 bytes) 0 ++ xs) (two_front 16 bytes are more) ∙ simp append_assoc refl;
            place_is = omega (arith, length-two (rejected_reply (word 0 bytes) 0) (word 4 bytes) (word 5 bytes), length-denied (word 0 bytes) 0);
          })
      | inr b ↦ elim (chosen (eqb (word 3 bytes) 1) _ _ r b.1) [
        | inl h ↦ error_there bytes r are w1 w2 long (eqb-true _ _ h.0) h.1
        | inr h ↦ absurd (no_some r h.1)
      ]
    ]
  where
    no_some : (r : ReplyHead × ℕ) → None ≡ Some r → ⊥
    no_some r e = cc

there : (bytes : List ℕ) (r : ReplyHead × ℕ) → AreBytes bytes → read_reply bytes ≡ Some r → BeginsWithReply r.0.xid r.0.status r.1 bytes
unfolding read_reply
there bytes r are e =
    let a = passed _ _ r e in
    let parts = or_parts _ _ a.0 in
    let long : 12 ≤ length bytes = ltb-false _ _ parts.0 in
    let w1 : word 1 bytes ≡ 1 = is _ _ parts.1 in
    elim (chosen (eqb (word 2 bytes) 0) _ _ r a.1) [
      | inl h ↦ accepted_there bytes r are long w1 (eqb-true _ _ h.0) h.1
      | inr b ↦ elim (chosen (eqb (word 2 bytes) 1) _ _ r b.1) [
        | inl h ↦ denied_there bytes r are w1 (eqb-true _ _ h.0) h.1
        | inr h ↦ absurd (no_some r h.1)
      ]
    ]
  where
    no_some : (r : ReplyHead × ℕ) → None ≡ Some r → ⊥
    no_some r e = cc

-- ---- from the grammar to the reading

abbrev accepted_words : ℕ → List ℕ
accepted_words xid = number xid ++ number 1 ++ number 0

record WordsAgain (xid reply_stat : ℕ) (bytes : List ℕ) : Type 0 where
  w0 : word 0 bytes ≡ xid
  w1 : word 1 bytes ≡ 1
  w2 : word 2 bytes ≡ reply_stat

accepted_again : (xid : ℕ) (tail : List ℕ) → IsNumber xid → WordsAgain xid 0 (accepted_words xid ++ tail)
unfolding number number_at
accepted_again xid tail small = record { w0 = from_be_bytes-to_be_bytes_4 xid small; w1 = refl; w2 = refl }

denied_again : (xid stat : ℕ) (tail : List ℕ) → IsNumber xid → WordsAgain xid 1 (rejected_reply xid stat ++ tail)
unfolding number number_at
denied_again xid stat tail small = record { w0 = from_be_bytes-to_be_bytes_4 xid small; w1 = refl; w2 = refl }

length-accepted_words : (xid : ℕ) → length (accepted_words xid) ≡ 12
unfolding number
length-accepted_words xid = refl

record StatAgain (xid stat place : ℕ) (bytes tail : List ℕ) : Type 0 where
  w0 : word 0 bytes ≡ xid
  behind : drop place bytes ≡ number stat ++ tail
  long : place + 4 + length tail ≤ length bytes
  was : read_reply bytes ≡ by_accept_stat stat place bytes

stat_again : (xid stat flavor : ℕ) (body tail bytes : List ℕ) → IsNumber xid → stat < 2 ^ 32 → IsAuth flavor body → bytes ≡ accepted_reply xid (auth flavor body) stat ++ tail
    → StatAgain xid stat (12 + length (auth flavor body)) bytes tail
unfolding read_reply read_accepted read_accept_stat
stat_again xid stat flavor body tail bytes small stat_small is whole =
    let v : List ℕ = auth flavor body in
    let front : List ℕ = accepted_words xid in
    let place : ℕ = 12 + length v in
    let len : length front ≡ 12 = length-accepted_words xid in
    let w : bytes ≡ (front ++ v) ++ (number stat ++ tail) = whole ∙ append_assoc (front ++ v) (number stat) tail in
    let w' : bytes ≡ front ++ (v ++ (number stat ++ tail)) = w ∙ append_assoc front v (number stat ++ tail) in
    let words_are : WordsAgain xid 0 bytes = subst (WordsAgain xid 0) (sym w') (accepted_again xid (v ++ (number stat ++ tail)) small) in
    let there : AuthAgain 12 flavor body bytes = subst (AuthAgain 12 flavor body) (sym w') (auth_again front (number stat ++ tail) 12 flavor body len is) in
    let front_len : length (front ++ v) ≡ place = length-append front v ∙ ap (λ (k : ℕ). k + length v) len in
    let behind : drop place bytes ≡ number stat ++ tail = ap (λ (xs : List ℕ). drop place xs) w ∙ drop_at (front ++ v) (number stat ++ tail) place front_len in
    let stat_is : number_at place bytes ≡ stat =
    ap (λ (k : ℕ). number_at k bytes) (omega arith) ∙ ap (λ (xs : List ℕ). number_at (place + 0) xs) w ∙ number_at-append (front ++ v) (number stat ++ tail) place 0 front_len ∙ number_at-number stat tail stat_small in
    let total : place + 4 + length tail ≤ length bytes = omega (arith, ap length w, front_len, length-append (front ++ v) (number stat ++ tail), length-append (number stat) tail, length-number stat) in
    record {
      w0 = words_are.w0;
      behind = behind;
      long = total;
      was =
          cond-false _ _ _ (or_no _ _ (le-ltb (length bytes) 12 (omega (arith, total))) (ap (λ (k : ℕ). not (eqb k 1)) words_are.w1))
          ∙ cond-true _ _ _ (ap (λ (k : ℕ). eqb k 0) words_are.w2)
          ∙ cond-false _ _ _ (or_no _ _ there.not_long there.not_broken)
          ∙ ap (λ (p : ℕ). read_accept_stat p bytes) there.end_is
          ∙ cond-false _ _ _ (le-ltb (length bytes) (place + 4) (omega (arith, total)))
          ∙ ap (λ (s : ℕ). by_accept_stat s place bytes) stat_is;
    }

made : (x y p q : ℕ) (status : ReplyStatus) → x ≡ y → p ≡ q → says x status p ≡ says y status q
made x y p q status e f = rw (e, f) refl

made_mismatch : (x y a b c d p q : ℕ) → x ≡ y → a ≡ b → c ≡ d → p ≡ q → says x (ProgMismatch a c) p ≡ says y (ProgMismatch b d) q
made_mismatch x y a b c d p q e f g h = rw (e, f, g, h) refl

made_rpc : (x y a b c d p q : ℕ) → x ≡ y → a ≡ b → c ≡ d → p ≡ q → says x (RpcMismatch a c) p ≡ says y (RpcMismatch b d) q
made_rpc x y a b c d p q e f g h = rw (e, f, g, h) refl

stat_again_of : (stat : AuthStat) → auth_stat_of (auth_stat_number stat) ≡ Some stat
unfolding auth_stat_of
stat_again_of stats.Success = refl
stat_again_of stats.BadCredential = refl
stat_again_of stats.RejectedCredential = refl
stat_again_of stats.BadVerifier = refl
stat_again_of stats.RejectedVerifier = refl
stat_again_of stats.TooWeak = refl
stat_again_of stats.InvalidResponse = refl
stat_again_of stats.Failed = refl
stat_again_of stats.Kerberos = refl
stat_again_of stats.TimeExpired = refl
stat_again_of stats.TicketFile = refl
stat_again_of stats.Decode = refl
stat_again_of stats.NetAddress = refl
stat_again_of stats.GssCredential = refl
stat_again_of stats.GssContext = refl

few_stats : (stat : AuthStat) → auth_stat_number stat < 15
few_stats stats.Success = omega arith
few_stats stats.BadCredential = omega arith
few_stats stats.RejectedCredential = omega arith
few_stats stats.BadVerifier = omega arith
few_stats stats.RejectedVerifier = omega arith
few_stats stats.TooWeak = omega arith
few_stats stats.InvalidResponse = omega arith
few_stats stats.Failed = omega arith
few_stats stats.Kerberos = omega arith
few_stats stats.TimeExpired = omega arith
few_stats stats.TicketFile = omega arith
few_stats stats.Decode = omega arith
few_stats stats.NetAddress = omega arith
few_stats stats.GssCredential = omega arith
few_stats stats.GssContext = omega arith

made_error : (x y k place : ℕ) (stat : AuthStat) → x ≡ y → k ≡ auth_stat_number stat → 20 ≡ place → refused_by (auth_stat_of k) x ≡ says y (AuthError stat) place
made_error x y k place stat e f g = rw (e, f, stat_again_of stat, ← g) refl

-- a number after others
behind_at : (place k n : ℕ) (bytes front rest : List ℕ) → IsNumber n → length front ≡ k → drop place bytes ≡ front ++ (number n ++ rest) → number_at (place + k) bytes ≡ n
behind_at place k n bytes front rest small len e =
    sym (number_at-drop place k bytes) ∙ ap (number_at k) e ∙ ap (λ (i : ℕ). number_at i (front ++ (number n ++ rest))) (omega arith) ∙ number_at-append front (number n ++ rest) k 0 len ∙ number_at-number n rest small

mismatch_again : (xid low high place flavor : ℕ) (body rest bytes : List ℕ) → IsNumber xid → IsNumber low → IsNumber high → IsAuth flavor body
    → bytes ≡ reply_with (auth flavor body) xid (ProgMismatch low high) ++ rest → place ≡ length (reply_with (auth flavor body) xid (ProgMismatch low high)) → read_reply bytes ≡ says xid (ProgMismatch low high) place
unfolding read_prog_mismatch
mismatch_again xid low high place flavor body rest bytes small low_fits high_fits is whole place_is =
    let v : List ℕ = auth flavor body in
    let p : ℕ = 12 + length v in
    let tail : List ℕ = number low ++ (number high ++ rest) in
    let s = stat_again xid 2 flavor body tail bytes small (omega arith) is (whole ∙ simp append_assoc refl) in
    let tail_len : length tail ≡ 8 + length rest = omega (arith, length-append (number low) (number high ++ rest), length-append (number high) rest, length-number low, length-number high) in
    let low_is : number_at (p + 4) bytes ≡ low = behind_at p 4 low bytes (number 2) (number high ++ rest) low_fits (length-number 2) s.behind in
    let high_is : number_at (p + 8) bytes ≡ high =
    behind_at p 8 high bytes (number 2 ++ number low) rest high_fits (omega (arith, length-append (number 2) (number low), length-number 2, length-number low)) (s.behind ∙ sym (append_assoc (number 2) (number low) (number high ++ rest))) in
    s.was ∙ cond-false _ _ _ (le-ltb (length bytes) (p + 12) (omega (arith, s.long, tail_len)))
    ∙ made_mismatch _ _ _ _ _ _ _ _ s.w0 low_is high_is (omega (arith, place_is, length-two (accepted_reply xid v 2) low high, length-accepted xid v 2))

fourth : (xid stat : ℕ) (tail : List ℕ) → IsNumber stat → word 3 (rejected_reply xid stat ++ tail) ≡ stat
unfolding number number_at
fourth xid stat tail small = from_be_bytes-to_be_bytes_4 stat small

record DeniedWords (xid stat : ℕ) (bytes tail : List ℕ) : Type 0 where
  words_are : WordsAgain xid 1 bytes
  w3 : word 3 bytes ≡ stat
  behind : drop 16 bytes ≡ tail
  long : 16 + length tail ≤ length bytes

denied_words : (xid stat : ℕ) (tail : List ℕ) → IsNumber xid → IsNumber stat → DeniedWords xid stat (rejected_reply xid stat ++ tail) tail
denied_words xid stat tail small stat_small = record {
  words_are = denied_again xid stat tail small;
  w3 = fourth xid stat tail stat_small;
  behind = drop_at (rejected_reply xid stat) tail 16 (length-denied xid stat);
  long = omega (arith, length-append (rejected_reply xid stat) tail, length-denied xid stat);
}

rpc_again : (xid low high place : ℕ) (verifier rest bytes : List ℕ) → IsNumber xid → IsNumber low → IsNumber high
    → bytes ≡ reply_with verifier xid (RpcMismatch low high) ++ rest → place ≡ length (reply_with verifier xid (RpcMismatch low high)) → read_reply bytes ≡ says xid (RpcMismatch low high) place
unfolding read_reply read_denied read_rpc_mismatch
rpc_again xid low high place verifier rest bytes small low_fits high_fits whole place_is =
    let tail : List ℕ = number low ++ (number high ++ rest) in
    let w : bytes ≡ rejected_reply xid 0 ++ tail = whole ∙ simp append_assoc refl in
    let d : DeniedWords xid 0 bytes tail = subst (λ (xs : List ℕ). DeniedWords xid 0 xs tail) (sym w) (denied_words xid 0 tail small (omega arith)) in
    let tail_len : length tail ≡ 8 + length rest = omega (arith, length-append (number low) (number high ++ rest), length-append (number high) rest, length-number low, length-number high) in
    let low_is : word 4 bytes ≡ low = behind_at 16 0 low bytes [] (number high ++ rest) low_fits refl d.behind in
    let high_is : word 5 bytes ≡ high = behind_at 16 4 high bytes (number low) rest high_fits (length-number low) d.behind in
    cond-false _ _ _ (or_no _ _ (le-ltb (length bytes) 12 (omega (arith, d.long))) (ap (λ (k : ℕ). not (eqb k 1)) d.words_are.w1))
    ∙ cond-false _ _ _ (ap (λ (k : ℕ). eqb k 0) d.words_are.w2)
    ∙ cond-true _ _ _ (ap (λ (k : ℕ). eqb k 1) d.words_are.w2)
    ∙ cond-false _ _ _ (le-ltb (length bytes) 20 (omega (arith, d.long, tail_len)))
    ∙ cond-true _ _ _ (ap (λ (k : ℕ). eqb k 0) d.w3)
    ∙ cond-false _ _ _ (le-ltb (length bytes) 24 (omega (arith, d.long, tail_len)))
    ∙ made_rpc _ _ _ _ _ _ _ _ d.words_are.w0 low_is high_is (omega (arith, place_is, length-two (rejected_reply xid 0) low high, length-denied xid 0))

error_again : (xid place : ℕ) (stat : AuthStat) (verifier rest bytes : List ℕ) → IsNumber xid
    → bytes ≡ reply_with verifier xid (AuthError stat) ++ rest → place ≡ length (reply_with verifier xid (AuthError stat)) → read_reply bytes ≡ says xid (AuthError stat) place
unfolding read_reply read_denied
error_again xid place stat verifier rest bytes small whole place_is =
    let n : ℕ = auth_stat_number stat in
    let tail : List ℕ = number n ++ rest in
    let w : bytes ≡ rejected_reply xid 1 ++ tail = whole ∙ append_assoc (rejected_reply xid 1) (number n) rest in
    let d : DeniedWords xid 1 bytes tail = subst (λ (xs : List ℕ). DeniedWords xid 1 xs tail) (sym w) (denied_words xid 1 tail small (omega arith)) in
    let tail_len : length tail ≡ 4 + length rest = omega (arith, length-append (number n) rest, length-number n) in
    let stat_is : word 4 bytes ≡ n = behind_at 16 0 n bytes [] rest (omega (arith, few_stats stat)) refl d.behind in
    cond-false _ _ _ (or_no _ _ (le-ltb (length bytes) 12 (omega (arith, d.long))) (ap (λ (k : ℕ). not (eqb k 1)) d.words_are.w1))
    ∙ cond-false _ _ _ (ap (λ (k : ℕ). eqb k 0) d.words_are.w2)
    ∙ cond-true _ _ _ (ap (λ (k : ℕ). eqb k 1) d.words_are.w2)
    ∙ cond-false _ _ _ (le-ltb (length bytes) 20 (omega (arith, d.long, tail_len)))
    ∙ cond-false _ _ _ (ap (λ (k : ℕ). eqb k 0) d.w3)
    ∙ cond-true _ _ _ (ap (λ (k : ℕ). eqb k 1) d.w3)
    ∙ made_error _ _ _ _ stat d.words_are.w0 stat_is (omega (arith, place_is, length-append (rejected_reply xid 1) (number n), length-denied xid 1, length-number n))

again : (xid place flavor : ℕ) (status : ReplyStatus) (body rest bytes : List ℕ) → IsNumber xid → IsReplyStatus status → IsAuth flavor body
    → bytes ≡ reply_with (auth flavor body) xid status ++ rest → place ≡ length (reply_with (auth flavor body) xid status) → read_reply bytes ≡ says xid status place
again xid place flavor Success body rest bytes small fits is whole place_is =
    let s = stat_again xid 0 flavor body rest bytes small (omega arith) is whole in
    s.was ∙ made _ _ _ _ Success s.w0 (omega (arith, place_is, length-accepted xid (auth flavor body) 0))
again xid place flavor ProgUnavail body rest bytes small fits is whole place_is =
    let s = stat_again xid 1 flavor body rest bytes small (omega arith) is whole in
    s.was ∙ made _ _ _ _ ProgUnavail s.w0 (omega (arith, place_is, length-accepted xid (auth flavor body) 1))
again xid place flavor (ProgMismatch low high) body rest bytes small fits is whole place_is = mismatch_again xid low high place flavor body rest bytes small fits.0 fits.1 is whole place_is
again xid place flavor ProcUnavail body rest bytes small fits is whole place_is =
    let s = stat_again xid 3 flavor body rest bytes small (omega arith) is whole in
    s.was ∙ made _ _ _ _ ProcUnavail s.w0 (omega (arith, place_is, length-accepted xid (auth flavor body) 3))
again xid place flavor GarbageArgs body rest bytes small fits is whole place_is =
    let s = stat_again xid 4 flavor body rest bytes small (omega arith) is whole in
    s.was ∙ made _ _ _ _ GarbageArgs s.w0 (omega (arith, place_is, length-accepted xid (auth flavor body) 4))
again xid place flavor SystemErr body rest bytes small fits is whole place_is =
    let s = stat_again xid 5 flavor body rest bytes small (omega arith) is whole in
    s.was ∙ made _ _ _ _ SystemErr s.w0 (omega (arith, place_is, length-accepted xid (auth flavor body) 5))
again xid place flavor (RpcMismatch low high) body rest bytes small fits is whole place_is = rpc_again xid low high place (auth flavor body) rest bytes small fits.0 fits.1 whole place_is
again xid place flavor (AuthError stat) body rest bytes small fits is whole place_is = error_again xid place stat (auth flavor body) rest bytes small whole place_is

pub replies_agree : RepliesAreOfTheGrammar
replies_agree bytes are xid status place = (
  λ e. there bytes (record { xid = xid; status = status }, place) are e,
  λ b. again xid place b.flavor status b.body b.rest bytes b.xid_fits b.status_fits b.verifier_fits b.whole b.place_is,
)

pub written_again : WrittenRepliesAreRead
unfolding reply_head
written_again xid status results small fits = again xid _ 0 status [] results (reply_with (auth 0 []) xid status ++ results) small fits none_fits refl refl
