-- Heads of replies, and fronts of them.
use Rattle.std.proofs.Common.{◌≡◌, ◌<◌, ◌≤◌, ◌+◌, ◌-◌, ◌*◌, ◌/◌, ℕ, zero, suc, Bool, true, false, not, cond, eqb, ltb, ◌||◌, ◌&&◌, List, [], ◌∷◌, ◌++◌, length, take, drop, Option, Some, None, refl, sym, ap, ◌∙◌, subst, append_assoc, arith, inl, inr, length-append}
use Rattle.std.specs.Prelude.{slice_range, replicate, is_some, min}
use Rattle.std.specs.Int.{w32, from_be_bytes}
use Rattle.std.proofs.lemmas.Bool.{cases_lt, le-ltb, ltb-false, not-false}
use Rattle.std.proofs.lemmas.List.{drop-append-le, take-append-le, take-append-drop, length-take, length-drop, drop-replicate, length-replicate}
use Rattle.std.proofs.Math.Seq.{drop-append-add, take-append-add}
use Rattle.rb_xdr.specs.Xdr.{number_at, word, residue, are_zero}
use Rattle.rb_xdr.proofs.Words.{number_at-append}
use Rattle.rb_rpc.specs.Messages.{auth_stat_of}
use Rattle.rb_rpc.specs.declared.auth.AuthStat.{AuthStat}
use Rattle.rb_rpc.specs.declared.reply.ReplyStatus.{ReplyStatus}
use Rattle.rb_rpc.specs.declared.reply.ReplyStatus.TheVariants.{Success, ProgUnavail, ProgMismatch, ProcUnavail, GarbageArgs, SystemErr, RpcMismatch, AuthError}
use Rattle.rb_rpc.specs.declared.reply.ReplyHead.{ReplyHead}
use Rattle.rb_rpc.specs.ReadReplies.{Read, says, refused_by, by_accept_stat, read_prog_mismatch, read_accept_stat, read_accepted, read_rpc_mismatch, read_denied, read_reply}
use Rattle.rb_rpc.specs.Verdict.{auth_end, body_length, is_over_long, is_broken}
use Rattle.rb_show.specs.declared.fault.InfoFault.TheVariants.{Unreadable}
use Rattle.rb_show.specs.declared.take.Pause.TheVariants.{More, Fault}
use Rattle.rb_show.specs.Telling.Told.{Done}
use Rattle.rb_show.specs.Fronts.{Pauses, Takes}
use Rattle.rb_show.specs.Heads.{words_there, filled, may_begin, by_reading, take_head}
use Rattle.rb_show.specs.HeadLaws.{IsHead, HeadsAreRead, HeadsStay, NoHeadComes}

-- ---- numbers

number_at-front : (p : ℕ) (front rest : List ℕ) → p + 4 ≤ length front → number_at p (front ++ rest) ≡ number_at p front
unfolding number_at
number_at-front p front rest within =
    ap (λ (xs : List ℕ). from_be_bytes w32 (take 4 xs)) (drop-append-le p front rest (omega (arith, within)))
    ∙ ap (from_be_bytes w32) (take-append-le 4 (drop p front) rest (omega (arith, within, length-drop p front)))

slice-front : (i j : ℕ) (front rest : List ℕ) → i ≤ length front → j ≤ length front → slice_range (front ++ rest) i j ≡ slice_range front i j
slice-front i j front rest before within =
    ap (take (j - i)) (drop-append-le i front rest before)
    ∙ take-append-le (j - i) (drop i front) rest (omega (arith, before, within, length-drop i front))

four_zeros : (n : ℕ) → take {A = ℕ} 4 (replicate (suc (suc (suc (suc n)))) 0) ≡ 0 ∷ 0 ∷ 0 ∷ 0 ∷ []
four_zeros n = refl

number_at-zeros : (p m : ℕ) (front : List ℕ) → length front ≤ p → p + 4 ≤ length front + m → number_at p (front ++ replicate m 0) ≡ 0
unfolding number_at
number_at-zeros p m front after within =
    let j : ℕ = p - length front in
    ap (λ (n : ℕ). number_at n (front ++ replicate m 0)) {y = length front + j} (omega (arith, after))
    ∙ number_at-append front (replicate m 0) (length front) j refl
    ∙ ap (λ (xs : List ℕ). from_be_bytes w32 (take 4 xs)) (drop-replicate j m 0)
    ∙ ap (λ (n : ℕ). from_be_bytes w32 (take 4 (replicate n 0))) {y = suc (suc (suc (suc (m - j - 4))))} (omega (arith, after, within))
    ∙ ap (from_be_bytes w32) (four_zeros (m - j - 4))

zeros_are : (j n : ℕ) → are_zero (take j (replicate n 0)) ≡ true
zeros_are zero n = refl
zeros_are (suc j) zero = refl
zeros_are (suc j) (suc n) = zeros_are j n

slice-zeros : (i j m : ℕ) (front : List ℕ) → length front ≤ i → are_zero (slice_range (front ++ replicate m 0) i j) ≡ true
slice-zeros i j m front after =
    let k : ℕ = i - length front in
    ap (λ (n : ℕ). are_zero (take (j - i) (drop n (front ++ replicate m 0)))) {y = length front + k} (omega (arith, after))
    ∙ ap (λ (xs : List ℕ). are_zero (take (j - i) xs)) (drop-append-add front (replicate m 0) k ∙ drop-replicate k m 0)
    ∙ zeros_are (j - i) (m - k)

-- content and its residual bytes are whole words
words_in : (c : ℕ) → c + residue c ≡ 4 * ((c + 3) / 4)
words_in c = omega arith

-- ---- tests

passed : (b : Bool) (x : Read) (r : ReplyHead × ℕ) → cond b None x ≡ Some r → (b ≡ false) × (x ≡ Some r)
passed true x r e = absurd cc
passed false x r e = (refl, e)

either : (a b : Bool) → (a || b) ≡ false → (a ≡ false) × (b ≡ false)
either true b e = absurd cc
either false b e = (refl, e)

neither : (a b : Bool) → a ≡ false → b ≡ false → (a || b) ≡ false
neither a b e f = rw (e, f) refl

-- what reject_stat and reply_stat decide
abbrev by_reject_stat : List ℕ → Read
by_reject_stat xs = cond (eqb (word 3 xs) 0) (read_rpc_mismatch xs) (cond (eqb (word 3 xs) 1) (refused_by (auth_stat_of (word 4 xs)) (word 0 xs)) None)

abbrev by_reply_stat : List ℕ → Read
by_reply_stat xs = cond (eqb (word 2 xs) 0) (read_accepted xs) (cond (eqb (word 2 xs) 1) (read_denied xs) None)

-- what is so of a head that is read is so of another, in the same case of a test
module _ (Is : Read → Type 0) (r : ReplyHead × ℕ) where
  by_test : (b : Bool) (u v u' v' : Read) → cond b u v ≡ Some r → (u ≡ Some r → Is u') → (v ≡ Some r → Is v') → Is (cond b u' v')
  by_test true u v u' v' e f g = f e
  by_test false u v u' v' e f g = g e

  module _ (x x' : List ℕ) (same : word 0 x' ≡ word 0 x) (place : ℕ) (said : (status : ReplyStatus) → says (word 0 x) status (place + 4) ≡ Some r → Is (says (word 0 x) status (place + 4))) where
    says_it : (status : ReplyStatus) → says (word 0 x) status (place + 4) ≡ Some r → Is (says (word 0 x') status (place + 4))
    says_it status was = subst (λ (xid : ℕ). Is (says xid status (place + 4))) (sym same) (said status was)

    stat_is : (stat : ℕ) → (read_prog_mismatch place x ≡ Some r → Is (read_prog_mismatch place x')) → by_accept_stat stat place x ≡ Some r → Is (by_accept_stat stat place x')
    stat_is stat mismatch was =
        by_test (eqb stat 0) _ _ _ _ was (says_it Success)
        (λ a. by_test (eqb stat 1) _ _ _ _ a (says_it ProgUnavail)
        (λ b. by_test (eqb stat 2) _ _ _ _ b mismatch
        (λ c. by_test (eqb stat 3) _ _ _ _ c (says_it ProcUnavail)
        (λ d. by_test (eqb stat 4) _ _ _ _ d (says_it GarbageArgs)
        (λ f. by_test (eqb stat 5) _ _ _ _ f (says_it SystemErr) (λ g. absurd cc))))))

-- ---- an accepted head

-- what is read with a count of c bytes of the verifier
record Accepted (xs : List ℕ) (c : ℕ) (r : ReplyHead × ℕ) : Type 0 where
  few : c ≤ 400
  long : 20 + c + residue c + 4 ≤ length xs
  zeros : are_zero (slice_range xs (20 + c) (20 + c + residue c)) ≡ true
  stat : by_accept_stat (number_at (20 + c + residue c) xs) (20 + c + residue c) xs ≡ Some r

accepted_by : (xs : List ℕ) (c : ℕ) → number_at 16 xs ≡ c
    → read_accepted xs ≡ cond ((not (ltb (length xs) 20) && ltb 400 c) || (ltb (length xs) (20 + c + residue c) || not (are_zero (slice_range xs (20 + c) (20 + c + residue c))))) None
    (cond (ltb (length xs) (20 + c + residue c + 4)) None (by_accept_stat (number_at (20 + c + residue c) xs) (20 + c + residue c) xs))
unfolding read_accepted read_accept_stat is_over_long is_broken auth_end body_length
accepted_by xs c e = rw e refl

few_are : (n c : ℕ) → 20 + c + residue c ≤ n → (not (ltb n 20) && ltb 400 c) ≡ false → c ≤ 400
few_are n c long e = ltb-false 400 c (ap (λ (b : Bool). not b && ltb 400 c) (sym (le-ltb n 20 (omega (arith, long)))) ∙ e)

was_accepted : (xs : List ℕ) (c : ℕ) (r : ReplyHead × ℕ) → number_at 16 xs ≡ c → read_accepted xs ≡ Some r → Accepted xs c r
was_accepted xs c r is e =
    let a = passed _ _ r (sym (accepted_by xs c is) ∙ e) in
    let parts = either _ _ a.0 in
    let broken = either _ _ parts.1 in
    let b = passed _ _ r a.1 in
    record {
      few = few_are (length xs) c (ltb-false _ _ broken.0) parts.0;
      long = ltb-false _ _ b.0;
      zeros = not-false _ broken.1;
      stat = b.1;
    }

is_accepted : (xs : List ℕ) (c : ℕ) → number_at 16 xs ≡ c → c ≤ 400 → 20 + c + residue c + 4 ≤ length xs → are_zero (slice_range xs (20 + c) (20 + c + residue c)) ≡ true
    → read_accepted xs ≡ by_accept_stat (number_at (20 + c + residue c) xs) (20 + c + residue c) xs
is_accepted xs c is few long zeros =
    accepted_by xs c is
    ∙ rw (le-ltb (length xs) 20 (omega (arith, long)), le-ltb 400 c few, le-ltb (length xs) (20 + c + residue c) (omega (arith, long)), zeros, le-ltb (length xs) (20 + c + residue c + 4) long) refl

-- ---- a head that is there stays

module _ (bytes more : List ℕ) (r : ReplyHead × ℕ) where
  longer : length bytes ≤ length (bytes ++ more)
  longer = omega (arith, length-append bytes more)

  at : (p : ℕ) → p + 4 ≤ length bytes → number_at p (bytes ++ more) ≡ number_at p bytes
  at p within = number_at-front p bytes more within

  abbrev Stays : Read → Type 0
  Stays read = read ≡ Some r

  mismatch_stays : (place : ℕ) → 4 ≤ length bytes → read_prog_mismatch place bytes ≡ Some r → Stays (read_prog_mismatch place (bytes ++ more))
  unfolding read_prog_mismatch
  mismatch_stays place some was =
      let a = passed _ _ r was in
      let long : place + 12 ≤ length bytes = ltb-false _ _ a.0 in
      rw (le-ltb (length (bytes ++ more)) (place + 12) (omega (arith, long, longer)), at 0 some, at (place + 4) (omega (arith, long)), at (place + 8) (omega (arith, long))) a.1

  accepted_stays : 4 ≤ length bytes → read_accepted bytes ≡ Some r → Stays (read_accepted (bytes ++ more))
  accepted_stays some was =
      let c : ℕ = number_at 16 bytes in
      let a = was_accepted bytes c r refl was in
      let e : ℕ = 20 + c + residue c in
      is_accepted (bytes ++ more) c (at 16 (omega (arith, a.long))) a.few (omega (arith, a.long, longer))
      (ap are_zero (slice-front (20 + c) e bytes more (omega (arith, a.long)) (omega (arith, a.long))) ∙ a.zeros)
      ∙ ap (λ (stat : ℕ). by_accept_stat stat e (bytes ++ more)) (at e a.long)
      ∙ stat_is Stays r bytes (bytes ++ more) (at 0 some) e (λ status said. said) (number_at e bytes) (mismatch_stays e some) a.stat

  denied_stays : read_denied bytes ≡ Some r → Stays (read_denied (bytes ++ more))
  unfolding read_denied read_rpc_mismatch
  denied_stays was =
      let a = passed _ _ r was in
      let long : 20 ≤ length bytes = ltb-false _ _ a.0 in
      rw (le-ltb (length (bytes ++ more)) 20 (omega (arith, long, longer)), at 0 (omega (arith, long)), at 12 (omega (arith, long)), at 16 (omega (arith, long)))
      (by_test Stays r (eqb (number_at 12 bytes) 0) _ _ _ _ a.1
      (λ b.
      let c = passed _ _ r b in
      let longer_still : 24 ≤ length bytes = ltb-false _ _ c.0 in
      rw (le-ltb (length (bytes ++ more)) 24 (omega (arith, longer_still, longer)), at 20 (omega (arith, longer_still))) c.1)
      (λ b. b))

  pub head_stays : read_reply bytes ≡ Some r → read_reply (bytes ++ more) ≡ Some r
  unfolding read_reply
  head_stays was =
      let a = passed _ _ r was in
      let tests = either _ _ a.0 in
      let long : 12 ≤ length bytes = ltb-false _ _ tests.0 in
      rw (le-ltb (length (bytes ++ more)) 12 (omega (arith, long, longer)), at 4 (omega (arith, long)), at 8 (omega (arith, long)), tests.1)
      (by_test Stays r (eqb (number_at 8 bytes) 0) _ _ _ _ a.1 (accepted_stays (omega (arith, long)))
      (λ b. by_test Stays r (eqb (number_at 8 bytes) 1) _ _ _ _ b denied_stays (λ c. absurd cc)))

-- ---- with zeros for what is missing

module _ (w : ℕ) (front rest : List ℕ) (size : length front ≡ 4 * w) (begun : 3 ≤ w) (few : w ≤ 108) (r : ReplyHead × ℕ) where
  abbrev filled_up : List ℕ
  filled_up = front ++ replicate (432 - 4 * w) 0

  length-filled : length filled_up ≡ 432
  length-filled = omega (arith, size, few, length-append front (replicate (432 - 4 * w) 0), length-replicate {A = ℕ} (432 - 4 * w) 0)

  abbrev IsSome : Read → Type 0
  IsSome read = is_some read ≡ true

  kept : (p : ℕ) → p + 4 ≤ 4 * w → number_at p filled_up ≡ number_at p (front ++ rest)
  kept p within =
      number_at-front p front (replicate (432 - 4 * w) 0) (omega (arith, size, within)) ∙ sym (number_at-front p front rest (omega (arith, size, within)))

  zero_at : (p : ℕ) → 4 * w ≤ p → p + 4 ≤ 432 → number_at p filled_up ≡ 0
  zero_at p after within = number_at-zeros p (432 - 4 * w) front (omega (arith, size, after)) (omega (arith, size, few, within))

  mismatch_filled : (place : ℕ) → place + 12 ≤ 432 → IsSome (read_prog_mismatch place filled_up)
  unfolding read_prog_mismatch
  mismatch_filled place within = rw (length-filled, le-ltb 432 (place + 12) within) refl

  success_filled : (place : ℕ) → 4 * w ≤ place → place + 4 ≤ 432 → IsSome (by_accept_stat (number_at place filled_up) place filled_up)
  success_filled place after within = rw (zero_at place after within) refl

  stat_filled : (v : ℕ) → v ≤ 105 → by_accept_stat (number_at (4 * v) (front ++ rest)) (4 * v) (front ++ rest) ≡ Some r → IsSome (by_accept_stat (number_at (4 * v) filled_up) (4 * v) filled_up)
  stat_filled v near was = elim (cases_lt v w) [
    | inl there ↦
        ap (λ (stat : ℕ). is_some (by_accept_stat stat (4 * v) filled_up)) (kept (4 * v) (omega (arith, there)))
        ∙ stat_is IsSome r (front ++ rest) filled_up (kept 0 (omega (arith, begun))) (4 * v) (λ status said. refl) (number_at (4 * v) (front ++ rest)) (λ said. mismatch_filled (4 * v) (omega (arith, near))) was
    | inr missing ↦ success_filled (4 * v) (omega (arith, missing)) (omega (arith, near))
  ]

  accepted_filled : read_accepted (front ++ rest) ≡ Some r → IsSome (read_accepted filled_up)
  accepted_filled was = elim (cases_lt w 5) [
    | inl early ↦
        ap is_some (is_accepted filled_up 0 (zero_at 16 (omega (arith, early)) (omega arith)) (omega arith) (omega (arith, length-filled)) refl)
        ∙ success_filled 20 (omega (arith, early)) (omega arith)
    | inr late ↦ by_count (number_at 16 (front ++ rest)) refl late
  ]
    where
      zeros_kept : (c e : ℕ) → e ≡ 4 * (5 + (c + 3) / 4) → e ≤ 20 + c + 3 → are_zero (slice_range (front ++ rest) (20 + c) e) ≡ true → 20 + c ≤ e → are_zero (slice_range filled_up (20 + c) e) ≡ true
      zeros_kept c e is near zeros before = elim (cases_lt (4 * w) e) [
        | inl missing ↦ slice-zeros (20 + c) e (432 - 4 * w) front (omega (arith, size, missing, is, near))
        | inr there ↦
            ap are_zero (slice-front (20 + c) e front (replicate (432 - 4 * w) 0) (omega (arith, size, there, before)) (omega (arith, size, there)))
            ∙ ap are_zero (sym (slice-front (20 + c) e front rest (omega (arith, size, there, before)) (omega (arith, size, there)))) ∙ zeros
      ]

      by_count : (c : ℕ) → number_at 16 (front ++ rest) ≡ c → 5 ≤ w → IsSome (read_accepted filled_up)
      by_count c is late =
          let a = was_accepted (front ++ rest) c r is was in
          let e : ℕ = 20 + c + residue c in
          let v : ℕ = 5 + (c + 3) / 4 in
          let e_is : e ≡ 4 * v = omega (arith, words_in c) in
          let near : v ≤ 105 = omega (arith, a.few) in
          ap is_some (is_accepted filled_up c (kept 16 (omega (arith, late)) ∙ is) a.few (omega (arith, length-filled, e_is, near)) (zeros_kept c e e_is (omega arith) a.zeros (omega arith)))
          ∙ subst (λ (p : ℕ). by_accept_stat (number_at p (front ++ rest)) p (front ++ rest) ≡ Some r → IsSome (by_accept_stat (number_at p filled_up) p filled_up)) (sym e_is) (stat_filled v near) a.stat

  refused_is : (o : Option AuthStat) (xid xid' : ℕ) → refused_by o xid ≡ Some r → IsSome (refused_by o xid')
  refused_is (Some stat) xid xid' was = refl
  refused_is None xid xid' was = absurd cc

  refused_filled : refused_by (auth_stat_of (number_at 16 (front ++ rest))) (word 0 (front ++ rest)) ≡ Some r → IsSome (refused_by (auth_stat_of (number_at 16 filled_up)) (word 0 filled_up))
  unfolding auth_stat_of
  refused_filled was = elim (cases_lt w 5) [
    | inl early ↦ rw (zero_at 16 (omega (arith, early)) (omega arith)) refl
    | inr late ↦ rw (kept 16 (omega (arith, late))) (refused_is (auth_stat_of (number_at 16 (front ++ rest))) (word 0 (front ++ rest)) (word 0 filled_up) was)
  ]

  denied_filled : read_denied (front ++ rest) ≡ Some r → IsSome (read_denied filled_up)
  unfolding read_denied read_rpc_mismatch
  denied_filled was = elim (cases_lt w 4) [
    | inl early ↦ rw (length-filled, zero_at 12 (omega (arith, early)) (omega arith)) refl
    | inr late ↦
        let a = passed (ltb (length (front ++ rest)) 20) (by_reject_stat (front ++ rest)) r was in
        rw (length-filled, kept 12 (omega (arith, late))) (by_test IsSome r (eqb (word 3 (front ++ rest)) 0) _ _ _ _ a.1 (λ b. refl)
        (λ b. by_test IsSome r (eqb (word 3 (front ++ rest)) 1) _ _ _ _ b refused_filled (λ c. absurd cc)))
  ]

  pub head_filled : read_reply (front ++ rest) ≡ Some r → IsSome (read_reply filled_up)
  unfolding read_reply
  head_filled was =
      let a = passed _ (by_reply_stat (front ++ rest)) r was in
      let tests = either (ltb (length (front ++ rest)) 12) (not (eqb (word 1 (front ++ rest)) 1)) a.0 in
      rw (length-filled, kept 4 (omega (arith, begun)), kept 8 (omega (arith, begun)), tests.1) (by_test IsSome r (eqb (number_at 8 (front ++ rest)) 0) _ _ _ _ a.1 accepted_filled
      (λ b. by_test IsSome r (eqb (number_at 8 (front ++ rest)) 1) _ _ _ _ b denied_filled (λ c. absurd cc)))

-- ---- a head has bytes, and ends within those that were read

module _ (bytes : List ℕ) (r : ReplyHead × ℕ) where
  abbrev used_of : Read → ℕ
  used_of (Some read) = read.1
  used_of None = 0

  abbrev Ends : Read → Type 0
  Ends read = (0 < r.1) × (r.1 ≤ length bytes)

  ends_at : (xid : ℕ) (status : ReplyStatus) (place : ℕ) → 0 < place → place ≤ length bytes → says xid status place ≡ Some r → Ends None
  ends_at xid status place some within was = let is : place ≡ r.1 = ap used_of was in (omega (arith, is, some), omega (arith, is, within))

  mismatch_ends : (place : ℕ) → read_prog_mismatch place bytes ≡ Some r → Ends None
  unfolding read_prog_mismatch
  mismatch_ends place was =
      let a = passed (ltb (length bytes) (place + 12)) (says (word 0 bytes) (ProgMismatch (number_at (place + 4) bytes) (number_at (place + 8) bytes)) (place + 12)) r was in
      ends_at (word 0 bytes) (ProgMismatch (number_at (place + 4) bytes) (number_at (place + 8) bytes)) (place + 12) (omega arith) (ltb-false _ _ a.0) a.1

  accepted_ends : read_accepted bytes ≡ Some r → Ends None
  accepted_ends was =
      let c : ℕ = number_at 16 bytes in
      let e : ℕ = 20 + c + residue c in
      let a = was_accepted bytes c r refl was in
      stat_is Ends r bytes bytes refl e (λ status said. ends_at (word 0 bytes) status (e + 4) (omega arith) a.long said) (number_at e bytes) (mismatch_ends e) a.stat

  refused_ends : (o : Option AuthStat) (xid : ℕ) → 20 ≤ length bytes → refused_by o xid ≡ Some r → Ends None
  refused_ends (Some stat) xid long was = ends_at xid (AuthError stat) 20 (omega arith) long was
  refused_ends None xid long was = absurd cc

  denied_ends : read_denied bytes ≡ Some r → Ends None
  unfolding read_denied read_rpc_mismatch
  denied_ends was =
      let a = passed (ltb (length bytes) 20) (by_reject_stat bytes) r was in
      by_test Ends r (eqb (word 3 bytes) 0) (read_rpc_mismatch bytes) (cond (eqb (word 3 bytes) 1) (refused_by (auth_stat_of (word 4 bytes)) (word 0 bytes)) None) None None a.1
      (λ b.
      let d = passed (ltb (length bytes) 24) (says (word 0 bytes) (RpcMismatch (word 4 bytes) (word 5 bytes)) 24) r b in
      ends_at (word 0 bytes) (RpcMismatch (word 4 bytes) (word 5 bytes)) 24 (omega arith) (ltb-false _ _ d.0) d.1)
      (λ b. by_test Ends r (eqb (word 3 bytes) 1) (refused_by (auth_stat_of (word 4 bytes)) (word 0 bytes)) None None None b (refused_ends (auth_stat_of (word 4 bytes)) (word 0 bytes) (ltb-false _ _ a.0)) (λ d. absurd cc))

  pub head_ends : read_reply bytes ≡ Some r → (0 < r.1) × (r.1 ≤ length bytes)
  unfolding read_reply
  head_ends was =
      by_test Ends r (eqb (word 2 bytes) 0) (read_accepted bytes) (cond (eqb (word 2 bytes) 1) (read_denied bytes) None) None None (passed _ (by_reply_stat bytes) r was).1 accepted_ends
      (λ b. by_test Ends r (eqb (word 2 bytes) 1) (read_denied bytes) None None None b denied_ends (λ c. absurd cc))

-- ---- no head, however it goes on

module _ (bytes more : List ℕ) (long : 12 ≤ length bytes) (no : is_some (read_reply (filled bytes)) ≡ false) where
  abbrev w : ℕ
  w = min (length bytes / 4) 108

  abbrev front : List ℕ
  front = take (4 * w) bytes

  front_size : length front ≡ 4 * w
  front_size = omega (arith, length-take (4 * w) bytes)

  no_head : (rest : List ℕ) → read_reply (front ++ rest) ≡ None
  no_head rest = by_reading (read_reply (front ++ rest)) refl
    where
      by_reading : (read : Read) → read_reply (front ++ rest) ≡ read → read ≡ None
      by_reading None e = refl
      by_reading (Some r) e = absurd (let never = sym no ∙ head_filled w front rest front_size (omega (arith, long)) (omega arith) r e in cc)

  goes_on : bytes ++ more ≡ front ++ (drop (4 * w) bytes ++ more)
  goes_on = ap (λ (xs : List ℕ). xs ++ more) (sym (take-append-drop (4 * w) bytes)) ∙ append_assoc front (drop (4 * w) bytes) more

  pub none_read : read_reply (bytes ++ more) ≡ None
  none_read = ap read_reply goes_on ∙ no_head (drop (4 * w) bytes ++ more)

  pub none_filled : read_reply (filled (bytes ++ more)) ≡ None
  none_filled =
      let k : ℕ = words_there (length (bytes ++ more)) in
      let rest : List ℕ = drop (4 * w) bytes ++ more in
      let z : List ℕ = replicate (432 - k) 0 in
      let size : k ≡ length front + (k - 4 * w) = omega (arith, front_size, length-append bytes more) in
      let taken : take k (bytes ++ more) ≡ front ++ take (k - 4 * w) rest =
      ap (take k) goes_on ∙ ap (λ (n : ℕ). take n (front ++ rest)) size ∙ take-append-add front rest (k - 4 * w) in
      ap (λ (xs : List ℕ). read_reply (xs ++ z)) taken ∙ ap read_reply (append_assoc front (take (k - 4 * w) rest) z) ∙ no_head (take (k - 4 * w) rest ++ z)

-- ---- what is taken

-- the words that are there, copied over zeros
pub filled_is : (bytes part : List ℕ) (count : ℕ) → count ≡ words_there (length bytes) → part ≡ take count bytes → part ++ drop count (replicate 432 0) ≡ filled bytes
filled_is bytes part count count_is part_is = rw (part_is, drop-replicate {X = ℕ} count 432 0, count_is) refl

pub may_begin_is : (bytes : List ℕ) → 12 ≤ length bytes → may_begin bytes ≡ is_some (read_reply (filled bytes))
unfolding may_begin
may_begin_is bytes long = rw (le-ltb (length bytes) 12 long) refl

unreadable_is : (bytes : List ℕ) → may_begin bytes ≡ false → (12 ≤ length bytes) × (is_some (read_reply (filled bytes)) ≡ false)
unfolding may_begin
unreadable_is bytes e = let tests = either (ltb (length bytes) 12) (is_some (read_reply (filled bytes))) e in (ltb-false (length bytes) 12 tests.0, tests.1)

pub no_head_comes : NoHeadComes
no_head_comes bytes more e = let it = unreadable_is bytes e in none_read bytes more it.0 it.1

-- and none may begin still
still_none : (bytes more : List ℕ) → may_begin bytes ≡ false → may_begin (bytes ++ more) ≡ false
unfolding may_begin
still_none bytes more e =
    let it = unreadable_is bytes e in
    rw (le-ltb (length (bytes ++ more)) 12 (omega (arith, it.0, length-append bytes more)), none_filled bytes more it.0 it.1) refl

pub takes_read : (bytes : List ℕ) (read : ReplyHead × ℕ) → read_reply bytes ≡ Some read → read.1 ≤ length bytes → Takes take_head bytes read.0 read.1
unfolding take_head
takes_read bytes read e within = record {
  within = within;
  goes_on = λ end more.
      ap (λ (r : Read). by_reading r (may_begin (bytes ++ more)) end (bytes ++ more)) (head_stays bytes more read e)
      ∙ ap (λ (left : List ℕ). Done [] read.0 left) (drop-append-le read.1 bytes more within);
}

pub lacks_words : (bytes : List ℕ) → read_reply bytes ≡ None → may_begin bytes ≡ true → Pauses take_head bytes More
unfolding take_head
lacks_words bytes e may end = rw (e, may) refl

pub is_no_head : (bytes : List ℕ) → may_begin bytes ≡ false → Pauses take_head bytes (Fault Unreadable)
unfolding take_head
is_no_head bytes e = inr (λ end more. rw (no_head_comes bytes more e, still_none bytes more e) refl)

pub heads_read : HeadsAreRead
unfolding take_head
heads_read end content = by_read (read_reply content) (may_begin content)
  where
    by_read : (read : Read) (may : Bool) → IsHead read end content (by_reading read may end content)
    by_read (Some read) may = refl
    by_read None true = inr refl
    by_read None false = inl refl

pub heads_stay : HeadsStay
heads_stay bytes more read e = head_stays bytes more read e
