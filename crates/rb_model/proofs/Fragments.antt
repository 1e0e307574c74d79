-- A marked reply, unrolled into its fragments.
use Rattle.std.proofs.Common.{◌≡◌, ◌<◌, ◌≤◌, ◌+◌, ℕ, zero, suc, true, false, List, [], ◌∷◌, ◌++◌, length, take, drop, refl, sym, ap, ◌∙◌, append-nil, arith, inl, inr, length-append}
use Rattle.std.proofs.lemmas.List.{length-take, length-drop}
use Rattle.std.proofs.lemmas.Bool.{lt-ltb, cond-true, cases_lt}
use Rattle.std.proofs.lemmas.Grind.{common_steps}
use Rattle.rb_rpc.specs.Records.{Fragment, fragment_header, markings, fragment_size, cut_up, reply_fragments, marked_reply}
use Rattle.rb_rpc.proofs.Markings.{length-header}
use Rattle.rb_model.specs.Connections.{longest_fragment}

pub longest_is : longest_fragment ≡ 1028
unfolding longest_fragment
longest_is = refl

-- ---- a marked reply, unrolled

abbrev only : List ℕ → List Fragment
only reply = record { last = true; content = reply } ∷ []

abbrev front_of : List ℕ → Fragment
front_of reply = record { last = false; content = take fragment_size reply }

cut_short : (k : ℕ) (reply : List ℕ) → length reply ≤ fragment_size → cut_up k reply ≡ only reply
cut_short k reply few = grind (arith, common_steps)

-- fuel of the reply's length is enough
cut_enough : (j k : ℕ) (reply : List ℕ) → length reply ≤ j → length reply ≤ k → cut_up j reply ≡ cut_up k reply
cut_enough zero k reply a b = sym (cut_short k reply (omega (arith, a)))
cut_enough (suc j) zero reply a b = cut_short (suc j) reply (omega (arith, b))
cut_enough (suc j) (suc k) reply a b =
    elim (cases_lt fragment_size (length reply)) [
      | inl long ↦
          let test = lt-ltb fragment_size (length reply) long in
          cond-true _ _ _ test
          ∙ ap (λ (more : List Fragment). front_of reply ∷ more) (cut_enough j k (drop fragment_size reply) (omega (arith, a, long, length-drop fragment_size reply)) (omega (arith, b, long, length-drop fragment_size reply)))
          ∙ sym (cond-true _ _ _ test)
      | inr few ↦ cut_short (suc j) reply few ∙ sym (cut_short (suc k) reply few)
    ]

cut_long : (k : ℕ) (reply : List ℕ) → fragment_size < length reply → length reply ≤ k
    → cut_up k reply ≡ front_of reply ∷ cut_up (length (drop fragment_size reply)) (drop fragment_size reply)
cut_long zero reply long enough = absurd (omega (arith, long, enough))
cut_long (suc k) reply long enough =
    cond-true _ _ _ (lt-ltb fragment_size (length reply) long)
    ∙ ap (λ (more : List Fragment). front_of reply ∷ more) (cut_enough k (length (drop fragment_size reply)) (drop fragment_size reply) (omega (arith, enough, long, length-drop fragment_size reply)) (omega arith))

pub marked-short : (reply : List ℕ) → length reply ≤ fragment_size → marked_reply reply ≡ fragment_header (length reply) true ++ reply
unfolding marked_reply reply_fragments
marked-short reply few = ap (λ (f : List Fragment). markings f) (cut_short (length reply) reply few) ∙ append-nil _

pub marked-long : (reply : List ℕ) → fragment_size < length reply
    → marked_reply reply ≡ (fragment_header fragment_size false ++ take fragment_size reply) ++ marked_reply (drop fragment_size reply)
unfolding marked_reply reply_fragments
marked-long reply long = grind (arith, common_steps, length-take fragment_size reply, cut_long (length reply) reply long)

pub length-short : (reply : List ℕ) → length reply ≤ fragment_size → length (marked_reply reply) ≡ 4 + length reply
length-short reply few = grind (arith, common_steps, marked-short reply few, length-append (fragment_header (length reply) true) reply, length-header (length reply) true)

pub length-front : (reply : List ℕ) → fragment_size < length reply → length (fragment_header fragment_size false ++ take fragment_size reply) ≡ 1028
length-front reply long = grind (arith, length-append (fragment_header fragment_size false) (take fragment_size reply), length-header fragment_size false, length-take fragment_size reply)

pub length-long : (reply : List ℕ) → fragment_size < length reply → length (marked_reply reply) ≡ 1028 + length (marked_reply (drop fragment_size reply))
length-long reply long = grind (arith, common_steps, length-append, marked-long reply long, length-front reply long)

pub some-marked : (reply : List ℕ) → 4 ≤ length (marked_reply reply)
some-marked reply = grind (arith, common_steps, cases_lt fragment_size (length reply), length-long reply, length-short reply)
