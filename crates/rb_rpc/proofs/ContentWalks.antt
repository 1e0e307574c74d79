-- A machine that walks over content and its residual bytes, word by word.
use Rattle.std.proofs.Common.{◌≡◌, ◌<◌, ◌≤◌, ◌+◌, ◌-◌, ℕ, zero, suc, Bool, true, false, cond, eqb, ltb, List, [], ◌∷◌, ◌++◌, length, take, drop, refl, sym, ap, ◌∙◌, append_assoc, append-nil, arith, inl, inr, ◌⊎◌, length-append}
use Rattle.std.specs.Prelude.{slice_range, fold}
use Rattle.std.proofs.lemmas.List.{drop-drop, length-take, length-drop, take_at, drop_at, take-append-le}
use Rattle.std.proofs.lemmas.Bool.{ltb-false, ltb-true, eqb-true, eqb-false, cond-true, cond-false}
use Rattle.std.proofs.Math.Seq.{take-add}
use Rattle.rb_xdr.specs.Xdr.{AreNumbers, number, words, residue, are_zero}
use Rattle.rb_xdr.proofs.Words.{length-number}
use Rattle.rb_rpc.specs.SysFields.{ends_in_zeros}

-- `at left a` is before this many more bytes of content; `a` gathers the words that are all content.
pub record Walks {S A : Type 0} (step : S → ℕ → S) (at : ℕ → A → S) (more : A → ℕ → A) (next : A → S) (bad : S) : Type 0 where
  pub goes : (left : ℕ) (a : A) (w : ℕ)
      → step (at left a) w ≡ cond (ltb 4 left) (at (left - 4) (more a w)) (cond (ends_in_zeros left w) (next (cond (eqb left 4) (more a w) a)) bad)
  pub stays : (w : ℕ) → step bad w ≡ bad

-- the bytes end before the content and its residual bytes do
pub record Cut {S A : Type 0} (step : S → ℕ → S) (at : ℕ → A → S) (left : ℕ) (a : A) (ws p : List ℕ) : Type 0 where
  pub short : length (words ws ++ p) < left + residue left
  pub still : ℕ
  pub so_far : A
  pub runs : fold step (at left a) ws ≡ at still so_far

-- a residual byte isn't zero
pub record Spoilt {S A : Type 0} (step : S → ℕ → S) (at : ℕ → A → S) (bad : S) (left : ℕ) (a : A) (ws p : List ℕ) : Type 0 where
  pub long : left + residue left ≤ length (words ws ++ p)
  pub zeros : are_zero (slice_range (words ws ++ p) left (left + residue left)) ≡ false
  pub runs : fold step (at left a) ws ≡ bad

-- all there: the words that are all content, the bytes of one that is content in part, and the words after
pub record Passed {S A : Type 0} (step : S → ℕ → S) (at : ℕ → A → S) (more : A → ℕ → A) (next : A → S) (left : ℕ) (a : A) (ws p : List ℕ) : Type 0 where
  pub front : List ℕ
  pub part : List ℕ
  pub rest : List ℕ
  pub long : left + residue left ≤ length (words ws ++ p)
  pub zeros : are_zero (slice_range (words ws ++ p) left (left + residue left)) ≡ true
  pub content : take left (words ws ++ p) ≡ words front ++ part
  pub few : length part < 4
  pub front_fits : AreNumbers front
  pub rest_is : drop (left + residue left) (words ws ++ p) ≡ words rest ++ p
  pub rest_fits : AreNumbers rest
  pub runs : fold step (at left a) ws ≡ fold step (next (fold more a front)) rest

-- ---- one word in front

pub one_in_front : (w : ℕ) (ws p : List ℕ) → words (w ∷ ws) ++ p ≡ number w ++ (words ws ++ p)
one_in_front w ws p = append_assoc (number w) (words ws) p

pub drop_word : (k w : ℕ) (b : List ℕ) → drop (4 + k) (number w ++ b) ≡ drop k b
drop_word k w b = sym (drop-drop k 4 (number w ++ b)) ∙ ap (λ (xs : List ℕ). drop k xs) (drop_at (number w) b 4 (length-number w))

take_word : (k w : ℕ) (b : List ℕ) → take (4 + k) (number w ++ b) ≡ number w ++ take k b
take_word k w b =
    take-add 4 k (number w ++ b) ∙ rw (take_at (number w) b 4 (length-number w), drop_at (number w) b 4 (length-number w)) refl

slice_word : (k r w : ℕ) (b : List ℕ) → slice_range (number w ++ b) (4 + k) (4 + k + r) ≡ slice_range b k (k + r)
slice_word k r w b =
    let e : 4 + k + r - (4 + k) ≡ r = omega arith in
    let f : k + r - k ≡ r = omega arith in
    rw (e, f, drop_word k w b) refl

-- the residual bytes of a word that is content in part
slice_last : (k w : ℕ) (b : List ℕ) → k ≤ 4 → slice_range (number w ++ b) k 4 ≡ drop k (number w)
slice_last k w b few =
    ap (λ (xs : List ℕ). take (4 - k) xs) (drop_within k (number w) b (omega (arith, few, length-number w)))
    ∙ take_at (drop k (number w)) b (4 - k) (omega (arith, length-drop k (number w), length-number w))
  where
    drop_within : (k : ℕ) (xs ys : List ℕ) → k ≤ length xs → drop k (xs ++ ys) ≡ drop k xs ++ ys
    drop_within zero xs ys le = refl
    drop_within (suc k) [] ys le = absurd (omega (arith, le))
    drop_within (suc k) (x ∷ xs) ys le = drop_within k xs ys (omega (arith, le))

pub ends_is : (left w : ℕ) → are_zero (drop left (number w)) ≡ ends_in_zeros left w
unfolding ends_in_zeros
ends_is left w = refl

-- ---- the walk

abbrev pub Walked : {S A : Type 0} (step : S → ℕ → S) (at : ℕ → A → S) (more : A → ℕ → A) (next : A → S) (bad : S) (left : ℕ) (a : A) (ws p : List ℕ) → Type 0
Walked step at more next bad left a ws p = Cut step at left a ws p ⊎ (Spoilt step at bad left a ws p ⊎ Passed step at more next left a ws p)

pub stays_bad : {S : Type 0} (step : S → ℕ → S) (bad : S) → ((w : ℕ) → step bad w ≡ bad) → (ws : List ℕ) → fold step bad ws ≡ bad
stays_bad step bad stays [] = refl
stays_bad step bad stays (w ∷ ws) = ap (λ s. fold step s ws) (stays w) ∙ stays_bad step bad stays ws

pub walked : {S A : Type 0} (step : S → ℕ → S) (at : ℕ → A → S) (more : A → ℕ → A) (next : A → S) (bad : S) → Walks step at more next bad
    → (ws p : List ℕ) (left : ℕ) (a : A) → 0 < left → length p < 4 → AreNumbers ws → Walked step at more next bad left a ws p
walked step at more next bad is [] p left a some few fit = inl (record { short = omega (arith, some, few); still = left; so_far = a; runs = refl })
walked step at more next bad is (w ∷ ws) p left a some few fit = by_test (ltb 4 left) refl (walked step at more next bad is ws p (left - 4) (more a w))
  where
    b : List ℕ
    b = words ws ++ p

    whole : words (w ∷ ws) ++ p ≡ number w ++ (words ws ++ p)
    whole = one_in_front w ws p

    size : length (words (w ∷ ws) ++ p) ≡ 4 + length (words ws ++ p)
    size = omega (arith, ap length whole, length-append (number w) (words ws ++ p), length-number w)

    same_end : (k : ℕ) → left ≡ 4 + k → left + residue left ≡ 4 + (k + residue k)
    same_end k left_is = omega (arith, left_is)

    slice_is : (k : ℕ) → left ≡ 4 + k → slice_range (words (w ∷ ws) ++ p) left (left + residue left) ≡ slice_range (words ws ++ p) k (k + residue k)
    slice_is k left_is =
        let e : residue left ≡ residue k = omega (arith, left_is) in
        rw (whole, e, left_is) (slice_word k (residue k) w (words ws ++ p))

    more_left : (k : ℕ) → left ≡ 4 + k → fold step (at left a) (w ∷ ws) ≡ fold step (at k (more a w)) ws
        → Walked step at more next bad k (more a w) ws p → Walked step at more next bad left a (w ∷ ws) p
    more_left k left_is runs (inl cut) = inl (record { short = omega (arith, cut.short, size, left_is); still = cut.still; so_far = cut.so_far; runs = runs ∙ cut.runs })
    more_left k left_is runs (inr (inl spoilt)) = inr (inl (record {
      long = omega (arith, spoilt.long, size, left_is);
      zeros = ap are_zero (slice_is k left_is) ∙ spoilt.zeros;
      runs = runs ∙ spoilt.runs;
    }))
    more_left k left_is runs (inr (inr passed)) = inr (inr (record {
      front = w ∷ passed.front;
      part = passed.part;
      rest = passed.rest;
      long = omega (arith, passed.long, size, left_is);
      zeros = ap are_zero (slice_is k left_is) ∙ passed.zeros;
      content = rw (left_is, whole) (take_word k w (words ws ++ p)) ∙ ap (λ (xs : List ℕ). number w ++ xs) passed.content ∙ sym (one_in_front w passed.front passed.part);
      few = passed.few;
      front_fits = (fit.0, passed.front_fits);
      rest_is = ap (λ (n : ℕ). drop n (words (w ∷ ws) ++ p)) (same_end k left_is) ∙ ap (λ (xs : List ℕ). drop (4 + (k + residue k)) xs) whole ∙ drop_word (k + residue k) w (words ws ++ p) ∙ passed.rest_is;
      rest_fits = passed.rest_fits;
      runs = runs ∙ passed.runs;
    }))

    last_is : left ≤ 4 → are_zero (slice_range (words (w ∷ ws) ++ p) left (left + residue left)) ≡ ends_in_zeros left w
    last_is le =
        let e : left + residue left ≡ 4 = omega (arith, le, some) in
        rw (whole, e) (ap are_zero (slice_last left w (words ws ++ p) le) ∙ ends_is left w)

    last_rest : left ≤ 4 → drop (left + residue left) (words (w ∷ ws) ++ p) ≡ words ws ++ p
    last_rest le =
        let e : left + residue left ≡ 4 = omega (arith, le, some) in
        rw (whole, e) (drop_at (number w) (words ws ++ p) 4 (length-number w))

    last_long : left ≤ 4 → left + residue left ≤ length (words (w ∷ ws) ++ p)
    last_long le = omega (arith, le, some, size)

    -- the last word is all content, or in part
    ending : (t : Bool) → left ≤ 4 → eqb left 4 ≡ t → ends_in_zeros left w ≡ true → fold step (at left a) (w ∷ ws) ≡ fold step (next (cond t (more a w) a)) ws
        → Passed step at more next left a (w ∷ ws) p
    ending true le e zeros runs = record {
      front = w ∷ [];
      part = [];
      rest = ws;
      long = last_long le;
      zeros = last_is le ∙ zeros;
      content = rw (whole, eqb-true _ _ e) (take_at (number w) (words ws ++ p) 4 (length-number w) ∙ sym (append-nil (number w)) ∙ sym (append-nil (number w ++ [])));
      few = omega arith;
      front_fits = (fit.0, tt);
      rest_is = last_rest le;
      rest_fits = fit.1;
      runs = runs;
    }
    ending false le e zeros runs = record {
      front = [];
      part = take left (number w);
      rest = ws;
      long = last_long le;
      zeros = last_is le ∙ zeros;
      content = rw whole (take-append-le left (number w) (words ws ++ p) (omega (arith, le, length-number w)));
      few = below (eqb-false _ _ e);
      front_fits = tt;
      rest_is = last_rest le;
      rest_fits = fit.1;
      runs = runs;
    }
      where
        below : (left ≡ 4 → ⊥) → length (take left (number w)) < 4
        below differs = omega (arith, le, differs, length-take left (number w))

    last : left ≤ 4 → step (at left a) w ≡ cond (ends_in_zeros left w) (next (cond (eqb left 4) (more a w) a)) bad → (t : Bool) → ends_in_zeros left w ≡ t → Walked step at more next bad left a (w ∷ ws) p
    last le goes true e = inr (inr (ending (eqb left 4) le refl e (ap (λ s. fold step s ws) (goes ∙ cond-true _ _ _ e))))
    last le goes false e = inr (inl (record {
      long = last_long le;
      zeros = last_is le ∙ e;
      runs = ap (λ s. fold step s ws) (goes ∙ cond-false _ _ _ e) ∙ stays_bad step bad is.stays ws;
    }))

    by_test : (t : Bool) → ltb 4 left ≡ t → (0 < left - 4 → length p < 4 → AreNumbers ws → Walked step at more next bad (left - 4) (more a w) ws p) → Walked step at more next bad left a (w ∷ ws) p
    by_test true e later =
        let lt : 4 < left = ltb-true _ _ e in
        more_left (left - 4) (omega (arith, lt)) (ap (λ s. fold step s ws) (is.goes left a w ∙ cond-true _ _ _ e)) (later (omega (arith, lt)) few fit.1)
    by_test false e later = last (ltb-false _ _ e) (is.goes left a w ∙ cond-false _ _ _ e) (ends_in_zeros left w) refl
