-- A machine that walks over a credential or a verifier, word by word.
use Rattle.std.proofs.Common.{◌≡◌, ◌<◌, ◌≤◌, ◌+◌, ◌-◌, ℕ, Bool, true, false, not, cond, eqb, ltb, ◌&&◌, ◌||◌, List, [], ◌∷◌, ◌++◌, length, take, drop, refl, sym, ap, ◌∙◌, arith, inl, inr, ◌⊎◌, length-append}
use Rattle.std.specs.Prelude.{slice_range, fold}
use Rattle.std.proofs.lemmas.List.{drop-drop, length-drop, drop_at}
use Rattle.std.proofs.lemmas.Bool.{lt-ltb, le-ltb, eqb-true, eqb-false, cond-true, cond-false}
use Rattle.std.proofs.lemmas.Bool.Decides.{nat_tests}
use Rattle.rb_xdr.specs.Xdr.{AreNumbers, number, number_at, words, residue, are_zero}
use Rattle.rb_xdr.proofs.Words.{length-number, number_at-number, number_at-drop, number_at-append}
use Rattle.rb_rpc.specs.Messages.{max_auth_body}
use Rattle.rb_rpc.specs.declared.call.Verdict.{Verdict}
use Rattle.rb_rpc.specs.Verdict.{body_length, auth_end, is_over_long, is_broken}
use Rattle.rb_rpc.specs.declared.call.Verdict.TheVariants.{NoCall}
use Rattle.rb_rpc.proofs.ContentWalks.{Walks, Walked, walked, stays_bad, one_in_front}

-- ---- at a place, by the bytes after it

same_ltb : (a b c d : ℕ) → (a < b → c < d) → (c < d → a < b) → ltb a b ≡ ltb c d
same_ltb a b c d there back = grind (arith, nat_tests)

short_over : (n : ℕ) (bytes : List ℕ) → length bytes < n + 8 → is_over_long n bytes ≡ false
unfolding is_over_long
short_over n bytes short = ap (λ (b : Bool). not b && ltb max_auth_body (body_length n bytes)) (lt-ltb (length bytes) (n + 8) short)

short_broken : (n : ℕ) (bytes : List ℕ) → length bytes < n + 8 → is_broken n bytes ≡ true
unfolding is_broken auth_end
short_broken n bytes short =
    ap (λ (b : Bool). b || not (are_zero (slice_range bytes (n + 8 + body_length n bytes) (n + 8 + body_length n bytes + residue (body_length n bytes)))))
    (lt-ltb (length bytes) (n + 8 + body_length n bytes + residue (body_length n bytes)) (omega (arith, short)))

over_is : (n l : ℕ) (bytes : List ℕ) → body_length n bytes ≡ l → n + 8 ≤ length bytes → is_over_long n bytes ≡ ltb max_auth_body l
unfolding is_over_long
over_is n l bytes len long = rw (len, le-ltb (length bytes) (n + 8) long) refl

broken_is : (n l : ℕ) (bytes b : List ℕ) → body_length n bytes ≡ l → n + 8 ≤ length bytes → drop (n + 8) bytes ≡ b
    → is_broken n bytes ≡ (ltb (length b) (l + residue l) || not (are_zero (slice_range b l (l + residue l))))
unfolding is_broken auth_end
broken_is n l bytes b len long behind =
    let size : length b ≡ length bytes - (n + 8) = omega (arith, ap length behind, length-drop (n + 8) bytes) in
    let e : n + 8 + l + residue l - (n + 8 + l) ≡ residue l = omega arith in
    let f : l + residue l - l ≡ residue l = omega arith in
    let left : drop (n + 8 + l) bytes ≡ drop l b = sym (drop-drop l (n + 8) bytes) ∙ ap (λ (xs : List ℕ). drop l xs) behind in
    let test : ltb (length bytes) (n + 8 + l + residue l) ≡ ltb (length b) (l + residue l) = same_ltb _ _ _ _ (λ h. omega (arith, h, size, long)) (λ h. omega (arith, h, size, long)) in
    rw (len, test, e, f, left) refl

end_is : (n l : ℕ) (bytes : List ℕ) → body_length n bytes ≡ l → auth_end n bytes ≡ n + 8 + l + residue l
unfolding auth_end
end_is n l bytes len = rw len refl

length_at_is : (n : ℕ) (bytes : List ℕ) → body_length n bytes ≡ number_at (n + 4) bytes
unfolding body_length
length_at_is n bytes = refl

-- ---- the machine

pub record WalksAuth {S A : Type 0} (step : S → ℕ → S) (end : S → Verdict) (flavor_at : S) (length_at : ℕ → S) (over : S) (at : ℕ → ℕ → ℕ → A → S) (more : A → ℕ → A) (start : A) (next : ℕ → ℕ → A → S) (bad : S) : Type 0 where
  pub takes_flavor : (w : ℕ) → step flavor_at w ≡ length_at w
  pub takes_length : (f w : ℕ) → step (length_at f) w ≡ cond (ltb max_auth_body w) over (cond (eqb w 0) (next f w start) (at f w w start))
  pub walks : (f l : ℕ) → Walks step (at f l) more (next f l) bad
  pub over_stays : (w : ℕ) → step over w ≡ over
  pub ends_flavor : end flavor_at ≡ NoCall
  pub ends_length : (f : ℕ) → end (length_at f) ≡ NoCall
  pub ends_at : (f l left : ℕ) (a : A) → end (at f l left a) ≡ NoCall
  pub ends_bad : end bad ≡ NoCall

pub record OverLong {S : Type 0} (step : S → ℕ → S) (flavor_at over : S) (n : ℕ) (bytes ws : List ℕ) : Type 0 where
  pub over_long : is_over_long n bytes ≡ true
  pub runs : fold step flavor_at ws ≡ over

pub record Broken {S : Type 0} (step : S → ℕ → S) (end : S → Verdict) (flavor_at : S) (n : ℕ) (bytes ws : List ℕ) : Type 0 where
  pub not_over : is_over_long n bytes ≡ false
  pub broken : is_broken n bytes ≡ true
  pub ends : end (fold step flavor_at ws) ≡ NoCall

pub record Sound {S A : Type 0} (step : S → ℕ → S) (flavor_at : S) (more : A → ℕ → A) (start : A) (next : ℕ → ℕ → A → S) (n : ℕ) (bytes ws p : List ℕ) : Type 0 where
  pub flavor : ℕ
  pub len : ℕ
  pub front : List ℕ
  pub part : List ℕ
  pub rest : List ℕ
  pub not_over : is_over_long n bytes ≡ false
  pub not_broken : is_broken n bytes ≡ false
  pub flavor_is : number_at n bytes ≡ flavor
  pub len_is : body_length n bytes ≡ len
  pub end_is : auth_end n bytes ≡ n + 8 + len + residue len
  pub within : auth_end n bytes ≤ length bytes
  pub content : take len (drop (n + 8) bytes) ≡ words front ++ part
  pub few : length part < 4
  pub front_fits : AreNumbers front
  pub rest_is : drop (auth_end n bytes) bytes ≡ words rest ++ p
  pub rest_fits : AreNumbers rest
  pub runs : fold step flavor_at ws ≡ fold step (next flavor len (fold more start front)) rest

pub auth_walked : {S A : Type 0} (step : S → ℕ → S) (end : S → Verdict) (flavor_at : S) (length_at : ℕ → S) (over : S) (at : ℕ → ℕ → ℕ → A → S) (more : A → ℕ → A) (start : A) (next : ℕ → ℕ → A → S) (bad : S)
    → WalksAuth step end flavor_at length_at over at more start next bad
    → (n : ℕ) (bytes ws p : List ℕ) → n ≤ length bytes → drop n bytes ≡ words ws ++ p → length p < 4 → AreNumbers ws
    → OverLong step flavor_at over n bytes ws ⊎ (Broken step end flavor_at n bytes ws ⊎ Sound step flavor_at more start next n bytes ws p)
auth_walked step end flavor_at length_at over at more start next bad is n bytes [] p within behind few fit =
    let short : length bytes < n + 8 = omega (arith, few, ap length behind, length-drop n bytes) in
    inr (inl (record { not_over = short_over n bytes short; broken = short_broken n bytes short; ends = is.ends_flavor }))
auth_walked step end flavor_at length_at over at more start next bad is n bytes (f ∷ []) p within behind few fit =
    let short : length bytes < n + 8 = omega (arith, few, ap length behind, length-drop n bytes, length-append (words (f ∷ [])) p, length-append (number f) [], length-number f) in
    inr (inl (record { not_over = short_over n bytes short; broken = short_broken n bytes short; ends = ap end (is.takes_flavor f) ∙ is.ends_length f }))
auth_walked step end flavor_at length_at over at more start next bad is n bytes (f ∷ l ∷ ws) p within behind few fit =
    by_length (ltb max_auth_body l) refl
  where
    b : List ℕ
    b = words ws ++ p

    spelled : drop n bytes ≡ number f ++ (number l ++ (words ws ++ p))
    spelled = behind ∙ one_in_front f (l ∷ ws) p ∙ ap (λ (xs : List ℕ). number f ++ xs) (one_in_front l ws p)

    size : length bytes ≡ n + 8 + length (words ws ++ p)
    size = omega (arith, within, ap length spelled, length-drop n bytes, length-append (number f) (number l ++ (words ws ++ p)), length-append (number l) (words ws ++ p), length-number f, length-number l)

    flavor_is : number_at n bytes ≡ f
    flavor_is = ap (λ (k : ℕ). number_at k bytes) same_place ∙ sym (number_at-drop n 0 bytes) ∙ ap (λ (xs : List ℕ). number_at 0 xs) spelled ∙ number_at-number f (number l ++ (words ws ++ p)) fit.0
      where
        same_place : n ≡ n + 0
        same_place = omega arith

    len_is : body_length n bytes ≡ l
    len_is = length_at_is n bytes ∙ sym (number_at-drop n 4 bytes) ∙ ap (λ (xs : List ℕ). number_at 4 xs) spelled ∙ number_at-append (number f) (number l ++ (words ws ++ p)) 4 0 (length-number f) ∙ number_at-number l (words ws ++ p) fit.1.0

    body : drop (n + 8) bytes ≡ words ws ++ p
    body =
        ap (λ (k : ℕ). drop k bytes) eight ∙ sym (drop-drop 4 (n + 4) bytes) ∙ ap (λ (xs : List ℕ). drop 4 xs) (sym (drop-drop 4 n bytes))
        ∙ ap (λ (xs : List ℕ). drop 4 (drop 4 xs)) spelled
        ∙ ap (λ (xs : List ℕ). drop 4 xs) (drop_at (number f) (number l ++ (words ws ++ p)) 4 (length-number f))
        ∙ drop_at (number l) (words ws ++ p) 4 (length-number l)
      where
        eight : n + 8 ≡ n + 4 + 4
        eight = omega arith

    long : n + 8 ≤ length bytes
    long = omega (arith, size)

    runs : fold step flavor_at (f ∷ l ∷ ws) ≡ fold step (cond (ltb max_auth_body l) over (cond (eqb l 0) (next f l start) (at f l l start))) ws
    runs = ap (λ s. fold step (step s l) ws) (is.takes_flavor f) ∙ ap (λ s. fold step s ws) (is.takes_length f l)

    by_walk : is_over_long n bytes ≡ false → fold step flavor_at (f ∷ l ∷ ws) ≡ fold step (at f l l start) ws → Walked step (at f l) more (next f l) bad l start ws p
        → OverLong step flavor_at over n bytes (f ∷ l ∷ ws) ⊎ (Broken step end flavor_at n bytes (f ∷ l ∷ ws) ⊎ Sound step flavor_at more start next n bytes (f ∷ l ∷ ws) p)
    by_walk few_there ran (inl cut) = inr (inl (record {
      not_over = few_there;
      broken = broken_is n l bytes (words ws ++ p) len_is long body ∙ ap (λ (t : Bool). t || not (are_zero (slice_range (words ws ++ p) l (l + residue l)))) (lt-ltb _ _ cut.short);
      ends = ap end (ran ∙ cut.runs) ∙ is.ends_at f l cut.still cut.so_far;
    }))
    by_walk few_there ran (inr (inl spoilt)) = inr (inl (record {
      not_over = few_there;
      broken = broken_is n l bytes (words ws ++ p) len_is long body ∙ rw (le-ltb (length (words ws ++ p)) (l + residue l) spoilt.long, spoilt.zeros) refl;
      ends = ap end (ran ∙ spoilt.runs) ∙ is.ends_bad;
    }))
    by_walk few_there ran (inr (inr passed)) = inr (inr (record {
      flavor = f;
      len = l;
      front = passed.front;
      part = passed.part;
      rest = passed.rest;
      not_over = few_there;
      not_broken = broken_is n l bytes (words ws ++ p) len_is long body ∙ rw (le-ltb (length (words ws ++ p)) (l + residue l) passed.long, passed.zeros) refl;
      flavor_is = flavor_is;
      len_is = len_is;
      end_is = end_is n l bytes len_is;
      within = omega (arith, end_is n l bytes len_is, passed.long, size);
      content = ap (λ (xs : List ℕ). take l xs) body ∙ passed.content;
      few = passed.few;
      front_fits = passed.front_fits;
      rest_is = ap (λ (k : ℕ). drop k bytes) (end_is n l bytes len_is ∙ regroup) ∙ sym (drop-drop (l + residue l) (n + 8) bytes) ∙ ap (λ (xs : List ℕ). drop (l + residue l) xs) body ∙ passed.rest_is;
      rest_fits = passed.rest_fits;
      runs = ran ∙ passed.runs;
    }))
      where
        regroup : n + 8 + l + residue l ≡ n + 8 + (l + residue l)
        regroup = omega arith

    no_body : l ≡ 0 → is_over_long n bytes ≡ false → fold step flavor_at (f ∷ l ∷ ws) ≡ fold step (next f l start) ws → Sound step flavor_at more start next n bytes (f ∷ l ∷ ws) p
    no_body none few_there ran = record {
      flavor = f;
      len = l;
      front = [];
      part = [];
      rest = ws;
      not_over = few_there;
      not_broken = broken_is n l bytes (words ws ++ p) len_is long body ∙ rw none (ap (λ (t : Bool). t || false) (le-ltb (length (words ws ++ p)) 0 (omega arith)));
      flavor_is = flavor_is;
      len_is = len_is;
      end_is = end_is n l bytes len_is;
      within = omega (arith, end_is n l bytes len_is, none, size);
      content = ap (λ (k : ℕ). take k (drop (n + 8) bytes)) none;
      few = omega arith;
      front_fits = tt;
      rest_is = ap (λ (k : ℕ). drop k bytes) (end_is n l bytes len_is ∙ nothing) ∙ body;
      rest_fits = fit.1.1;
      runs = ran;
    }
      where
        nothing : n + 8 + l + residue l ≡ n + 8
        nothing = omega (arith, none)

    by_body : (t : Bool) → eqb l 0 ≡ t → is_over_long n bytes ≡ false → fold step flavor_at (f ∷ l ∷ ws) ≡ fold step (cond (eqb l 0) (next f l start) (at f l l start)) ws
        → OverLong step flavor_at over n bytes (f ∷ l ∷ ws) ⊎ (Broken step end flavor_at n bytes (f ∷ l ∷ ws) ⊎ Sound step flavor_at more start next n bytes (f ∷ l ∷ ws) p)
    by_body true e few_there ran = inr (inr (no_body (eqb-true _ _ e) few_there (ran ∙ ap (λ s. fold step s ws) (cond-true _ _ _ e))))
    by_body false e few_there ran =
        by_walk few_there (ran ∙ ap (λ s. fold step s ws) (cond-false _ _ _ e)) (walked step (at f l) more (next f l) bad (is.walks f l) ws p l start (above l (eqb-false _ _ e)) few fit.1.1)
      where
        above : (k : ℕ) → (k ≡ 0 → ⊥) → 0 < k
        above k differs = omega (arith, differs)

    by_length : (t : Bool) → ltb max_auth_body l ≡ t → OverLong step flavor_at over n bytes (f ∷ l ∷ ws) ⊎ (Broken step end flavor_at n bytes (f ∷ l ∷ ws) ⊎ Sound step flavor_at more start next n bytes (f ∷ l ∷ ws) p)
    by_length true e = inl (record {
      over_long = over_is n l bytes len_is long ∙ e;
      runs = runs ∙ ap (λ s. fold step s ws) (cond-true _ _ _ e) ∙ stays_bad step over is.over_stays ws;
    })
    by_length false e = by_body (eqb l 0) refl (over_is n l bytes len_is long ∙ e) (runs ∙ ap (λ s. fold step s ws) (cond-false _ _ _ e))
