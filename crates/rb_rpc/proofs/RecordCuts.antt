-- First records of bytes and of more bytes.
use Rattle.std.proofs.Common.{◌≡◌, ◌⊎◌, ℕ, zero, suc, ◌+◌, ◌%◌, ◌^◌, ◌<◌, ◌≤◌, Bool, true, false, cond, not, ltb, Option, Some, None, List, ◌++◌, length, drop, refl, sym, ap, ◌∙◌, arith, inl, inr, length-append}
use Rattle.std.specs.Option.{option_map}
use Rattle.std.proofs.lemmas.List.{length-drop, take-append-le, drop-append-le}
use Rattle.std.proofs.lemmas.Bool.{ltb-true, ltb-false, le-ltb, cond-false, cases_lt, true≢false}
use Rattle.rb_xdr.specs.Xdr.{number_at}
use Rattle.rb_rpc.specs.Records.{record_of, is_cut, is_last, fragment_end, first_record}
use Rattle.rb_rpc.specs.RecordLaws.{RecordsStay, RecordsEndLater}
use Rattle.rb_rpc.proofs.Markings.{not_cut, mapped}

unmapped : (d : ℕ) (x : Option ℕ) → option_map (λ k. d + k) x ≡ None → x ≡ None
unmapped d None e = refl
unmapped d (Some m) e = absurd cc

chosen : (b : Bool) (e n : ℕ) (v : Option ℕ) → cond b (Some e) v ≡ Some n → (e ≡ n) ⊎ ((b ≡ false) × (v ≡ Some n))
chosen true e n v is = inl cc
chosen false e n v is = inr (refl, is)

not_last : (b : Bool) (e : ℕ) (v : Option ℕ) → cond b (Some e) v ≡ None → (b ≡ false) × (v ≡ None)
not_last true e v is = absurd cc
not_last false e v is = (refl, is)

same_number : (a b : List ℕ) → 4 ≤ length a → number_at 0 (a ++ b) ≡ number_at 0 a
unfolding number_at
same_number a b long = rw (take-append-le 4 a b) refl

-- what is found ends a fragment at least
at_least : (j : ℕ) (bytes : List ℕ) (n : ℕ) → record_of j bytes ≡ Some n → fragment_end bytes ≤ n
at_least zero bytes n is = absurd cc
at_least (suc j) bytes n is =
    let there = not_cut (is_cut bytes) _ n is in
    elim (chosen (is_last bytes) (fragment_end bytes) n _ there.1) [
      | inl e ↦ omega arith
      | inr (b, v) ↦ let more = mapped (fragment_end bytes) n _ v in omega (arith, more.2)
    ]

same_end : (a b : List ℕ) → 4 ≤ length a → fragment_end (a ++ b) ≡ fragment_end a
same_end a b long = ap (λ x. 4 + x % 2 ^ 31) (same_number a b long)

same_flag : (a b : List ℕ) → 4 ≤ length a → is_last (a ++ b) ≡ is_last a
same_flag a b long = ap (λ x. not (ltb x (2 ^ 31))) (same_number a b long)

-- a fragment that is cut in the front ends after it
behind_cut : (a b : List ℕ) (n : ℕ) → is_cut a ≡ true → fragment_end (a ++ b) ≤ n → length a < n
behind_cut a b n cut end =
    elim (cases_lt (length a) 4) [
      | inl short ↦ omega (arith, end)
      | inr long ↦ by_end (ltb (length a) (fragment_end a)) refl long
    ]
  where
    by_end : (x : Bool) → ltb (length a) (fragment_end a) ≡ x → 4 ≤ length a → length a < n
    by_end true e long = omega (arith, ltb-true _ _ e, same_end a b long, end)
    by_end false e long =
        absurd (true≢false (sym cut ∙ e))

abbrev Again : ℕ → ℕ → List ℕ → List ℕ → Type 0
Again k j a b = (m : ℕ) → length a ≤ k → record_of k a ≡ None → record_of j (a ++ b) ≡ Some m → length a < m

pub longer : (k j : ℕ) (a b : List ℕ) (n : ℕ) → length a ≤ k → record_of k a ≡ None → record_of j (a ++ b) ≡ Some n → length a < n
longer k zero a b n within none some = absurd cc
longer zero (suc j) a b n within none some = omega (arith, at_least (suc j) (a ++ b) n some)
longer (suc k) (suc j) a b n within none some = by_cut (is_cut a) refl (λ m. longer k j (drop (fragment_end a) a) b m)
  where
    there : (is_cut (a ++ b) ≡ false) × (cond (is_last (a ++ b)) (Some (fragment_end (a ++ b))) (option_map (λ m. fragment_end (a ++ b) + m) (record_of j (drop (fragment_end (a ++ b)) (a ++ b)))) ≡ Some n)
    there = not_cut (is_cut (a ++ b)) _ n some

    whole : is_cut a ≡ false → (4 ≤ length a) × (fragment_end a ≤ length a)
    whole e = let end : fragment_end a ≤ length a = ltb-false _ _ e in (omega arith, end)

    rest_of : (is_last a ≡ false) × (option_map (λ m. fragment_end a + m) (record_of k (drop (fragment_end a) a)) ≡ None) → is_cut a ≡ false → Again k j (drop (fragment_end a) a) b → length a < n
    rest_of more e again =
        let long = whole e in
        let flag : is_last (a ++ b) ≡ false = same_flag a b long.0 ∙ more.0 in
        let ends : fragment_end (a ++ b) ≡ fragment_end a = same_end a b long.0 in
        let value = rw flag at there.1 in
        let step = mapped (fragment_end (a ++ b)) n _ value in
        let front : drop (fragment_end (a ++ b)) (a ++ b) ≡ drop (fragment_end a) a ++ b = rw ends (drop-append-le (fragment_end a) a b long.1) in
        let found : record_of j (drop (fragment_end a) a ++ b) ≡ Some step.0 = ap (record_of j) (sym front) ∙ step.1 in
        let shorter : length (drop (fragment_end a) a) ≤ k = omega (arith, length-drop (fragment_end a) a, within) in
        let more_of = again step.0 shorter (unmapped (fragment_end a) _ more.1) found in
        omega (arith, more_of, length-drop (fragment_end a) a, step.2, ends, long.1)

    by_cut : (x : Bool) → is_cut a ≡ x → Again k j (drop (fragment_end a) a) b → length a < n
    by_cut true e again = behind_cut a b n e (at_least (suc j) (a ++ b) n some)
    by_cut false e again =
        let tail : Option ℕ = option_map (λ m. fragment_end a + m) (record_of k (drop (fragment_end a) a)) in
        let there : cond (is_last a) (Some (fragment_end a)) tail ≡ None = rw e at none in
        rest_of (not_last (is_last a) (fragment_end a) tail there) e again

pub ends_later : RecordsEndLater
unfolding first_record
ends_later bytes more n none some = longer (length bytes) (length (bytes ++ more)) bytes more n (omega arith) none some

-- ---- a record that ended stays the first

stays_with : (k j : ℕ) (a b : List ℕ) (n : ℕ) → k ≤ j → record_of k a ≡ Some n → record_of j (a ++ b) ≡ Some n
stays_with zero j a b n enough is = absurd cc
stays_with (suc k) zero a b n enough is = absurd (omega (arith, enough))
stays_with (suc k) (suc j) a b n enough is =
    let there = not_cut (is_cut a) _ n is in
    let end : fragment_end a ≤ length a = ltb-false _ _ there.0 in
    let long : 4 ≤ length a = omega (arith, end) in
    let uncut : is_cut (a ++ b) ≡ false = le-ltb _ _ (omega (arith, end, same_end a b long, length-append a b)) in
    let front : drop (fragment_end (a ++ b)) (a ++ b) ≡ drop (fragment_end a) a ++ b = rw (same_end a b long) (drop-append-le (fragment_end a) a b end) in
    cond-false _ _ _ uncut
    ∙ ap (λ (p : Bool × ℕ × List ℕ). cond p.0 (Some p.1) (option_map (λ m. p.1 + m) (record_of j p.2))) (parts _ _ _ _ _ _ (same_flag a b long) (same_end a b long) front)
    ∙ by_flag (is_last a) there.1 (λ m e. stays_with k j (drop (fragment_end a) a) b m (omega (arith, enough)) e)
  where
    parts : (x y : Bool) (p q : ℕ) (s t : List ℕ) → x ≡ y → p ≡ q → s ≡ t → ◌≡◌ {A = Bool × ℕ × List ℕ} (x, p, s) (y, q, t)
    parts x y p q s t e f g = rw (e, f, g) refl

    by_flag : (x : Bool) → cond x (Some (fragment_end a)) (option_map (λ m. fragment_end a + m) (record_of k (drop (fragment_end a) a))) ≡ Some n
        → ((m : ℕ) → record_of k (drop (fragment_end a) a) ≡ Some m → record_of j (drop (fragment_end a) a ++ b) ≡ Some m)
        → cond x (Some (fragment_end a)) (option_map (λ m. fragment_end a + m) (record_of j (drop (fragment_end a) a ++ b))) ≡ Some n
    by_flag true e later = e
    by_flag false e later =
        let m = mapped (fragment_end a) n _ e in
        ap (λ (x : Option ℕ). option_map (λ i. fragment_end a + i) x) (later m.0 m.1) ∙ ap (λ (i : ℕ). Some i) m.2

pub stays : RecordsStay
unfolding first_record
stays bytes more n is = stays_with (length bytes) (length (bytes ++ more)) bytes more n (omega (arith, length-append bytes more)) is
