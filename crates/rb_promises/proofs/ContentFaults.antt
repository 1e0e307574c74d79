-- Which fault comes first of opaque data.
use Rattle.std.specs.Prelude.{slice_range, Any}
use Rattle.std.proofs.Common.{◌≡◌, ◌<◌, ◌≤◌, ◌+◌, ◌-◌, ℕ, suc, Bool, true, false, cond, ◌&&◌, eqb, ltb, List, [], ◌∷◌, ◌++◌, length, take, drop, Ok, Err, refl, sym, ap, subst, ◌∙◌, arith, inl, inr, length-append}
use Rattle.std.proofs.lemmas.List.{take-append-drop, drop-drop, length-take, length-drop, take_at, drop_at}
use Rattle.std.proofs.lemmas.List.Folds.{list_all_at}
use Rattle.std.proofs.lemmas.Bool.{cases_lt, lt-ltb, le-ltb, ltb-true, ltb-false, eqb-false, ne_eqb}
use Rattle.rb_xdr.specs.declared.fault.XdrFault.{XdrFault}
use Rattle.rb_xdr.specs.declared.fault.XdrFault.TheVariants.{Short, TooLong, BadBool, BadPadding}
use Rattle.rb_xdr.specs.Xdr.{Reading, Reader, behind, read_on, refuse, AreBytes, number, number_at, residue, are_zero, read_number, read_content, read_opaque}
use Rattle.rb_xdr.proofs.Words.{length-number, number_at_small, split_number}
use Rattle.rb_xdr.proofs.Readers.{number_complete}
use Rattle.rb_promises.specs.Contents.{Counts, Completes, IsBadPadding, HasFault, ContentsFaultExactly}
use Rattle.rb_promises.specs.Contents.IsShort.{ShortCount, ShortContent}

-- ---- residual bytes

residue-completes : (count : ℕ) → Completes count (residue count)
residue-completes count = record { few = omega arith; whole = omega arith }

only-residue : (count residual : ℕ) → Completes count residual → residual ≡ residue count
only-residue count residual c = let few = c.few in let whole = c.whole in omega (arith, few, whole)

not-all-zero : (xs : List ℕ) → are_zero xs ≡ false → Any (λ byte. byte ≡ 0 → ⊥) xs
not-all-zero [] e = absurd cc
not-all-zero (x ∷ xs) e = by_test (eqb x 0) refl e (not-all-zero xs)
  where
    by_test : (b : Bool) → eqb x 0 ≡ b → (b && are_zero xs) ≡ false → (are_zero xs ≡ false → Any (λ byte. byte ≡ 0 → ⊥) xs) → Any (λ byte. byte ≡ 0 → ⊥) (x ∷ xs)
    by_test true is e later = let (k, y, low, at, wrong) = later e in (suc k, y, omega arith, at, wrong)
    by_test false is e later = (0, x, omega arith, refl, eqb-false x 0 is)

one-not-zero : (xs : List ℕ) → Any (λ byte. byte ≡ 0 → ⊥) xs → are_zero xs ≡ false
one-not-zero xs (k, y, low, at, wrong) = list_all_at (λ b. eqb b 0) xs k y low (ap (λ b. eqb b 0) at ∙ ne_eqb y 0 wrong)

-- ---- after the count

-- what is read of the bytes after the count
abbrev behind_count : ℕ → ℕ → List ℕ → Reading (List ℕ)
behind_count limit count rest = behind 4 ((cond (ltb limit count) (refuse TooLong) (read_content count)) rest)

counted : (limit count : ℕ) (bytes rest : List ℕ) → Counts bytes count rest → read_opaque limit bytes ≡ behind_count limit count rest
unfolding read_opaque
counted limit count bytes rest counts =
    let next : ℕ → Reader (List ℕ) = λ n. cond (ltb limit n) (refuse TooLong) (read_content n) in
    let read : read_number bytes ≡ Ok (count, 4) = ap read_number counts.text ∙ number_complete count rest counts.fits ∙ ap (λ (k : ℕ). Ok (count, k)) (length-number count) in
    let left : drop 4 bytes ≡ rest = ap (drop 4) counts.text ∙ drop_at (number count) rest 4 (length-number count) in
    ap (λ (r : Reading ℕ). read_on r next bytes) read ∙ ap (λ (xs : List ℕ). behind 4 (next count xs)) left

-- ---- what is wrong is refused so

short-count : (limit : ℕ) (bytes : List ℕ) → length bytes < 4 → read_opaque limit bytes ≡ Err Short
unfolding read_opaque read_number
short-count limit bytes less = rw (lt-ltb (length bytes) 4 less) refl

short-content : (limit count residual : ℕ) (rest : List ℕ) → count ≤ limit → Completes count residual → length rest < count + residual → behind_count limit count rest ≡ Err Short
unfolding read_content
short-content limit count residual rest within completes less =
    let same = only-residue count residual completes in
    let low : ltb limit count ≡ false = le-ltb limit count within in
    let few : ltb (length rest) (count + residue count) ≡ true = lt-ltb _ _ (omega (arith, same, less)) in
    rw (low, few) refl

too-long : (limit count : ℕ) (rest : List ℕ) → limit < count → behind_count limit count rest ≡ Err TooLong
too-long limit count rest above = rw (lt-ltb limit count above) refl

bad-padding : (limit : ℕ) (content residual rest : List ℕ) → length content ≤ limit → Completes (length content) (length residual) → Any (λ byte. byte ≡ 0 → ⊥) residual
    → behind_count limit (length content) (content ++ (residual ++ rest)) ≡ Err BadPadding
unfolding read_content
bad-padding limit content residual rest within completes wrong =
    let c = length content in
    let same : length residual ≡ residue c = only-residue c (length residual) completes in
    let low : ltb limit c ≡ false = le-ltb limit c within in
    let long : ltb (length (content ++ (residual ++ rest))) (c + residue c) ≡ false = le-ltb _ _ (omega (arith, same, length-append content (residual ++ rest), length-append residual rest)) in
    let size : c + residue c - c ≡ residue c = omega arith in
    let padding : slice_range (content ++ (residual ++ rest)) c (c + residue c) ≡ residual = rw (size, drop_at content (residual ++ rest) c refl) (take_at residual rest (residue c) same) in
    let some : are_zero (slice_range (content ++ (residual ++ rest)) c (c + residue c)) ≡ false = ap are_zero padding ∙ one-not-zero residual wrong in
    rw (low, long, some) refl

-- ---- what is refused is wrong so

refused-as : (limit : ℕ) (bytes : List ℕ) (found fault : XdrFault) → ◌≡◌ {A = Reading (List ℕ)} (Err found) (Err fault) → HasFault limit bytes found → HasFault limit bytes fault
refused-as limit bytes found fault e has = let same : found ≡ fault = cc in subst (HasFault limit bytes) same has

-- residual bytes are there, and one is not zero
padded : (limit count : ℕ) (bytes rest : List ℕ) → Counts bytes count rest → count ≤ limit → count + residue count ≤ length rest → are_zero (slice_range rest count (count + residue count)) ≡ false → IsBadPadding limit bytes
padded limit count bytes rest counts within long some =
    let r = residue count in
    let content : List ℕ = take count rest in
    let residual : List ℕ = slice_range rest count (count + r) in
    let left : List ℕ = drop (count + r) rest in
    let size : count + r - count ≡ r = omega arith in
    let residual_is : residual ≡ take r (drop count rest) = ap (λ (k : ℕ). take k (drop count rest)) size in
    let content_length : length content ≡ count = omega (arith, long, length-take count rest) in
    let residual_length : length residual ≡ r = ap length residual_is ∙ omega (arith, long, length-take r (drop count rest), length-drop count rest) in
    let split : rest ≡ content ++ (residual ++ left) =
    sym (take-append-drop count rest)
    ∙ ap (λ (xs : List ℕ). content ++ xs) (sym (take-append-drop r (drop count rest)) ∙ ap (λ (xs : List ℕ). xs ++ drop r (drop count rest)) (sym residual_is) ∙ ap (λ (xs : List ℕ). residual ++ xs) (drop-drop r count rest)) in
    let completes = residue-completes count in
    record {
      content = content;
      residual = residual;
      rest = left;
      counts = record {
        fits = omega (arith, counts.fits, content_length);
        text = counts.text ∙ ap (λ (xs : List ℕ). number count ++ xs) split ∙ ap (λ (n : ℕ). number n ++ (content ++ (residual ++ left))) (sym content_length);
      };
      within = omega (arith, within, content_length);
      completes = rw (content_length, residual_length) completes;
      wrong = not-all-zero residual some;
    }

behind-fault : (limit count : ℕ) (bytes rest : List ℕ) → Counts bytes count rest → (fault : XdrFault) → behind_count limit count rest ≡ Err fault → HasFault limit bytes fault
unfolding read_content
behind-fault limit count bytes rest counts fault e = by_limit (ltb limit count) refl e
  where
    r : ℕ
    r = residue count

    by_padding : count ≤ limit → count + r ≤ length rest → (b : Bool) → are_zero (slice_range rest count (count + r)) ≡ b → behind 4 (cond b (Ok (take count rest, count + r)) (Err BadPadding)) ≡ Err fault → HasFault limit bytes fault
    by_padding within long true zeros e = absurd cc
    by_padding within long false some e = refused-as limit bytes BadPadding fault e (padded limit count bytes rest counts within long some)

    by_length : count ≤ limit → (b : Bool) → ltb (length rest) (count + r) ≡ b
        → behind 4 (cond b (Err Short) (cond (are_zero (slice_range rest count (count + r))) (Ok (take count rest, count + r)) (Err BadPadding))) ≡ Err fault → HasFault limit bytes fault
    by_length within true less e = refused-as limit bytes Short fault e (ShortContent count r rest counts within (residue-completes count) (ltb-true _ _ less))
    by_length within false long e = by_padding within (ltb-false _ _ long) (are_zero (slice_range rest count (count + r))) refl e

    by_limit : (b : Bool) → ltb limit count ≡ b → behind 4 ((cond b (refuse TooLong) (read_content count)) rest) ≡ Err fault → HasFault limit bytes fault
    by_limit true above e = refused-as limit bytes TooLong fault e (record { count = count; rest = rest; counts = counts; above = ltb-true _ _ above })
    by_limit false low e = by_length (ltb-false _ _ low) (ltb (length rest) (count + r)) refl e

has-fault : (limit : ℕ) (bytes : List ℕ) → AreBytes bytes → (fault : XdrFault) → read_opaque limit bytes ≡ Err fault → HasFault limit bytes fault
has-fault limit bytes are fault e = elim (cases_lt (length bytes) 4) [
  | inl less ↦ refused-as limit bytes Short fault (sym (short-count limit bytes less) ∙ e) (ShortCount less)
  | inr long ↦
      let counts : Counts bytes (number_at 0 bytes) (drop 4 bytes) = record { fits = number_at_small 0 bytes are; text = split_number 0 bytes are long } in
      behind-fault limit (number_at 0 bytes) bytes (drop 4 bytes) counts fault (sym (counted limit (number_at 0 bytes) bytes (drop 4 bytes) counts) ∙ e)
]

fault-comes : (limit : ℕ) (bytes : List ℕ) (fault : XdrFault) → HasFault limit bytes fault → read_opaque limit bytes ≡ Err fault
fault-comes limit bytes Short (ShortCount less) = short-count limit bytes less
fault-comes limit bytes Short (ShortContent count residual rest counts within completes less) = counted limit count bytes rest counts ∙ short-content limit count residual rest within completes less
fault-comes limit bytes TooLong f = counted limit f.count bytes f.rest f.counts ∙ too-long limit f.count f.rest f.above
fault-comes limit bytes BadPadding f =
    counted limit (length f.content) bytes (f.content ++ (f.residual ++ f.rest)) f.counts ∙ bad-padding limit f.content f.residual f.rest f.within f.completes f.wrong
fault-comes limit bytes BadBool f = absurd f

pub contents_fault_exactly : ContentsFaultExactly
contents_fault_exactly limit bytes are fault = (has-fault limit bytes are fault, fault-comes limit bytes fault)
