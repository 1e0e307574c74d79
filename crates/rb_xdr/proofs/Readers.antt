-- What is read is what is spelled in front.
use Rattle.std.proofs.Common.{◌≡◌, ◌<◌, ◌≤◌, ◌+◌, ◌-◌, ◌^◌, ℕ, zero, suc, Bool, true, false, cond, eqb, ltb, List, [], ◌∷◌, ◌++◌, length, take, drop, Result, Ok, Err, refl, sym, ap, subst, ◌∙◌, append_assoc, arith, length-append}
use Rattle.std.specs.Prelude.{replicate, slice_range, ◌&&◌}
use Rattle.std.proofs.lemmas.List.{take-append-drop, drop-drop, length-take, length-drop, take_at, drop_at, length-replicate}
use Rattle.std.proofs.lemmas.Bool.{eqb-true, ltb-false, le-ltb}
use Rattle.rb_xdr.specs.Xdr.{XdrFault, Reading, Reader, behind, read_on, ◌>>=◌, give, refuse, AreBytes, IsNumber, AreNumbers, IsContent, number, words, number_at, opaque, array, residue, are_zero, read_number, read_content, read_opaque, read_numbers, read_array}
use Rattle.rb_xdr.specs.declared.fault.XdrFault.TheVariants.{Short, TooLong, BadPadding}
pub use Rattle.rb_xdr.specs.XdrLaws.{IsSound, IsComplete}
use Rattle.rb_xdr.proofs.Words.{AreBytes-drop, AreBytes-take, length-number, number_at-number, number_at_small, split_number}

-- ---- steps

abbrev pub done : {A : Type 0} → A → Result A XdrFault
done x = Ok x

pub ok_is : {A : Type 0} (x y : A) → done x ≡ done y → x ≡ y
ok_is x y e = cc

behind_ok : {A : Type 0} (used : ℕ) (r : Reading A) (y : A) (n : ℕ) → behind used r ≡ Ok (y, n) → (k : ℕ) × (r ≡ Ok (y, k)) × (used + k ≡ n)
behind_ok used (Ok x) y n e =
    let same = ok_is (x.0, used + x.1) (y, n) e in
    (x.1, ap (λ (z : _). Ok (z, x.1)) (ap (λ (p : _ × ℕ). p.0) same), ap (λ (p : _ × ℕ). p.1) same)
behind_ok used (Err d) y n e = absurd cc

pub record Steps {A B : Type 0} (first : Reader A) (next : A → Reader B) (bytes : List ℕ) (y : B) (n : ℕ) : Type 0 where
  pub x : A
  pub used : ℕ
  pub more : ℕ
  pub was : first bytes ≡ Ok (x, used)
  pub then_was : next x (drop used bytes) ≡ Ok (y, more)
  pub sum : used + more ≡ n

pub bind_ok : {A B : Type 0} (first : Reader A) (next : A → Reader B) (bytes : List ℕ) (y : B) (n : ℕ) → (first >>= next) bytes ≡ Ok (y, n) → Steps first next bytes y n
bind_ok first next bytes y n e = by_value (first bytes) refl e
  where
    by_value : (r : _) → first bytes ≡ r → read_on r next bytes ≡ Ok (y, n) → Steps first next bytes y n
    by_value (Ok x) was e =
        let b = behind_ok x.1 (next x.0 (drop x.1 bytes)) y n e in
        record { x = x.0; used = x.1; more = b.0; was = was; then_was = b.1; sum = b.2 }
    by_value (Err d) was e = absurd cc

pub bind_again : {A B : Type 0} (first : Reader A) (next : A → Reader B) (text rest : List ℕ) (x : A) (y : B) (k : ℕ) → first (text ++ rest) ≡ Ok (x, length text) → next x rest ≡ Ok (y, k) → (first >>= next) (text ++ rest) ≡ Ok (y, length text + k)
bind_again first next text rest x y k e f = rw (e, drop_at text rest (length text) refl, f) refl

-- ---- numbers

refused : {A : Type 0} (b : Bool) (d : XdrFault) (r : Result A XdrFault) (y : A) → cond b (Err d) r ≡ Ok y → (b ≡ false) × (r ≡ Ok y)
refused true d r y e = absurd cc
refused false d r y e = (refl, e)

pub number_sound : IsSound IsNumber number read_number
unfolding read_number
number_sound bytes x n are e =
    let a = refused (ltb (length bytes) 4) Short (Ok (number_at 0 bytes, 4)) (x, n) e in
    let same = ok_is (number_at 0 bytes, 4) (x, n) a.1 in
    let long : 4 ≤ length bytes = ltb-false _ _ a.0 in
    let x_is : number_at 0 bytes ≡ x = ap (λ (p : ℕ × ℕ). p.0) same in
    let n_is : 4 ≡ n = ap (λ (p : ℕ × ℕ). p.1) same in
    (omega (arith, x_is, number_at_small 0 bytes are), omega (arith, n_is, length-number x), split_number 0 bytes are long ∙ rw (x_is, n_is) refl)

pub number_complete : IsComplete IsNumber number read_number
unfolding read_number
number_complete x rest small =
    let long : ltb (length (number x ++ rest)) 4 ≡ false = le-ltb _ _ (omega (arith, length-append (number x) rest, length-number x)) in
    rw (long, number_at-number x rest small, length-number x) refl

-- ---- opaque data

zeros_only : (xs : List ℕ) → are_zero xs ≡ true → xs ≡ replicate (length xs) 0
zeros_only [] h = refl
zeros_only (x ∷ xs) h = by_test (eqb x 0) refl h (λ t. zeros_only xs t)
  where
    by_test : (b : Bool) → eqb x 0 ≡ b → (b && are_zero xs) ≡ true → (are_zero xs ≡ true → xs ≡ replicate (length xs) 0) → x ∷ xs ≡ replicate (length (x ∷ xs)) 0
    by_test true is h later = rw (eqb-true _ _ is) (ap (λ (ys : List ℕ). 0 ∷ ys) (later h))
    by_test false is h later = absurd cc

pub are_zero-replicate : (n : ℕ) → are_zero (replicate n 0) ≡ true
are_zero-replicate zero = refl
are_zero-replicate (suc n) = are_zero-replicate n

pub opaque_is : (content rest : List ℕ) → opaque content ++ rest ≡ number (length content) ++ (content ++ (replicate (residue (length content)) 0 ++ rest))
unfolding opaque
opaque_is content rest = simp append_assoc refl

pub length-opaque : (content : List ℕ) → length (opaque content) ≡ 4 + (length content + residue (length content))
unfolding opaque
length-opaque content =
    let c = length content in let zeros : List ℕ = replicate (residue c) 0 in
    omega (arith, length-append (number c ++ content) zeros, length-append (number c) content, length-number c, length-replicate {A = ℕ} (residue c) 0)

-- content and its residual zeros in front of bytes
pub zeros_there : (count : ℕ) (bytes : List ℕ) → count + residue count ≤ length bytes → are_zero (slice_range bytes count (count + residue count)) ≡ true
    → bytes ≡ take count bytes ++ (replicate (residue count) 0 ++ drop (count + residue count) bytes)
zeros_there count bytes long zeros =
    let r = residue count in
    let size : count + r - count ≡ r = omega arith in
    let part : List ℕ = take r (drop count bytes) in
    let part_is : slice_range bytes count (count + r) ≡ part = ap (λ (k : ℕ). take k (drop count bytes)) size in
    let len : length part ≡ r = omega (arith, long, length-take r (drop count bytes), length-drop count bytes) in
    let are : part ≡ replicate r 0 = zeros_only part (ap are_zero (sym part_is) ∙ zeros) ∙ ap (λ (k : ℕ). replicate k 0) len in
    sym (take-append-drop count bytes) ∙ ap (λ (xs : List ℕ). take count bytes ++ xs) (sym (take-append-drop r (drop count bytes)) ∙ ap (λ (xs : List ℕ). xs ++ drop r (drop count bytes)) are ∙ ap (λ (xs : List ℕ). replicate r 0 ++ xs) (drop-drop r count bytes))

was_passed : {A : Type 0} (b : Bool) (d : XdrFault) (x y : A) → cond b (Ok x) (Err d) ≡ Ok y → (b ≡ true) × (x ≡ y)
was_passed true d x y e = (refl, ok_is x y e)
was_passed false d x y e = absurd cc

content_ok : (count : ℕ) (bytes v : List ℕ) (n : ℕ) → read_content count bytes ≡ Ok (v, n)
    → (count + residue count ≤ length bytes) × (n ≡ count + residue count) × (v ≡ take count bytes) × (bytes ≡ v ++ (replicate (residue count) 0 ++ drop n bytes))
unfolding read_content
content_ok count bytes v n e =
    let a = refused (ltb (length bytes) (count + residue count)) Short _ (v, n) e in
    let long : count + residue count ≤ length bytes = ltb-false _ _ a.0 in
    let b = was_passed (are_zero (slice_range bytes count (count + residue count))) BadPadding (take count bytes, count + residue count) (v, n) a.1 in
    let v_is : take count bytes ≡ v = ap (λ (p : List ℕ × ℕ). p.0) b.1 in
    let n_is : count + residue count ≡ n = ap (λ (p : List ℕ × ℕ). p.1) b.1 in
    (long, sym n_is, sym v_is, zeros_there count bytes long b.0 ∙ ap (λ (p : List ℕ × ℕ). p.0 ++ (replicate (residue count) 0 ++ drop p.1 bytes)) b.1)

passed_on : {A : Type 0} (b : Bool) (d : XdrFault) (r : Reader A) (bytes : List ℕ) (y : A × ℕ) → (cond b (refuse d) r) bytes ≡ Ok y → (b ≡ false) × (r bytes ≡ Ok y)
passed_on true d r bytes y e = absurd cc
passed_on false d r bytes y e = (refl, e)

pub opaque_sound : (limit : ℕ) → IsSound (IsContent limit) opaque (read_opaque limit)
unfolding read_opaque
opaque_sound limit bytes v n are e =
    let b = bind_ok read_number (λ count. cond (ltb limit count) (refuse TooLong) (read_content count)) bytes v n e in
    let s = number_sound bytes b.x b.used are b.was in
    let a = passed_on (ltb limit b.x) TooLong (read_content b.x) (drop b.used bytes) (v, b.more) b.then_was in
    let low : b.x ≤ limit = ltb-false _ _ a.0 in
    let r = content_ok b.x (drop b.used bytes) v b.more a.1 in
    let len : length v ≡ b.x = ap length r.2 ∙ omega (arith, r.0, length-take b.x (drop b.used bytes)) in
    let bytes_v : AreBytes v = rw r.2 (AreBytes-take b.x (drop b.used bytes) (AreBytes-drop b.used bytes are)) in
    let left : drop b.more (drop b.used bytes) ≡ drop n bytes = drop-drop b.more b.used bytes ∙ ap (λ (k : ℕ). drop k bytes) b.sum in
    let text : bytes ≡ number b.x ++ (v ++ (replicate (residue b.x) 0 ++ drop n bytes)) =
    s.2 ∙ ap (λ (xs : List ℕ). number b.x ++ xs) (r.3 ∙ ap (λ (xs : List ℕ). v ++ (replicate (residue b.x) 0 ++ xs)) left) in
    let at_length : bytes ≡ number (length v) ++ (v ++ (replicate (residue (length v)) 0 ++ drop n bytes)) =
    text ∙ ap (λ (c : ℕ). number c ++ (v ++ (replicate (residue c) 0 ++ drop n bytes))) (sym len) in
    let size : n ≡ 4 + (length v + residue (length v)) =
    sym b.sum ∙ omega (arith, s.1, r.1, length-number b.x) ∙ ap (λ (c : ℕ). 4 + (c + residue c)) (sym len) in
    ((omega (arith, low, len), omega (arith, len, s.0), bytes_v), size ∙ sym (length-opaque v), at_length ∙ sym (opaque_is v (drop n bytes)))

content_again : (v rest : List ℕ) → read_content (length v) (v ++ (replicate (residue (length v)) 0 ++ rest)) ≡ Ok (v, length v + residue (length v))
unfolding read_content
content_again v rest =
    let c = length v in let zeros : List ℕ = replicate (residue c) 0 in
    let long : ltb (length (v ++ (zeros ++ rest))) (c + residue c) ≡ false = le-ltb _ _ (omega (arith, length-append v (zeros ++ rest), length-append zeros rest, length-replicate {A = ℕ} (residue c) 0)) in
    let size : c + residue c - c ≡ residue c = omega arith in
    let padding : slice_range (v ++ (zeros ++ rest)) c (c + residue c) ≡ zeros = rw (size, drop_at v (zeros ++ rest) c refl) (take_at zeros rest (residue c) (length-replicate {A = ℕ} (residue c) 0)) in
    rw (long, padding, are_zero-replicate (residue c), take_at v (zeros ++ rest) c refl) refl

pub opaque_complete : (limit : ℕ) → IsComplete (IsContent limit) opaque (read_opaque limit)
unfolding read_opaque
opaque_complete limit v rest is =
    let c = length v in let behind_count : List ℕ = v ++ (replicate (residue c) 0 ++ rest) in
    let low : ltb limit c ≡ false = le-ltb _ _ is.0 in
    ap (read_opaque limit) (opaque_is v rest)
    ∙ bind_again read_number (λ count. cond (ltb limit count) (refuse TooLong) (read_content count)) (number c) behind_count c v (c + residue c)
    (number_complete c behind_count is.1)
    (ap (λ (b : Bool). (cond b (refuse TooLong) (read_content c)) behind_count) low ∙ content_again v rest)
    ∙ ap (λ (k : ℕ). Ok (v, k)) (omega (arith, length-number c, length-opaque v))

-- ---- arrays of numbers

numbers_sound : (k : ℕ) (bytes ns : List ℕ) (n : ℕ) → AreBytes bytes → read_numbers k bytes ≡ Ok (ns, n) → (length ns ≡ k) × AreNumbers ns × (bytes ≡ words ns ++ drop n bytes)
numbers_sound zero bytes ns n are e =
    let same = ok_is ([], 0) (ns, n) e in
    subst (λ (p : List ℕ × ℕ). (length p.0 ≡ 0) × AreNumbers p.0 × (bytes ≡ words p.0 ++ drop p.1 bytes)) same (refl, tt, refl)
numbers_sound (suc k) bytes ns n are e =
    let b = bind_ok read_number (λ n. read_numbers k >>= λ more. give (n ∷ more)) bytes ns n e in
    let s = number_sound bytes b.x b.used are b.was in
    let c = bind_ok (read_numbers k) (λ more. give (b.x ∷ more)) (drop b.used bytes) ns b.more b.then_was in
    let t = numbers_sound k (drop b.used bytes) c.x c.used (AreBytes-drop b.used bytes are) c.was in
    let same = ok_is (b.x ∷ c.x, 0) (ns, c.more) c.then_was in
    let ns_is : b.x ∷ c.x ≡ ns = ap (λ (p : List ℕ × ℕ). p.0) same in
    let zero_is : 0 ≡ c.more = ap (λ (p : List ℕ × ℕ). p.1) same in
    let left : drop c.used (drop b.used bytes) ≡ drop n bytes = drop-drop c.used b.used bytes ∙ ap (λ (i : ℕ). drop i bytes) (omega (arith, b.sum, c.sum, zero_is)) in
    let text : bytes ≡ words (b.x ∷ c.x) ++ drop n bytes =
    s.2 ∙ ap (λ (xs : List ℕ). number b.x ++ xs) (t.2 ∙ ap (λ (xs : List ℕ). words c.x ++ xs) left) ∙ sym (append_assoc (number b.x) (words c.x) (drop n bytes)) in
    subst (λ (xs : List ℕ). (length xs ≡ suc k) × AreNumbers xs × (bytes ≡ words xs ++ drop n bytes)) ns_is (ap suc t.0, (s.0, t.1), text)

numbers_complete : (ns rest : List ℕ) → AreNumbers ns → read_numbers (length ns) (words ns ++ rest) ≡ Ok (ns, length (words ns))
numbers_complete [] rest are = refl
numbers_complete (n ∷ ns) rest are =
    ap (read_numbers (suc (length ns))) (append_assoc (number n) (words ns) rest)
    ∙ bind_again read_number (λ n. read_numbers (length ns) >>= λ more. give (n ∷ more)) (number n) (words ns ++ rest) n (n ∷ ns) (length (words ns) + 0)
    (number_complete n (words ns ++ rest) are.0)
    (bind_again (read_numbers (length ns)) (λ more. give (n ∷ more)) (words ns) rest ns (n ∷ ns) 0 (numbers_complete ns rest are.1) refl)
    ∙ ap (λ (k : ℕ). Ok (n ∷ ns, k)) (omega (arith, length-append (number n) (words ns)))

pub array_sound : (limit : ℕ) (bytes ns : List ℕ) (n : ℕ) → AreBytes bytes → read_array limit bytes ≡ Ok (ns, n) → (length ns ≤ limit) × AreNumbers ns × (bytes ≡ array ns ++ drop n bytes)
unfolding read_array array
array_sound limit bytes ns n are e =
    let b = bind_ok read_number (λ count. cond (ltb limit count) (refuse TooLong) (read_numbers count)) bytes ns n e in
    let s = number_sound bytes b.x b.used are b.was in
    let a = passed_on (ltb limit b.x) TooLong (read_numbers b.x) (drop b.used bytes) (ns, b.more) b.then_was in
    let low : b.x ≤ limit = ltb-false _ _ a.0 in
    let t = numbers_sound b.x (drop b.used bytes) ns b.more (AreBytes-drop b.used bytes are) a.1 in
    let left : drop b.more (drop b.used bytes) ≡ drop n bytes = drop-drop b.more b.used bytes ∙ ap (λ (k : ℕ). drop k bytes) b.sum in
    let text : bytes ≡ number b.x ++ (words ns ++ drop n bytes) = s.2 ∙ ap (λ (xs : List ℕ). number b.x ++ xs) (t.2 ∙ ap (λ (xs : List ℕ). words ns ++ xs) left) in
    (omega (arith, low, t.0), t.1, text ∙ ap (λ (c : ℕ). number c ++ (words ns ++ drop n bytes)) (sym t.0) ∙ sym (append_assoc (number (length ns)) (words ns) (drop n bytes)))

pub array_complete : (limit : ℕ) (ns rest : List ℕ) → length ns ≤ limit → length ns < 2 ^ 32 → AreNumbers ns → read_array limit (array ns ++ rest) ≡ Ok (ns, length (array ns))
unfolding read_array array
array_complete limit ns rest few fits are =
    let c = length ns in
    let low : ltb limit c ≡ false = le-ltb _ _ few in
    ap (read_array limit) (append_assoc (number c) (words ns) rest)
    ∙ bind_again read_number (λ count. cond (ltb limit count) (refuse TooLong) (read_numbers count)) (number c) (words ns ++ rest) c ns (length (words ns))
    (number_complete c (words ns ++ rest) fits)
    (ap (λ (b : Bool). (cond b (refuse TooLong) (read_numbers c)) (words ns ++ rest)) low ∙ numbers_complete ns rest are)
    ∙ ap (λ (k : ℕ). Ok (ns, k)) (sym (length-append (number c) (words ns)))
