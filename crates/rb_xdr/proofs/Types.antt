-- The laws of each type.
use Rattle.std.proofs.Common.{◌≡◌, ◌<◌, ◌≤◌, ◌+◌, ◌^◌, ℕ, Bool, true, false, cond, eqb, List, [], ◌++◌, length, take, drop, Ok, refl, sym, ap, subst, ◌∙◌, append_assoc, append-nil, arith, length-append, Option, Some, None}
use Rattle.std.proofs.lemmas.List.{take-append-drop, length-take, take_at, nil_from_length, drop-drop}
use Rattle.std.proofs.lemmas.Bool.{eqb-true}
use Rattle.std.proofs.Math.Facts.{sfits_to_z, Fits-of_z}
use Rattle.std.proofs.lemmas.Int.{of_z-to_z, to_z-of_z}
use Rattle.std.specs.Prelude.{FitsSigned, ℤ}
use Rattle.std.specs.Int.{cast_signed, cast_unsigned, w32}
use Rattle.rb_xdr.specs.Xdr.{Reader, ◌>>=◌, give, refuse, IsNumber, IsContent, number, boolean, opaque, residue, read_number, read_bool, read_opaque, max_number, max_opaque}
use Rattle.rb_xdr.specs.XdrTypes.{signed, read_signed, read_pair, optional, read_optional, read_item, max_optional}
use Rattle.rb_xdr.specs.declared.fault.XdrFault.TheVariants.{BadBool}
use Rattle.rb_xdr.specs.XdrLaws.{IsBounded, if_there, ReadsExactly, IsPrefixFree, anything, both, pair, SignedIsType, NumberIsType, BooleanIsType, OpaqueIsType}
use Rattle.rb_xdr.proofs.Words.{AreBytes-drop, length-number}
use Rattle.rb_xdr.proofs.Readers.{IsSound, IsComplete, ok_is, bind_ok, bind_again, number_sound, number_complete, length-opaque, opaque_sound, opaque_complete}

module _ {A : Type 0} (is_value : A → Type 0) (spelling : A → List ℕ) (reads : Reader A) where
  pub exact_from : IsSound is_value spelling reads → IsComplete is_value spelling reads → ReadsExactly is_value spelling reads
  exact_from sound complete bytes are x n = (
    λ e.
        let s = sound bytes x n are e in
        (omega (arith, s.1, ap length s.2, length-append (spelling x) (drop n bytes)), (s.0, ap (take n) s.2 ∙ take_at (spelling x) (drop n bytes) n (sym s.1))),
    λ h.
        let len : n ≡ length (spelling x) = omega (arith, h.0, length-take n bytes, ap length h.1.1) in
        ap reads (sym (take-append-drop n bytes) ∙ ap (λ (xs : List ℕ). xs ++ drop n bytes) h.1.1) ∙ complete x (drop n bytes) h.1.0 ∙ ap (λ (k : ℕ). Ok (x, k)) (sym len),
  )

  pub prefix_free_from : IsComplete is_value spelling reads → IsPrefixFree is_value spelling
  prefix_free_from complete x y more is_x is_y e =
      let a = complete x more is_x in
      let b = complete y [] is_y in
      let same = ok_is (x, length (spelling x)) (y, length (spelling y)) (sym a ∙ ap reads (e ∙ sym (append-nil (spelling y))) ∙ b) in
      let len : length (spelling x) ≡ length (spelling y) = ap (λ (p : A × ℕ). p.1) same in
      (ap (λ (p : A × ℕ). p.0) same, nil_from_length more (omega (arith, len, ap length e, length-append (spelling x) more)))

pub number_bounded : IsBounded IsNumber number max_number
number_bounded x is = omega (arith, length-number x)

pub number_is : NumberIsType
number_is = record {
  exact = exact_from IsNumber number read_number number_sound number_complete;
  prefix_free = prefix_free_from IsNumber number read_number number_complete;
  bounded = number_bounded;
}

rounds : (n limit : ℕ) → n ≤ limit → n + residue n ≤ limit + residue limit
rounds n limit le = omega (arith, le)

pub opaque_bounded : (limit : ℕ) → IsBounded (IsContent limit) opaque (max_opaque limit)
opaque_bounded limit v is = omega (arith, rounds (length v) limit is.0, length-opaque v)

pub opaque_is_type : OpaqueIsType
opaque_is_type limit = record {
  exact = exact_from (IsContent limit) opaque (read_opaque limit) (opaque_sound limit) (opaque_complete limit);
  prefix_free = prefix_free_from (IsContent limit) opaque (read_opaque limit) (opaque_complete limit);
  bounded = opaque_bounded limit;
}

-- ---- bool

abbrev by_number : ℕ → Reader Bool
by_number n = cond (eqb n 0) (give false) (cond (eqb n 1) (give true) (refuse BadBool))

abbrev number_of : Bool → ℕ
number_of b = cond b 1 0

by_number_ok : (n : ℕ) (rest : List ℕ) (b : Bool) (k : ℕ) → by_number n rest ≡ Ok (b, k) → (n ≡ number_of b) × (k ≡ 0)
by_number_ok n rest b k e = by_tests (eqb n 0) (eqb n 1) (λ h. eqb-true _ _ h) (λ h. eqb-true _ _ h) e
  where
    by_tests : (z o : Bool) → (z ≡ true → n ≡ 0) → (o ≡ true → n ≡ 1) → (cond z (give false) (cond o (give true) (refuse BadBool))) rest ≡ Ok (b, k) → (n ≡ number_of b) × (k ≡ 0)
    by_tests true o zero_is one_is e = subst (λ (p : Bool × ℕ). (n ≡ number_of p.0) × (p.1 ≡ 0)) (ok_is (false, 0) (b, k) e) (zero_is refl, refl)
    by_tests false true zero_is one_is e = subst (λ (p : Bool × ℕ). (n ≡ number_of p.0) × (p.1 ≡ 0)) (ok_is (true, 0) (b, k) e) (one_is refl, refl)
    by_tests false false zero_is one_is e = absurd cc

boolean_is : (b : Bool) → boolean b ≡ number (number_of b)
unfolding boolean
boolean_is true = refl
boolean_is false = refl

pub bool_sound : IsSound anything boolean read_bool
unfolding read_bool
bool_sound bytes b n are e =
    let a = bind_ok read_number by_number bytes b n e in
    let s = number_sound bytes a.x a.used are a.was in
    let v = by_number_ok a.x (drop a.used bytes) b a.more a.then_was in
    let used_is : a.used ≡ n = omega (arith, a.sum, v.1) in
    let spelled : number a.x ≡ boolean b = ap number v.0 ∙ sym (boolean_is b) in
    (tt, omega (arith, used_is, s.1, ap length spelled), s.2 ∙ ap (λ (k : ℕ). number a.x ++ drop k bytes) used_is ∙ ap (λ (xs : List ℕ). xs ++ drop n bytes) spelled)

pub bool_complete : IsComplete anything boolean read_bool
unfolding read_bool
bool_complete b rest is =
    ap (λ (xs : List ℕ). read_bool (xs ++ rest)) (boolean_is b)
    ∙ bind_again read_number by_number (number (number_of b)) rest (number_of b) b 0 (number_complete (number_of b) rest (small b)) (given b)
    ∙ ap (λ (k : ℕ). Ok (b, k)) (omega (arith, ap length (boolean_is b)))
  where
    small : (b : Bool) → number_of b < 2 ^ 32
    small true = omega arith
    small false = omega arith

    given : (b : Bool) → by_number (number_of b) rest ≡ Ok (b, 0)
    given true = refl
    given false = refl

pub length-boolean : (b : Bool) → length (boolean b) ≡ 4
length-boolean b = ap length (boolean_is b) ∙ length-number (number_of b)

pub bool_bounded : IsBounded anything boolean max_number
bool_bounded b is = omega (arith, length-boolean b)

pub bool_is : BooleanIsType
bool_is = record {
  exact = exact_from anything boolean read_bool bool_sound bool_complete;
  prefix_free = prefix_free_from anything boolean read_bool bool_complete;
  bounded = bool_bounded;
}

-- ---- int

signed_is : (z : ℤ) → signed z ≡ number (cast_unsigned w32 z)
unfolding signed
signed_is z = refl

below_2_32 : (z : ℤ) → FitsSigned w32 z → cast_unsigned w32 z < 2 ^ 32
below_2_32 z is = (Fits-of_z is).fits

abbrev as_int : ℕ → Reader ℤ
as_int n = give (cast_signed w32 n)

pub signed_sound : IsSound (λ z. FitsSigned w32 z) signed read_signed
unfolding read_signed
signed_sound bytes z n are e =
    let a = bind_ok read_number as_int bytes z n e in
    let s = number_sound bytes a.x a.used are a.was in
    let same = ok_is (cast_signed w32 a.x, 0) (z, a.more) a.then_was in
    let z_is : cast_signed w32 a.x ≡ z = ap (λ (p : ℤ × ℕ). p.0) same in
    let zero_is : 0 ≡ a.more = ap (λ (p : ℤ × ℕ). p.1) same in
    let used_is : a.used ≡ n = omega (arith, a.sum, zero_is) in
    let spelled : number a.x ≡ signed z = ap number (sym (of_z-to_z w32 a.x s.0)) ∙ ap (λ (y : ℤ). number (cast_unsigned w32 y)) z_is ∙ sym (signed_is z) in (
      subst (FitsSigned w32) z_is (sfits_to_z (record { fits = s.0 })),
      omega (arith, used_is, s.1, ap length spelled),
      s.2 ∙ ap (λ (k : ℕ). number a.x ++ drop k bytes) used_is ∙ ap (λ (xs : List ℕ). xs ++ drop n bytes) spelled,
    )

pub signed_complete : IsComplete (λ z. FitsSigned w32 z) signed read_signed
unfolding read_signed
signed_complete z rest is =
    let n : ℕ = cast_unsigned w32 z in
    ap (λ (xs : List ℕ). read_signed (xs ++ rest)) (signed_is z)
    ∙ bind_again read_number as_int (number n) rest n z 0 (number_complete n rest (below_2_32 z is)) (ap (λ (y : ℤ). Ok (y, 0)) (to_z-of_z w32 z is))
    ∙ ap (λ (k : ℕ). Ok (z, k)) (omega (arith, ap length (signed_is z)))

pub length-signed : (z : ℤ) → length (signed z) ≡ 4
length-signed z = ap length (signed_is z) ∙ length-number (cast_unsigned w32 z)

pub signed_bounded : IsBounded (λ z. FitsSigned w32 z) signed max_number
signed_bounded z is = omega (arith, length-signed z)

pub signed_is_type : SignedIsType
signed_is_type = record {
  exact = exact_from (λ z. FitsSigned w32 z) signed read_signed signed_sound signed_complete;
  prefix_free = prefix_free_from (λ z. FitsSigned w32 z) signed read_signed signed_complete;
  bounded = signed_bounded;
}

-- ---- pairs

module _ {A B : Type 0} (a_is : A → Type 0) (a_spelling : A → List ℕ) (a_reads : Reader A) (b_is : B → Type 0) (b_spelling : B → List ℕ) (b_reads : Reader B) where
  abbrev second_of : A → Reader (A × B)
  second_of a = b_reads >>= λ b. give (a, b)

  pub pair_sound : IsSound a_is a_spelling a_reads → IsSound b_is b_spelling b_reads → IsSound (both a_is b_is) (pair a_spelling b_spelling) (read_pair a_reads b_reads)
  unfolding read_pair
  pair_sound a_sound b_sound bytes v n are e =
      let a = bind_ok a_reads second_of bytes v n e in
      let rest = drop a.used bytes in
      let b = bind_ok b_reads (λ b. give (a.x, b)) rest v a.more a.then_was in
      let s = a_sound bytes a.x a.used are a.was in
      let t = b_sound rest b.x b.used (AreBytes-drop a.used bytes are) b.was in
      let same = ok_is ((a.x, b.x), 0) (v, b.more) b.then_was in
      let zero_is : 0 ≡ b.more = ap (λ (p : (A × B) × ℕ). p.1) same in
      let v_is : ◌≡◌ {A = A × B} (a.x, b.x) v = ap (λ (p : (A × B) × ℕ). p.0) same in
      let left : drop b.used rest ≡ drop n bytes = drop-drop b.used a.used bytes ∙ ap (λ (k : ℕ). drop k bytes) (omega (arith, a.sum, b.sum, zero_is)) in
      subst (λ (p : A × B). both a_is b_is p × (n ≡ length (pair a_spelling b_spelling p)) × (bytes ≡ pair a_spelling b_spelling p ++ drop n bytes)) v_is (
        (s.0, t.0),
        omega (arith, a.sum, b.sum, zero_is, s.1, t.1, length-append (a_spelling a.x) (b_spelling b.x)),
        s.2 ∙ ap (λ (xs : List ℕ). a_spelling a.x ++ xs) (t.2 ∙ ap (λ (xs : List ℕ). b_spelling b.x ++ xs) left) ∙ sym (append_assoc (a_spelling a.x) (b_spelling b.x) (drop n bytes)),
      )

  pub pair_complete : IsComplete a_is a_spelling a_reads → IsComplete b_is b_spelling b_reads → IsComplete (both a_is b_is) (pair a_spelling b_spelling) (read_pair a_reads b_reads)
  unfolding read_pair
  pair_complete a_complete b_complete v rest is =
      ap (read_pair a_reads b_reads) (append_assoc (a_spelling v.0) (b_spelling v.1) rest)
      ∙ bind_again a_reads second_of (a_spelling v.0) (b_spelling v.1 ++ rest) v.0 v (length (b_spelling v.1) + 0) (a_complete v.0 (b_spelling v.1 ++ rest) is.0)
      (bind_again b_reads (λ b. give (v.0, b)) (b_spelling v.1) rest v.1 v 0 (b_complete v.1 rest is.1) refl)
      ∙ ap (λ (k : ℕ). Ok (v, k)) (omega (arith, length-append (a_spelling v.0) (b_spelling v.1)))

-- ---- options

module _ {A : Type 0} (is_value : A → Type 0) (spelling : A → List ℕ) (reads : Reader A) where
  pub optional_sound : IsSound is_value spelling reads → IsSound (if_there is_value) (optional spelling) (read_optional reads)
  unfolding read_optional optional
  optional_sound sound bytes v n are e =
      let f = bind_ok read_bool (read_item reads) bytes v n e in
      let s = bool_sound bytes f.x f.used are f.was in
      by_flag f.x f.used f.more s.1 s.2 f.then_was f.sum
    where
      by_flag : (b : Bool) (used more : ℕ) → used ≡ length (boolean b) → bytes ≡ boolean b ++ drop used bytes → read_item reads b (drop used bytes) ≡ Ok (v, more) → used + more ≡ n
          → if_there is_value v × (n ≡ length (optional spelling v)) × (bytes ≡ optional spelling v ++ drop n bytes)
      by_flag false used more len text e sum =
          let same = ok_is (None, 0) (v, more) e in
          let zero_is : 0 ≡ more = ap (λ (p : Option A × ℕ). p.1) same in
          let used_is : used ≡ n = omega (arith, sum, zero_is) in
          subst (λ (o : Option A). if_there is_value o × (n ≡ length (optional spelling o)) × (bytes ≡ optional spelling o ++ drop n bytes)) (ap (λ (p : Option A × ℕ). p.0) same)
          (tt, omega (arith, used_is, len), text ∙ ap (λ (k : ℕ). boolean false ++ drop k bytes) used_is)
      by_flag true used more len text e sum =
          let rest = drop used bytes in
          let i = bind_ok reads (λ x. give (Some x)) rest v more e in
          let t = sound rest i.x i.used (AreBytes-drop used bytes are) i.was in
          let same = ok_is (Some i.x, 0) (v, i.more) i.then_was in
          let zero_is : 0 ≡ i.more = ap (λ (p : Option A × ℕ). p.1) same in
          let left : drop i.used rest ≡ drop n bytes = drop-drop i.used used bytes ∙ ap (λ (k : ℕ). drop k bytes) (omega (arith, sum, i.sum, zero_is)) in
          subst (λ (o : Option A). if_there is_value o × (n ≡ length (optional spelling o)) × (bytes ≡ optional spelling o ++ drop n bytes)) (ap (λ (p : Option A × ℕ). p.0) same) (
            t.0,
            omega (arith, sum, i.sum, zero_is, len, t.1, length-append (boolean true) (spelling i.x)),
            text ∙ ap (λ (xs : List ℕ). boolean true ++ xs) (t.2 ∙ ap (λ (xs : List ℕ). spelling i.x ++ xs) left) ∙ sym (append_assoc (boolean true) (spelling i.x) (drop n bytes)),
          )

  pub optional_complete : IsComplete is_value spelling reads → IsComplete (if_there is_value) (optional spelling) (read_optional reads)
  unfolding read_optional optional
  optional_complete complete None rest is =
      bind_again read_bool (read_item reads) (boolean false) rest false None 0 (bool_complete false rest tt) refl
      ∙ ap (λ (k : ℕ). Ok (None, k)) (omega arith)
  optional_complete complete (Some x) rest is =
      ap (read_optional reads) (append_assoc (boolean true) (spelling x) rest)
      ∙ bind_again read_bool (read_item reads) (boolean true) (spelling x ++ rest) true (Some x) (length (spelling x) + 0) (bool_complete true (spelling x ++ rest) tt)
      (bind_again reads (λ x. give (Some x)) (spelling x) rest x (Some x) 0 (complete x rest is) refl)
      ∙ ap (λ (k : ℕ). Ok (Some x, k)) (omega (arith, length-append (boolean true) (spelling x)))

-- ---- greatest lengths

pub pair_bounded : {A B : Type 0} (a_is : A → Type 0) (a_spelling : A → List ℕ) (a_max : ℕ) (b_is : B → Type 0) (b_spelling : B → List ℕ) (b_max : ℕ) → IsBounded a_is a_spelling a_max → IsBounded b_is b_spelling b_max
    → IsBounded (both a_is b_is) (pair a_spelling b_spelling) (a_max + b_max)
pair_bounded a_is a_spelling a_max b_is b_spelling b_max a b v is = omega (arith, a v.0 is.0, b v.1 is.1, length-append (a_spelling v.0) (b_spelling v.1))

pub length-optional : {A : Type 0} (spelling : A → List ℕ) (x : A) → length (optional spelling (Some x)) ≡ 4 + length (spelling x)
unfolding optional
length-optional spelling x = length-append (boolean true) (spelling x) ∙ ap (λ (n : ℕ). n + length (spelling x)) (length-boolean true)

pub length-optional_none : {A : Type 0} (spelling : A → List ℕ) → length (optional spelling None) ≡ 4
unfolding optional
length-optional_none spelling = length-boolean false

pub optional_bounded : {A : Type 0} (is_value : A → Type 0) (spelling : A → List ℕ) (max : ℕ) → IsBounded is_value spelling max → IsBounded (if_there is_value) (optional spelling) (max_optional max)
optional_bounded is_value spelling max bounded None is = omega (arith, length-optional_none spelling)
optional_bounded is_value spelling max bounded (Some x) is = omega (arith, bounded x is, length-optional spelling x)
