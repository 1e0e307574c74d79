-- What is read of bytes, or refused by another fault than Short, is so whatever follows them.
use Rattle.std.proofs.Common.{◌≡◌, ◌≤◌, ◌+◌, ◌-◌, ℕ, Bool, true, false, cond, eqb, ltb, List, ◌++◌, length, take, drop, Result, Ok, Err, refl, sym, ap, ◌∙◌, arith, inl, inr, length-append}
use Rattle.std.specs.Prelude.{slice_range, ⊤}
use Rattle.std.proofs.lemmas.List.{take-append-le, drop-append-le, length-drop}
use Rattle.std.proofs.lemmas.Bool.{cases_lt, lt-ltb, le-ltb, ltb-false}
use Rattle.rb_xdr.specs.declared.fault.XdrFault.{XdrFault}
use Rattle.rb_xdr.specs.declared.fault.XdrFault.TheVariants.{Short, TooLong, BadBool, BadPadding}
use Rattle.rb_xdr.specs.Xdr.{Reading, Reader, behind, read_on, ◌>>=◌, give, refuse, number_at, residue, are_zero, read_number, read_bool, read_content, read_opaque}
use Rattle.rb_xdr.specs.Forms.{Form, extent, extent_of}
use Rattle.rb_xdr.specs.Forms.Form.{Number, Flag, Content, Then, Optional}
use Rattle.rb_xdr.proofs.Readers.{ok_is, bind_ok}

pub record Settles {A : Type 0} (reads : Reader A) : Type 0 where
  pub keeps : (bytes more : List ℕ) (r : Reading A) → reads bytes ≡ r → (r ≡ Err Short → ⊥) → reads (bytes ++ more) ≡ r
  pub ends : (bytes : List ℕ) (x : A) (used : ℕ) → reads bytes ≡ Ok (x, used) → used ≤ length bytes

pub give_settles : {A : Type 0} (x : A) → Settles (give x)
give_settles x = record {
  keeps = λ bytes more r e other. e;
  ends = λ bytes y used e. let none : 0 ≡ used = ap (λ (p : _ × ℕ). p.1) (ok_is (x, 0) (y, used) e) in omega (arith, none);
}

refuse_settles : {A : Type 0} (fault : XdrFault) → Settles {A = A} (refuse fault)
refuse_settles fault = record {
  keeps = λ bytes more r e other. e;
  ends = λ bytes x used e. absurd cc;
}

cond_settles : {A : Type 0} (b : Bool) (first second : Reader A) → Settles first → Settles second → Settles (cond b first second)
cond_settles true first second p q = p
cond_settles false first second p q = q

pub bind_settles : {A B : Type 0} (first : Reader A) (next : A → Reader B) → Settles first → ((x : A) → Settles (next x)) → Settles (first >>= next)
bind_settles {A} {B} first next settles then_settles = record {
  keeps = λ bytes more r e other. by_value bytes more r other (first bytes) refl e;
  ends = λ bytes y used e.
      let s = bind_ok first next bytes y used e in
      let p : s.used ≤ length bytes = settles.ends bytes s.x s.used s.was in
      let q : s.more ≤ length (drop s.used bytes) = (then_settles s.x).ends (drop s.used bytes) y s.more s.then_was in
      let sum : s.used + s.more ≡ used = s.sum in
      omega (arith, p, q, sum, length-drop s.used bytes);
}
  where
    by_value : (bytes more : List ℕ) (r : Reading B) → (r ≡ Err Short → ⊥) → (q : Reading A) → first bytes ≡ q → read_on q next bytes ≡ r → (first >>= next) (bytes ++ more) ≡ r
    by_value bytes more r other (Err fault) was e =
        let known : (◌≡◌ {A = Reading A} (Err fault) (Err Short)) → ⊥ = λ short. other (let same : fault ≡ Short = cc in sym e ∙ ap (λ (f : XdrFault). Err f) same) in
        ap (λ (q : Reading A). read_on q next (bytes ++ more)) (settles.keeps bytes more (Err fault) was known) ∙ e
    by_value bytes more r other (Ok x) was e =
        let within : x.1 ≤ length bytes = settles.ends bytes x.0 x.1 was in
        let known : (next x.0 (drop x.1 bytes) ≡ Err Short) → ⊥ = λ short. other (sym e ∙ ap (λ (q : Reading B). behind x.1 q) short) in
        ap (λ (q : Reading A). read_on q next (bytes ++ more)) (settles.keeps bytes more (Ok x) was (λ short. absurd cc))
        ∙ ap (λ (xs : List ℕ). behind x.1 (next x.0 xs)) (drop-append-le x.1 bytes more within)
        ∙ ap (λ (q : Reading B). behind x.1 q) ((then_settles x.0).keeps (drop x.1 bytes) more (next x.0 (drop x.1 bytes)) refl known) ∙ e

-- ---- the types

refused : {A : Type 0} (b : Bool) (d : XdrFault) (r : Result A XdrFault) (y : A) → cond b (Err d) r ≡ Ok y → (b ≡ false) × (r ≡ Ok y)
refused true d r y e = absurd cc
refused false d r y e = (refl, e)

pub number_settles : Settles read_number
unfolding read_number number_at
number_settles = record {
  keeps = λ bytes more r e other.
      elim (cases_lt (length bytes) 4) [
        | inl short ↦ absurd (other (sym e ∙ rw (lt-ltb (length bytes) 4 short) refl))
        | inr long ↦
            let longer : 4 ≤ length (bytes ++ more) = omega (arith, long, length-append bytes more) in
            rw (le-ltb (length (bytes ++ more)) 4 longer, take-append-le 4 bytes more long) (sym (rw (le-ltb (length bytes) 4 long) refl) ∙ e)
      ];
  ends = λ bytes x used e.
      let r = refused (ltb (length bytes) 4) Short (Ok (number_at 0 bytes, 4)) (x, used) e in
      let used_is : 4 ≡ used = ap (λ (p : ℕ × ℕ). p.1) (ok_is (number_at 0 bytes, 4) (x, used) r.1) in
      omega (arith, used_is, ltb-false (length bytes) 4 r.0);
}

pub bool_settles : Settles read_bool
unfolding read_bool
bool_settles =
    bind_settles read_number (λ n. cond (eqb n 0) (give false) (cond (eqb n 1) (give true) (refuse BadBool))) number_settles
    (λ n. cond_settles (eqb n 0) (give false) (cond (eqb n 1) (give true) (refuse BadBool)) (give_settles false)
    (cond_settles (eqb n 1) (give true) (refuse BadBool) (give_settles true) (refuse_settles BadBool)))

passed : {A : Type 0} (b : Bool) (d : XdrFault) (x y : A) → cond b (Ok x) (Err d) ≡ Ok y → x ≡ y
passed true d x y e = ok_is x y e
passed false d x y e = absurd cc

content_settles : (count : ℕ) → Settles (read_content count)
unfolding read_content
content_settles count = record {
  keeps = λ bytes more r e other.
      elim (cases_lt (length bytes) (count + residue count)) [
        | inl short ↦ absurd (other (sym e ∙ rw (lt-ltb (length bytes) (count + residue count) short) refl))
        | inr long ↦ settled bytes more r e long
      ];
  ends = λ bytes x used e.
      let r = refused (ltb (length bytes) (count + residue count)) Short _ (x, used) e in
      let used_is : count + residue count ≡ used = ap (λ (p : List ℕ × ℕ). p.1) (passed (are_zero (slice_range bytes count (count + residue count))) BadPadding (take count bytes, count + residue count) (x, used) r.1) in
      omega (arith, used_is, ltb-false (length bytes) (count + residue count) r.0);
}
  where
    settled : (bytes more : List ℕ) (r : Reading (List ℕ)) → read_content count bytes ≡ r → count + residue count ≤ length bytes → read_content count (bytes ++ more) ≡ r
    settled bytes more r e long =
        let longer : count + residue count ≤ length (bytes ++ more) = omega (arith, long, length-append bytes more) in
        let size : (count + residue count) - count ≤ length (drop count bytes) = omega (arith, long, length-drop count bytes) in
        let padding : slice_range (bytes ++ more) count (count + residue count) ≡ slice_range bytes count (count + residue count) =
        ap (λ (xs : List ℕ). take ((count + residue count) - count) xs) (drop-append-le count bytes more (omega (arith, long))) ∙ take-append-le ((count + residue count) - count) (drop count bytes) more size in
        let front : take count (bytes ++ more) ≡ take count bytes = take-append-le count bytes more (omega (arith, long)) in
        rw (le-ltb (length (bytes ++ more)) (count + residue count) longer, padding, front) (sym (rw (le-ltb (length bytes) (count + residue count) long) refl) ∙ e)

pub opaque_settles : (limit : ℕ) → Settles (read_opaque limit)
unfolding read_opaque
opaque_settles limit =
    bind_settles read_number (λ count. cond (ltb limit count) (refuse TooLong) (read_content count)) number_settles
    (λ count. cond_settles (ltb limit count) (refuse TooLong) (read_content count) (refuse_settles TooLong) (content_settles count))

-- ---- forms

extent_settles : {A : Type 0} (reads : Reader A) → Settles reads → Settles (λ bytes. extent (reads bytes))
extent_settles {A} reads settles = record {
  keeps = λ bytes more r e other. by_value bytes more r other (reads bytes) refl e;
  ends = λ bytes x used e. within bytes used (reads bytes) refl e;
}
  where
    by_value : (bytes more : List ℕ) (r : Reading ⊤) → (r ≡ Err Short → ⊥) → (q : Reading A) → reads bytes ≡ q → extent q ≡ r → extent (reads (bytes ++ more)) ≡ r
    by_value bytes more r other (Err fault) was e =
        let known : (◌≡◌ {A = Reading A} (Err fault) (Err Short)) → ⊥ = λ short. other (let same : fault ≡ Short = cc in sym e ∙ ap (λ (f : XdrFault). Err f) same) in
        ap extent (settles.keeps bytes more (Err fault) was known) ∙ e
    by_value bytes more r other (Ok x) was e = ap extent (settles.keeps bytes more (Ok x) was (λ short. absurd cc)) ∙ e

    within : (bytes : List ℕ) {t : ⊤} (used : ℕ) (q : Reading A) → reads bytes ≡ q → extent q ≡ Ok (t, used) → used ≤ length bytes
    within bytes {t} used (Ok x) was e =
        let used_is : x.1 ≡ used = ap (λ (p : ⊤ × ℕ). p.1) (ok_is (tt, x.1) (t, used) e) in
        omega (arith, used_is, settles.ends bytes x.0 x.1 was)
    within bytes {t} used (Err fault) was e = absurd cc

pub form_settles : (form : Form) → Settles (extent_of form)
form_settles Number = extent_settles read_number number_settles
form_settles Flag = extent_settles read_bool bool_settles
form_settles (Content limit) = extent_settles (read_opaque limit) (opaque_settles limit)
form_settles (Then first rest) = bind_settles (extent_of first) (λ _. extent_of rest) (form_settles first) (λ _. form_settles rest)
form_settles (Optional item) =
    bind_settles read_bool (λ there. cond there (extent_of item) (give tt)) bool_settles
    (λ there. cond_settles there (extent_of item) (give tt) (form_settles item) (give_settles tt))
