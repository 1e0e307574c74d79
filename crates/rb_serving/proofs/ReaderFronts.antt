-- How many bytes a reader looks at.
use Rattle.std.specs.Prelude.{slice_range}
use Rattle.std.specs.Int.{w32, from_be_bytes}
use Rattle.std.proofs.Common.{◌≡◌, ◌≤◌, ◌+◌, ◌-◌, ℕ, Bool, true, false, cond, ltb, List, length, take, drop, Result, Ok, Err, refl, sym, ap, ◌∙◌, arith, inl, inr}
use Rattle.std.proofs.lemmas.List.{take-take, take_all, drop-take, length-take}
use Rattle.std.proofs.lemmas.Bool.{cases_lt, le-ltb, ltb-false}
use Rattle.rb_xdr.specs.declared.fault.XdrFault.{XdrFault}
use Rattle.rb_xdr.specs.Xdr.{Reading, Reader, behind, read_on, ◌>>=◌, give, refuse, number_at, residue, are_zero, max_number, max_opaque, read_number, read_content, read_opaque}
use Rattle.rb_xdr.specs.declared.fault.XdrFault.TheVariants.{Short, TooLong, BadPadding}
use Rattle.rb_xdr.proofs.Readers.{ok_is, bind_ok}

-- ---- parts of a front

pub drop_front : (p n : ℕ) (xs : List ℕ) → p ≤ n → drop p (take n xs) ≡ take (n - p) (drop p xs)
drop_front p n xs le =
    let size : n ≡ p + (n - p) = omega (arith, le) in
    ap (λ (k : ℕ). drop p (take k xs)) size ∙ drop-take p (n - p) xs

pub part_of_front : (p k n : ℕ) (xs : List ℕ) → p + k ≤ n → take k (drop p (take n xs)) ≡ take k (drop p xs)
part_of_front p k n xs le =
    ap (λ (ys : List ℕ). take k ys) (drop_front p n xs (omega (arith, le))) ∙ take-take k (n - p) (drop p xs) (omega (arith, le))

pub slice_of_front : (p q n : ℕ) (xs : List ℕ) → p ≤ q → q ≤ n → slice_range (take n xs) p q ≡ slice_range xs p q
slice_of_front p q n xs le within = part_of_front p (q - p) n xs (omega (arith, le, within))

pub number_of_front : (p n : ℕ) (xs : List ℕ) → p + 4 ≤ n → number_at p (take n xs) ≡ number_at p xs
unfolding number_at
number_of_front p n xs le = ap (λ (ys : List ℕ). from_be_bytes w32 ys) (part_of_front p 4 n xs le)

-- a front is shorter than this many bytes if the whole is
pub short_front : (k n : ℕ) (xs : List ℕ) → k ≤ n → ltb (length (take n xs)) k ≡ ltb (length xs) k
short_front k n xs le =
    elim (cases_lt (length xs) n) [
      | inl short ↦ ap (λ (ys : List ℕ). ltb (length ys) k) (take_all n xs (omega (arith, short)))
      | inr long ↦ le-ltb (length (take n xs)) k (omega (arith, long, le, length-take n xs)) ∙ sym (le-ltb (length xs) k (omega (arith, long, le)))
    ]

-- ---- readers

-- A front of this many bytes decides what is read, and a value ends in it.
pub record LooksAt {A : Type 0} (most : ℕ) (reads : Reader A) : Type 0 where
  pub decided : (n : ℕ) (bytes : List ℕ) → most ≤ n → reads (take n bytes) ≡ reads bytes
  pub ends : (bytes : List ℕ) (x : A) (used : ℕ) → reads bytes ≡ Ok (x, used) → used ≤ most

pub looks_at_more : {A : Type 0} (most more : ℕ) (reads : Reader A) → most ≤ more → LooksAt most reads → LooksAt more reads
looks_at_more most more reads le looks = record {
  decided = λ n bytes enough. looks.decided n bytes (omega (arith, le, enough));
  ends = λ bytes x used e. omega (arith, le, looks.ends bytes x used e);
}

pub give_looks : {A : Type 0} (x : A) (most : ℕ) → LooksAt most (give x)
give_looks x most = record {
  decided = λ n bytes enough. refl;
  ends = λ bytes y used e. let zero_is : 0 ≡ used = ap (λ (p : _ × ℕ). p.1) (ok_is (x, 0) (y, used) e) in omega (arith, zero_is);
}

pub refuse_looks : {A : Type 0} (fault : XdrFault) (most : ℕ) → LooksAt {A = A} most (refuse fault)
refuse_looks fault most = record {
  decided = λ n bytes enough. refl;
  ends = λ bytes x used e. absurd cc;
}

pub cond_looks : {A : Type 0} (most : ℕ) (b : Bool) (first second : Reader A) → (b ≡ true → LooksAt most first) → (b ≡ false → LooksAt most second) → LooksAt most (cond b first second)
cond_looks most true first second p q = p refl
cond_looks most false first second p q = q refl

-- one after the other looks at the sum
pub bind_looks : {A B : Type 0} (most more : ℕ) (first : Reader A) (next : A → Reader B) → LooksAt most first → ((x : A) → LooksAt more (next x)) → LooksAt (most + more) (first >>= next)
bind_looks {A} {B} most more first next looks then_looks = record {
  decided = λ n bytes enough. ap (λ (r : Reading A). read_on r next (take n bytes)) (looks.decided n bytes (omega (arith, enough))) ∙ by_value n bytes enough (first bytes) refl;
  ends = λ bytes y used e.
      let s = bind_ok first next bytes y used e in
      let p : s.used ≤ most = looks.ends bytes s.x s.used s.was in
      let q : s.more ≤ more = (then_looks s.x).ends (drop s.used bytes) y s.more s.then_was in
      let sum : s.used + s.more ≡ used = s.sum in
      omega (arith, p, q, sum);
}
  where
    by_value : (n : ℕ) (bytes : List ℕ) → most + more ≤ n → (r : Reading A) → first bytes ≡ r → read_on r next (take n bytes) ≡ read_on r next bytes
    by_value n bytes enough (Ok x) was =
        let used : x.1 ≤ most = looks.ends bytes x.0 x.1 was in
        ap (λ (ys : List ℕ). behind x.1 (next x.0 ys)) (drop_front x.1 n bytes (omega (arith, used, enough)))
        ∙ ap (λ (r : Reading B). behind x.1 r) ((then_looks x.0).decided (n - x.1) (drop x.1 bytes) (omega (arith, used, enough)))
    by_value n bytes enough (Err fault) was = refl

-- ---- the readers of specs/Xdr

refused : {A : Type 0} (b : Bool) (d : XdrFault) (r : Result A XdrFault) (y : A) → cond b (Err d) r ≡ Ok y → (b ≡ false) × (r ≡ Ok y)
refused true d r y e = absurd cc
refused false d r y e = (refl, e)

pub number_looks : LooksAt max_number read_number
unfolding read_number
number_looks = record {
  decided = λ n bytes enough. rw (short_front 4 n bytes enough, number_of_front 0 n bytes enough) refl;
  ends = λ bytes x used e.
      let r = refused (ltb (length bytes) 4) Short (Ok (number_at 0 bytes, 4)) (x, used) e in
      let used_is : 4 ≡ used = ap (λ (p : ℕ × ℕ). p.1) (ok_is (number_at 0 bytes, 4) (x, used) r.1) in
      omega (arith, used_is);
}

passed : {A : Type 0} (b : Bool) (d : XdrFault) (x y : A) → cond b (Ok x) (Err d) ≡ Ok y → x ≡ y
passed true d x y e = ok_is x y e
passed false d x y e = absurd cc

pub content_looks : (count : ℕ) → LooksAt (count + residue count) (read_content count)
unfolding read_content
content_looks count =
    let size : ℕ = count + residue count in
    record {
      decided = λ n bytes enough.
          rw (short_front (count + residue count) n bytes enough, slice_of_front count (count + residue count) n bytes (omega arith) enough, take-take count n bytes (omega (arith, enough))) refl;
      ends = λ bytes x used e.
          let r = refused (ltb (length bytes) (count + residue count)) Short _ (x, used) e in
          let used_is : count + residue count ≡ used = ap (λ (p : List ℕ × ℕ). p.1) (passed (are_zero (slice_range bytes count (count + residue count))) BadPadding (take count bytes, count + residue count) (x, used) r.1) in
          omega (arith, used_is);
    }

-- at most the count, the greatest content and its residual bytes
pub opaque_looks : (limit : ℕ) → LooksAt (max_opaque limit) (read_opaque limit)
unfolding read_opaque
opaque_looks limit =
    looks_at_more (4 + (limit + residue limit)) (max_opaque limit) (read_number >>= next) (omega arith)
    (bind_looks 4 (limit + residue limit) read_number next number_looks
    (λ count. cond_looks (limit + residue limit) (ltb limit count) (refuse TooLong) (read_content count) (λ e. refuse_looks TooLong (limit + residue limit)) (λ e. within count e)))
  where
    next : ℕ → Reader (List ℕ)
    next count = cond (ltb limit count) (refuse TooLong) (read_content count)

    within : (count : ℕ) → ltb limit count ≡ false → LooksAt (limit + residue limit) (read_content count)
    within count e = looks_at_more (count + residue count) (limit + residue limit) (read_content count) (omega (arith, ltb-false limit count e)) (content_looks count)
