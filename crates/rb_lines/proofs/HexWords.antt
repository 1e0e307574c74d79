-- Hexadecimal words, and the bytes that they spell.
use Rattle.std.specs.Prelude.{codes, bytes_eq, ◌⊎◌}
use Rattle.std.specs.Char.{digit_value}
use Rattle.std.specs.Result.{result_ok}
use Rattle.std.proofs.Common.{◌≡◌, ◌<◌, ◌≤◌, ◌+◌, ◌-◌, ◌*◌, ◌%◌, ◌&&◌, ℕ, Bool, true, false, cond, leb, ltb, eqb, List, [], ◌∷◌, length, Option, Some, None, Result, Ok, Err, refl, sym, ap, subst, ◌∙◌, arith, inl, inr}
use Rattle.std.proofs.lemmas.Bool.{and_parts, leb-true, le-leb, lt-leb, lt-ltb, le-ltb, eqb-false, ne_eqb, false_from_ne_true, cases_lt}
use Rattle.std.proofs.lemmas.Option.{none-some, same_Some}
use Rattle.std.proofs.lemmas.Slice.Eq.{bytes_eq-Decides}
use Rattle.rb_lines.specs.Fields.{hex_bytes}
use Rattle.rb_lines.specs.LineGrammar.{SpellsByte, SpellsBytes, SpellsHex}
use Rattle.hex.specs.Hex.{◌>>=◌, hex_digit_value, digit_or_error, value_at, pair_value, decode_pairs, decode_of}
use Rattle.hex.specs.declared.error.FromHexError.{FromHexError}
use Rattle.hex.proofs.HexLemmas.{decode_of-ok, decode_of-even}

pub chosen : {A : Type 0} (b : Bool) (x y : Option A) (v : A) → cond b x y ≡ Some v → ((b ≡ true) × (x ≡ Some v)) ⊎ ((b ≡ false) × (y ≡ Some v))
chosen true x y v h = inl (refl, h)
chosen false x y v h = inr (refl, h)

-- ---- digits

upper_value : (c : ℕ) → 65 ≤ c → c ≤ 70 → digit_value c ≡ c - 55
upper_value c low high =
    let a : ltb c 48 ≡ false = le-ltb c 48 (omega arith) in
    let b : ltb c 58 ≡ false = le-ltb c 58 (omega arith) in
    let d : ltb c 65 ≡ false = le-ltb c 65 low in
    let e : ltb c 91 ≡ true = lt-ltb c 91 (omega arith) in
    rw (a, b, d, e) refl

lower_value : (c : ℕ) → 97 ≤ c → c ≤ 102 → digit_value c ≡ c - 87
lower_value c low high =
    let a : ltb c 48 ≡ false = le-ltb c 48 (omega arith) in
    let b : ltb c 58 ≡ false = le-ltb c 58 (omega arith) in
    let d : ltb c 65 ≡ false = le-ltb c 65 (omega arith) in
    let e : ltb c 91 ≡ false = le-ltb c 91 (omega arith) in
    let f : ltb c 97 ≡ false = le-ltb c 97 low in
    let g : ltb c 123 ≡ true = lt-ltb c 123 (omega arith) in
    rw (a, b, d, e, f, g) refl

decimal_value : (c : ℕ) → 48 ≤ c → c ≤ 57 → digit_value c ≡ c - 48
decimal_value c low high =
    let a : ltb c 48 ≡ false = le-ltb c 48 low in
    let b : ltb c 58 ≡ true = lt-ltb c 58 (omega arith) in
    rw (a, b) refl

between : (low c high : ℕ) → (leb low c && leb c high) ≡ true → (low ≤ c) × (c ≤ high)
between low c high h = let parts = and_parts _ _ h in (leb-true _ _ parts.0, leb-true _ _ parts.1)

digit_is : (c v : ℕ) → hex_digit_value c ≡ Some v → (digit_value c ≡ v) × (v < 16)
digit_is c v h = elim (chosen (leb 65 c && leb c 70) (Some (c - 55)) (cond (leb 97 c && leb c 102) (Some (c - 87)) (cond (leb 48 c && leb c 57) (Some (c - 48)) None)) v h) [
  | inl upper ↦
      let r = between 65 c 70 upper.0 in
      let same : c - 55 ≡ v = same_Some _ _ upper.1 in
      (upper_value c r.0 r.1 ∙ same, omega (arith, same, r.0, r.1))
  | inr other ↦ elim (chosen (leb 97 c && leb c 102) (Some (c - 87)) (cond (leb 48 c && leb c 57) (Some (c - 48)) None) v other.1) [
    | inl lower ↦
        let r = between 97 c 102 lower.0 in
        let same : c - 87 ≡ v = same_Some _ _ lower.1 in
        (lower_value c r.0 r.1 ∙ same, omega (arith, same, r.0, r.1))
    | inr last ↦ elim (chosen (leb 48 c && leb c 57) (Some (c - 48)) None v last.1) [
      | inl ten ↦
          let r = between 48 c 57 ten.0 in
          let same : c - 48 ≡ v = same_Some _ _ ten.1 in
          (decimal_value c r.0 r.1 ∙ same, omega (arith, same, r.0, r.1))
      | inr none ↦ absurd (none-some v none.1)
    ]
  ]
]

decimal_digit_of : (c : ℕ) → 48 ≤ c → c ≤ 57 → hex_digit_value c ≡ Some (digit_value c)
decimal_digit_of c low high =
    let a : leb 65 c ≡ false = lt-leb 65 c (omega arith) in
    let b : leb 97 c ≡ false = lt-leb 97 c (omega arith) in
    let d : leb 48 c ≡ true = le-leb 48 c low in
    let e : leb c 57 ≡ true = le-leb c 57 high in
    let value = decimal_value c low high in
    rw (a, b, d, e, value) refl

upper_digit_of : (c : ℕ) → 65 ≤ c → c ≤ 70 → hex_digit_value c ≡ Some (digit_value c)
upper_digit_of c low high =
    let a : leb 65 c ≡ true = le-leb 65 c low in
    let b : leb c 70 ≡ true = le-leb c 70 high in
    let value = upper_value c low high in
    rw (a, b, value) refl

lower_digit_of : (c : ℕ) → 97 ≤ c → c ≤ 102 → hex_digit_value c ≡ Some (digit_value c)
lower_digit_of c low high =
    let a : leb 65 c ≡ true = le-leb 65 c (omega arith) in
    let b : leb c 70 ≡ false = lt-leb c 70 (omega arith) in
    let d : leb 97 c ≡ true = le-leb 97 c low in
    let e : leb c 102 ≡ true = le-leb c 102 high in
    let value = lower_value c low high in
    rw (a, b, d, e, value) refl

-- the bytes of hexadecimal digits
abbrev IsHexDigit : ℕ → Type 0
IsHexDigit c = ((48 ≤ c) × (c ≤ 57)) ⊎ (((65 ≤ c) × (c ≤ 70)) ⊎ ((97 ≤ c) × (c ≤ 102)))

is_hex : (c : ℕ) → digit_value c < 16 → IsHexDigit c
is_hex c h = elim (cases_lt c 48) [
  | inl a ↦ let h1 = rw (lt-ltb c 48 a) at h in absurd (omega arith)
  | inr a ↦ let h1 = rw (le-ltb c 48 a) at h in elim (cases_lt c 58) [
    | inl b ↦ inl (a, omega arith)
    | inr b ↦ let h2 = rw (le-ltb c 58 b) at h1 in elim (cases_lt c 65) [
      | inl d ↦ let h3 = rw (lt-ltb c 65 d) at h2 in absurd (omega arith)
      | inr d ↦ let h3 = rw (le-ltb c 65 d) at h2 in elim (cases_lt c 91) [
        | inl e ↦ let h4 = rw (lt-ltb c 91 e) at h3 in inr (inl (d, omega arith))
        | inr e ↦ let h4 = rw (le-ltb c 91 e) at h3 in elim (cases_lt c 97) [
          | inl f ↦ let h5 = rw (lt-ltb c 97 f) at h4 in absurd (omega arith)
          | inr f ↦ let h5 = rw (le-ltb c 97 f) at h4 in elim (cases_lt c 123) [
            | inl g ↦ let h6 = rw (lt-ltb c 123 g) at h5 in inr (inr (f, omega arith))
            | inr g ↦ let h6 = rw (le-ltb c 123 g) at h5 in absurd (omega arith)
          ]
        ]
      ]
    ]
  ]
]

digit_of : (c : ℕ) → digit_value c < 16 → hex_digit_value c ≡ Some (digit_value c)
digit_of c h = elim (is_hex c h) [
  | inl ten ↦ decimal_digit_of c ten.0 ten.1
  | inr letter ↦ elim letter [
    | inl upper ↦ upper_digit_of c upper.0 upper.1
    | inr lower ↦ lower_digit_of c lower.0 lower.1
  ]
]

-- ---- bytes

same_ok : {A : Type 0} (x y : A) → ◌≡◌ {A = Result A FromHexError} (Ok x) (Ok y) → x ≡ y
same_ok x y h = cc

ok_bound : {A B : Type 0} (r : Result A FromHexError) (f : A → Result B FromHexError) (y : B) → (r >>= f) ≡ Ok y → (x : A) × (r ≡ Ok x) × (f x ≡ Ok y)
ok_bound (Ok x) f y h = (x, refl, h)
ok_bound (Err e) f y h = cc h

digit_read : (c i : ℕ) (o : Option ℕ) (v : ℕ) → digit_or_error c i o ≡ Ok v → o ≡ Some v
digit_read c i (Some w) v h = ap Some (same_ok w v h)
digit_read c i None v h = cc h

pair_is : (high low i v : ℕ) → pair_value high low i ≡ Ok v → SpellsByte v high low
pair_is high low i v h =
    let (x, is_x, more) = ok_bound (value_at high i) _ v h in
    let (y, is_y, last) = ok_bound (value_at low (i + 1)) _ v more in
    let (x_is, x_fits) = digit_is high x (digit_read high i _ x is_x) in
    let (y_is, y_fits) = digit_is low y (digit_read low (i + 1) _ y is_y) in
    let sum : x * 16 + y ≡ v = same_ok _ _ last in
    record { high_digit = omega (arith, x_is, x_fits); low_digit = omega (arith, y_is, y_fits); value = omega (arith, sum, x_is, y_is) }

pair_of : (high low i v : ℕ) → SpellsByte v high low → pair_value high low i ≡ Ok v
pair_of high low i v s = let value = s.value in rw (digit_of high s.high_digit, digit_of low s.low_digit) (ap Ok value)

spelled : (i : ℕ) (text bytes : List ℕ) → decode_pairs i text ≡ Ok bytes → SpellsBytes bytes text
unfolding decode_pairs
spelled i [] bytes h = subst (λ (bs : List ℕ). SpellsBytes bs []) (same_ok _ _ h) tt
spelled i (c ∷ []) bytes h = cc h
spelled i (high ∷ low ∷ text) bytes h =
    let (v, is_v, more) = ok_bound (pair_value high low i) _ bytes h in
    let (vs, is_vs, last) = ok_bound (decode_pairs (i + 2) text) _ bytes more in
    subst (λ (bs : List ℕ). SpellsBytes bs (high ∷ low ∷ text)) (same_ok _ _ last) (pair_is high low i v is_v, spelled (i + 2) text vs is_vs)

decoded : (i : ℕ) (bytes text : List ℕ) → SpellsBytes bytes text → decode_pairs i text ≡ Ok bytes
unfolding decode_pairs
decoded i [] [] s = refl
decoded i [] (c ∷ text) s = absurd s
decoded i (byte ∷ bytes) [] s = absurd s
decoded i (byte ∷ bytes) (c ∷ []) s = absurd s
decoded i (byte ∷ bytes) (high ∷ low ∷ text) s = rw (pair_of high low i byte s.0, decoded (i + 2) bytes text s.1) refl

two_each : (bytes text : List ℕ) → SpellsBytes bytes text → length text ≡ 2 * length bytes
two_each [] [] s = refl
two_each [] (c ∷ text) s = absurd s
two_each (byte ∷ bytes) [] s = absurd s
two_each (byte ∷ bytes) (c ∷ []) s = absurd s
two_each (byte ∷ bytes) (high ∷ low ∷ text) s = let rest = two_each bytes text s.1 in omega (arith, rest)

-- ---- words

of_digits : (bytes text : List ℕ) → (length text ≡ 0 → ⊥) → SpellsBytes bytes text → SpellsHex bytes text
of_digits [] [] some s = absurd (some refl)
of_digits [] (c ∷ text) some s = absurd s
of_digits (byte ∷ bytes) text some s = s

read_ok : (r : Result (List ℕ) FromHexError) (bytes : List ℕ) → result_ok r ≡ Some bytes → r ≡ Ok bytes
read_ok (Ok xs) bytes h = ap Ok (same_Some xs bytes h)
read_ok (Err e) bytes h = absurd (none-some bytes h)

pub hex_is : (text bytes : List ℕ) → hex_bytes text ≡ Some bytes → SpellsHex bytes text
unfolding hex_bytes
hex_is text bytes h = elim (chosen (bytes_eq text (codes "-")) (Some []) (cond (eqb (length text) 0) None (result_ok (decode_of text))) bytes h) [
  | inl dash ↦ subst (λ (bs : List ℕ). SpellsHex bs text) (same_Some _ _ dash.1) ((bytes_eq-Decides text (codes "-")).0 dash.0)
  | inr other ↦ elim (chosen (eqb (length text) 0) None (result_ok (decode_of text)) bytes other.1) [
    | inl empty ↦ absurd (none-some bytes empty.1)
    | inr digits ↦
        let ok = read_ok (decode_of text) bytes digits.1 in
        let even : length text % 2 ≡ 0 = (decode_of-ok text bytes ok).0 in
        of_digits bytes text (eqb-false _ _ digits.0) (spelled 0 text bytes (sym (decode_of-even text even) ∙ ok))
  ]
]

pub hex_of : (text bytes : List ℕ) → SpellsHex bytes text → hex_bytes text ≡ Some bytes
unfolding hex_bytes
hex_of text [] s = ap hex_bytes s
hex_of text (byte ∷ bytes) s =
    let long = two_each (byte ∷ bytes) text s in
    let no_dash : bytes_eq text (codes "-") ≡ false = false_from_ne_true _ (λ same. let one : length text ≡ 1 = ap (λ (t : List ℕ). length t) ((bytes_eq-Decides text (codes "-")).0 same) in omega (arith, one, long)) in
    let some : eqb (length text) 0 ≡ false = ne_eqb _ _ (λ e. omega (arith, e, long)) in
    let even : length text % 2 ≡ 0 = omega (arith, long) in
    let whole : decode_of text ≡ Ok (byte ∷ bytes) = decode_of-even text even ∙ decoded 0 (byte ∷ bytes) text s in
    rw (no_dash, some, whole) refl
