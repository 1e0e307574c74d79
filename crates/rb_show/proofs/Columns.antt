-- What the option `>N` of a hole writes.
use Rattle.std.proofs.Common.{◌≡◌, ◌-◌, ◌^◌, ◌++◌, ◌∷◌, [], ℕ, List, zero, suc, false, arith, lit<, length, replicate, refl, ap, append-nil}
use Rattle.std.specs.List.{repeat}
use Rattle.std.specs.Prelude.{encode_utf8}
use Rattle.std.proofs.lemmas.Str.{encode_ascii}
use Rattle.std.specs.Fmt.{padded_integral, format_spec, char_count}
use Rattle.rb_show.specs.Texts.{at_right}

pub repeat-single : (n x : ℕ) → repeat n (x ∷ []) ≡ replicate n x
repeat-single zero x = refl
repeat-single (suc n) x = ap (λ l. x ∷ l) (repeat-single n x)

-- the fill before and after the digits, as the options compute it
before : (n : ℕ) (digits space : List ℕ) → space ≡ 32 ∷ [] → (((repeat (n - 0 - 0) space ++ []) ++ []) ++ []) ++ (digits ++ repeat ((n - 0 - 0) - (n - 0 - 0)) space) ≡ replicate n 32 ++ digits
before n digits space e =
    let same : n - 0 - 0 ≡ n = omega arith in
    let none : n - n ≡ 0 = omega arith in
    rw (e, same, none, repeat-single n 32, append-nil, append-nil, append-nil, append-nil) refl

-- the space's own encoding
space_text : encode_utf8 32 ≡ 32 ∷ []
space_text = encode_ascii 32 (lit< tt)

pub padded_right : (width : ℕ) (digits : List ℕ) → padded_integral (format_spec 32 3 0 width (2 ^ 64 - 1)) false [] digits ≡ at_right width digits
unfolding padded_integral char_count
padded_right width digits = before (width - length digits) digits _ space_text
