-- The text of an IPv6 host has digits, lower-case letters and colons alone, whatever its groups are.
use Rattle.std.proofs.Common.{◌≡◌, ℕ, ◌+◌, ◌/◌, ◌%◌, ◌<◌, eqb, false, List, [], ◌∷◌, take, drop, flat_map, arith}
use Rattle.std.specs.Prelude.{All, ◌⊎◌}
use Rattle.std.specs.Char.{digit_char}
use Rattle.std.specs.Net.Addr.{segments_of}
use Rattle.std.specs.Net.Text.{hex, groups_text, longest_zero_run, hex_groups_text, compressed_text, leading_zero_digits}
use Rattle.std.proofs.lemmas.Bool.{cond_both, ne_eqb}
use Rattle.std.proofs.lemmas.Bool.Decides.{nat_tests}
use Rattle.std.proofs.lemmas.List.Elements.{All-nil, All-cons, All-append, All-drop}
use Rattle.rb_uaddr.specs.Uaddr.{ipv6_host_text}

-- no digit, no letter and no colon
abbrev pub IsOther : ℕ → Type 0
IsOther at = (at < 48) ⊎ ((58 < at) × (at < 97))

abbrev pub IsWithout : ℕ → List ℕ → Type 0
IsWithout at text = All (λ b. eqb b at ≡ false) text

module _ (at : ℕ) (other : IsOther at) where
  P : ℕ → Type 0
  P b = eqb b at ≡ false

  digit_differs : (d : ℕ) → eqb (digit_char d) at ≡ false
  digit_differs d = ne_eqb (digit_char d) at (λ e. grind (arith, nat_tests, other, e))

  colon_differs : eqb 58 at ≡ false
  colon_differs = ne_eqb 58 at (λ e. grind (arith, other, e))

  hex_without : (n : ℕ) → IsWithout at (hex n)
  unfolding hex
  hex_without n =
      let a = digit_char (n / 0x1000) in
      let b = digit_char (n / 0x100 % 16) in
      let c = digit_char (n / 0x10 % 16) in
      let d = digit_char (n % 16) in
      All-drop (λ b. eqb b at ≡ false) (leading_zero_digits n) (a ∷ b ∷ c ∷ d ∷ [])
      (All-cons (λ b. eqb b at ≡ false) a (b ∷ c ∷ d ∷ []) (digit_differs (n / 0x1000))
      (All-cons (λ b. eqb b at ≡ false) b (c ∷ d ∷ []) (digit_differs (n / 0x100 % 16))
      (All-cons (λ b. eqb b at ≡ false) c (d ∷ []) (digit_differs (n / 0x10 % 16))
      (All-cons (λ b. eqb b at ≡ false) d [] (digit_differs (n % 16)) (All-nil (λ b. eqb b at ≡ false))))))

  more_without : (xs : List ℕ) → IsWithout at (flat_map (λ t. 58 ∷ hex t) xs)
  more_without [] = All-nil (λ b. eqb b at ≡ false)
  more_without (x ∷ xs) = All-append (λ b. eqb b at ≡ false) (58 ∷ hex x) _ (All-cons (λ b. eqb b at ≡ false) 58 (hex x) colon_differs (hex_without x)) (more_without xs)

  groups_without : (xs : List ℕ) → IsWithout at (groups_text xs)
  groups_without [] = All-nil (λ b. eqb b at ≡ false)
  groups_without (x ∷ xs) = All-append (λ b. eqb b at ≡ false) (hex x) _ (hex_without x) (more_without xs)

  compressed_without : (xs : List ℕ) (run : ℕ × ℕ) → IsWithout at (compressed_text xs run)
  compressed_without xs run =
      let gap = All-cons (λ b. eqb b at ≡ false) 58 (58 ∷ []) colon_differs (All-cons (λ b. eqb b at ≡ false) 58 [] colon_differs (All-nil (λ b. eqb b at ≡ false))) in
      let head = All-append (λ b. eqb b at ≡ false) _ _ (groups_without (take run.0 xs)) gap in
      let both = All-append (λ b. eqb b at ≡ false) _ _ head (groups_without (drop (run.0 + run.1) xs)) in
      cond_both _ _ _ (IsWithout at) (λ _. both) (λ _. groups_without xs)

  pub host_without : (octets : List ℕ) → IsWithout at (ipv6_host_text octets)
  unfolding ipv6_host_text hex_groups_text
  host_without octets = compressed_without (segments_of octets) (longest_zero_run (segments_of octets))
