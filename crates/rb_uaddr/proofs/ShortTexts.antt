-- The text of an address has at most 47 bytes.
use Rattle.std.proofs.Common.{◌≡◌, ℕ, ◌*◌, ◌/◌, ◌%◌, ◌^◌, ◌≤◌, ◌<◌, Some, List, [], ◌∷◌, ◌++◌, length, map, refl, arith}
use Rattle.std.specs.Prelude.{All, decimal}
use Rattle.std.specs.List.{join_with_byte}
use Rattle.std.proofs.lemmas.Fmt.{length-decimal-le}
use Rattle.std.proofs.lemmas.List.{length-append}
use Rattle.std.proofs.lemmas.List.Elements.{All-nil, All-cons, All-head, All-tail}
use Rattle.rb_uaddr.specs.declared.address.Uaddr.{Uaddr}
use Rattle.rb_uaddr.specs.declared.address.Uaddr.TheVariants.{V4, V6}
use Rattle.rb_uaddr.specs.Uaddr.{any_host, dot, port_bytes, parse, parse_ipv4, parse_ipv6, text_of}
use Rattle.rb_uaddr.specs.Grammar.{Spells}
use Rattle.rb_uaddr.proofs.GrammarLaws.{read_is_spelled, four_bytes, high_byte_fits, low_byte_fits}
use Rattle.rb_uaddr.proofs.Ipv6Laws.{read_spells_v6}
use Rattle.rb_uaddr.proofs.Groups.{host_short}

decimal_short : (n : ℕ) → n < 256 → length (decimal n) ≤ 3
decimal_short n small = length-decimal-le 3 n (omega arith) (omega (arith, small)) (omega (arith, small))

joined_short : (n : ℕ) (ns : List ℕ) → All (λ b. b < 256) (n ∷ ns) → length (join_with_byte dot (map decimal (n ∷ ns))) ≤ 4 * length (n ∷ ns)
joined_short n [] small = let few = decimal_short n (All-head (λ b. b < 256) n [] small) in omega (arith, few)
joined_short n (m ∷ ns) small =
    let few = decimal_short n (All-head (λ b. b < 256) n (m ∷ ns) small) in
    let rest = joined_short m ns (All-tail (λ b. b < 256) n (m ∷ ns) small) in
    let whole = length-append (decimal n) (dot ∷ join_with_byte dot (map decimal (m ∷ ns))) in
    omega (arith, few, rest, whole)

six_short : (host : List ℕ) (p1 p2 : ℕ) → length host ≡ 4 → All (λ b. b < 256) host → p1 < 256 → p2 < 256 → length (join_with_byte dot (map decimal (host ++ p1 ∷ p2 ∷ []))) ≤ 24
six_short [] p1 p2 four small s1 s2 = omega (arith, four)
six_short (a ∷ host) p1 p2 four small s1 s2 =
    let all = All-push2 (a ∷ host) p1 p2 small s1 s2 in
    let many = length-append host (p1 ∷ p2 ∷ []) in
    let few = joined_short a (host ++ p1 ∷ p2 ∷ []) all in
    omega (arith, few, many, four)
  where
    All-push2 : (xs : List ℕ) (x y : ℕ) → All (λ b. b < 256) xs → x < 256 → y < 256 → All (λ b. b < 256) (xs ++ x ∷ y ∷ [])
    All-push2 [] x y small sx sy = All-cons (λ b. b < 256) x (y ∷ []) sx (All-cons (λ b. b < 256) y [] sy (All-nil (λ b. b < 256)))
    All-push2 (z ∷ xs) x y small sx sy =
        All-cons (λ b. b < 256) z (xs ++ x ∷ y ∷ []) (All-head (λ b. b < 256) z xs small) (All-push2 xs x y (All-tail (λ b. b < 256) z xs small) sx sy)

spelled_short : (u : Uaddr) (text : List ℕ) → Spells u text → length text ≤ 47
spelled_short (V4 host port) text spells =
    let few = six_short host spells.p1 spells.p2 spells.host_fits.count spells.host_fits.small spells.p1_fits spells.p2_fits in
    rw spells.text_is (omega (arith, few))
spelled_short (V6 host port) text spells =
    let host_few = host_short host spells.host_text spells.host_spelled in
    let few1 = decimal_short spells.p1 spells.p1_fits in
    let few2 = decimal_short spells.p2 spells.p2_fits in
    let whole = length-append spells.host_text (dot ∷ (decimal spells.p1 ++ dot ∷ decimal spells.p2)) in
    let rest = length-append (decimal spells.p1) (dot ∷ decimal spells.p2) in
    rw spells.text_is (omega (arith, host_few, few1, few2, whole, rest))

pub read_short : (text : List ℕ) (u : Uaddr) → parse text ≡ Some u → length text ≤ 47
read_short text u is = spelled_short u text ((read_is_spelled text u).0 is)

pub ipv4_short : (text : List ℕ) (u : Uaddr) → parse_ipv4 text ≡ Some u → length text ≤ 47
unfolding parse
ipv4_short text u is = read_short text u (rw is refl)

pub ipv6_short : (text : List ℕ) (u : Uaddr) → parse_ipv6 text ≡ Some u → length text ≤ 47
ipv6_short text u is = spelled_short u text (read_spells_v6 text u is)

pub own_short : (port : ℕ) → port < 2 ^ 16 → length (text_of (V4 any_host port)) ≤ 24
own_short port fits =
    let high = high_byte_fits port fits in
    let low = low_byte_fits port in
    unfold text_of in unfold port_bytes in six_short any_host (port / 256) (port % 256) refl (four_bytes 0 0 0 0 (omega arith) (omega arith) (omega arith) (omega arith)).small high low
