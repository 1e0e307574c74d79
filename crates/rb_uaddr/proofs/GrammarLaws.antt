-- What is read of a text is what it spells, and what is printed is a spelling: IPv4, and both together.
use Rattle.std.proofs.Common.{◌≡◌, ◌<◌, ◌^◌, ◌+◌, ◌*◌, ◌/◌, ◌%◌, ℕ, List, [], ◌∷◌, ◌++◌, length, map, get_or, Option, Some, None, refl, sym, ap, subst, ◌∙◌, arith}
use Rattle.std.specs.Prelude.{decimal, bytes_eq}
use Rattle.std.specs.List.{join_with_byte}
use Rattle.std.specs.Option.{option_or}
use Rattle.std.proofs.lemmas.Bool.{false_from_ne_true}
use Rattle.std.proofs.lemmas.List.Elements.{All-nil, All-cons, All-from_get_or}
use Rattle.std.proofs.lemmas.List.Splits.{join_with_byte-slice_split}
use Rattle.std.proofs.lemmas.Option.{none-some, same_Some}
use Rattle.std.proofs.lemmas.Slice.Eq.{bytes_eq-Decides}
use Rattle.rb_uaddr.specs.declared.address.Uaddr.{Uaddr}
use Rattle.rb_uaddr.specs.declared.address.Uaddr.TheVariants.{V4, V6}
use Rattle.rb_uaddr.specs.Uaddr.{IsBytes, any_host, any_host6, port_bytes, dot, text_of, ipv6_host_text, octet, ipv4_of_parts, parts_of, parse_ipv4, parse_ipv6, parse, merged_address, merged_host, merged_host6}
use Rattle.rb_uaddr.specs.Grammar.{SpellsV4, Spells, ReadIsSpelled, PrintedIsSpelled, PrintedIsRead, OneSpelling, ReadIsAddress, MergesAnyHost}
use Rattle.rb_uaddr.proofs.Octets.{octet_is, octet_decimal}
use Rattle.rb_uaddr.proofs.Splits.{bound, split_joined}
use Rattle.rb_uaddr.proofs.Groups.{spelled_host_fits}
use Rattle.rb_uaddr.proofs.Ipv6Laws.{printed_host_spells, read_spells_v6, spelled_reads_v6, not_ipv4}

-- ---- four bytes and two

pub four_bytes : (a b c d : ℕ) → a < 256 → b < 256 → c < 256 → d < 256 → IsBytes 4 (a ∷ b ∷ c ∷ d ∷ [])
four_bytes a b c d sa sb sc sd =
    let P : ℕ → Type 0 = λ n. n < 256 in
    record { count = refl; small = All-cons P a (b ∷ c ∷ d ∷ []) sa (All-cons P b (c ∷ d ∷ []) sb (All-cons P c (d ∷ []) sc (All-cons P d [] sd (All-nil P)))) }

pub bytes_fit : (n : ℕ) (host : List ℕ) → length host ≡ n → ((i : ℕ) → get_or host i 0 < 256) → IsBytes n host
bytes_fit n host count small = record { count = count; small = All-from_get_or (λ b. b < 256) host 0 (λ i within. small i) }

pub four_reads : (host : List ℕ) → length host ≡ 4 → get_or host 0 0 ∷ get_or host 1 0 ∷ get_or host 2 0 ∷ get_or host 3 0 ∷ [] ≡ host
four_reads [] four = absurd (omega (arith, four))
four_reads (a ∷ []) four = absurd (omega (arith, four))
four_reads (a ∷ b ∷ []) four = absurd (omega (arith, four))
four_reads (a ∷ b ∷ c ∷ []) four = absurd (omega (arith, four))
four_reads (a ∷ b ∷ c ∷ d ∷ []) four = refl
four_reads (a ∷ b ∷ c ∷ d ∷ e ∷ more) four = absurd (omega (arith, four))

-- ---- what is read is spelled

-- the address is IPv4, and the text spells it
abbrev pub SpellsAsV4 : Uaddr → List ℕ → Type 0
SpellsAsV4 (V4 host port) text = SpellsV4 host port text
SpellsAsV4 (V6 host port) text = ⊥

parts_spell : (parts : List (List ℕ)) (u : Uaddr) → ipv4_of_parts parts ≡ Some u → SpellsAsV4 u (join_with_byte dot parts)
unfolding ipv4_of_parts
parts_spell [] u h = absurd (none-some u h)
parts_spell (a ∷ []) u h = absurd (none-some u h)
parts_spell (a ∷ b ∷ []) u h = absurd (none-some u h)
parts_spell (a ∷ b ∷ c ∷ []) u h = absurd (none-some u h)
parts_spell (a ∷ b ∷ c ∷ d ∷ []) u h = absurd (none-some u h)
parts_spell (a ∷ b ∷ c ∷ d ∷ e ∷ []) u h = absurd (none-some u h)
parts_spell (a ∷ b ∷ c ∷ d ∷ e ∷ f ∷ []) u h =
    let (h1, is1, rest1) = bound (octet a) _ u h in
    let (h2, is2, rest2) = bound (octet b) _ u rest1 in
    let (h3, is3, rest3) = bound (octet c) _ u rest2 in
    let (h4, is4, rest4) = bound (octet d) _ u rest3 in
    let (p1, is5, rest5) = bound (octet e) _ u rest4 in
    let (p2, is6, rest6) = bound (octet f) _ u rest5 in
    let (small1, text1) = octet_is a h1 is1 in
    let (small2, text2) = octet_is b h2 is2 in
    let (small3, text3) = octet_is c h3 is3 in
    let (small4, text4) = octet_is d h4 is4 in
    let (small5, text5) = octet_is e p1 is5 in
    let (small6, text6) = octet_is f p2 is6 in
    let host = h1 ∷ h2 ∷ h3 ∷ h4 ∷ [] in
    let P : Uaddr → Type 0 = λ v. SpellsAsV4 v (join_with_byte dot (a ∷ b ∷ c ∷ d ∷ e ∷ f ∷ [])) in
    let texts : a ∷ b ∷ c ∷ d ∷ e ∷ f ∷ [] ≡ map decimal (host ++ p1 ∷ p2 ∷ []) = cc in
    let spelled : SpellsV4 host (256 * p1 + p2) (join_with_byte dot (a ∷ b ∷ c ∷ d ∷ e ∷ f ∷ [])) = record {
      p1 = p1;
      p2 = p2;
      host_fits = four_bytes h1 h2 h3 h4 small1 small2 small3 small4;
      p1_fits = small5;
      p2_fits = small6;
      port_is = refl;
      text_is = ap (join_with_byte dot) texts;
    } in
    subst P (same_Some _ _ rest6) spelled
parts_spell (a ∷ b ∷ c ∷ d ∷ e ∷ f ∷ g ∷ more) u h = absurd (none-some u h)

pub read_spells : (text : List ℕ) (u : Uaddr) → parse_ipv4 text ≡ Some u → SpellsAsV4 u text
unfolding parse_ipv4 parts_of
read_spells text u h = subst (SpellsAsV4 u) (join_with_byte-slice_split dot text) (parts_spell (parts_of text) u h)

-- ---- what is spelled is read

six_read : (a b c d p1 p2 : ℕ) → a < 256 → b < 256 → c < 256 → d < 256 → p1 < 256 → p2 < 256
    → parse_ipv4 (join_with_byte dot (map decimal (a ∷ b ∷ c ∷ d ∷ p1 ∷ p2 ∷ []))) ≡ Some (V4 (a ∷ b ∷ c ∷ d ∷ []) (256 * p1 + p2))
unfolding parse_ipv4 parts_of ipv4_of_parts
six_read a b c d p1 p2 sa sb sc sd s1 s2 =
    let P : ℕ → Type 0 = λ n. n < 256 in
    let small =
    All-cons P a (b ∷ c ∷ d ∷ p1 ∷ p2 ∷ []) sa (All-cons P b (c ∷ d ∷ p1 ∷ p2 ∷ []) sb (All-cons P c (d ∷ p1 ∷ p2 ∷ []) sc
    (All-cons P d (p1 ∷ p2 ∷ []) sd (All-cons P p1 (p2 ∷ []) s1 (All-cons P p2 [] s2 (All-nil P)))))) in
    ap ipv4_of_parts (split_joined a (b ∷ c ∷ d ∷ p1 ∷ p2 ∷ []) small)
    ∙ rw (octet_decimal a sa, octet_decimal b sb, octet_decimal c sc, octet_decimal d sd, octet_decimal p1 s1, octet_decimal p2 s2) refl

pub numbers_read : (host : List ℕ) (p1 p2 : ℕ) → IsBytes 4 host → p1 < 256 → p2 < 256
    → parse_ipv4 (join_with_byte dot (map decimal (host ++ p1 ∷ p2 ∷ []))) ≡ Some (V4 host (256 * p1 + p2))
numbers_read [] p1 p2 fits s1 s2 = absurd (omega (arith, fits.count))
numbers_read (a ∷ []) p1 p2 fits s1 s2 = absurd (omega (arith, fits.count))
numbers_read (a ∷ b ∷ []) p1 p2 fits s1 s2 = absurd (omega (arith, fits.count))
numbers_read (a ∷ b ∷ c ∷ []) p1 p2 fits s1 s2 = absurd (omega (arith, fits.count))
numbers_read (a ∷ b ∷ c ∷ d ∷ []) p1 p2 fits s1 s2 =
    six_read a b c d p1 p2 (fits.small 0 0 (omega arith)) (fits.small 1 0 (omega arith)) (fits.small 2 0 (omega arith)) (fits.small 3 0 (omega arith)) s1 s2
numbers_read (a ∷ b ∷ c ∷ d ∷ e ∷ more) p1 p2 fits s1 s2 = absurd (omega (arith, fits.count))

spelled_reads4 : (text host : List ℕ) (port : ℕ) → SpellsV4 host port text → parse_ipv4 text ≡ Some (V4 host port)
spelled_reads4 text host port s =
    ap parse_ipv4 s.text_is ∙ numbers_read host s.p1 s.p2 s.host_fits s.p1_fits s.p2_fits ∙ ap (λ (p : ℕ). Some (V4 host p)) (sym s.port_is)

-- ---- both together

as_spelled : (u : Uaddr) (text : List ℕ) → SpellsAsV4 u text → Spells u text
as_spelled (V4 host port) text s = s
as_spelled (V6 host port) text s = absurd s

read_either : (text : List ℕ) (u : Uaddr) (o : Option Uaddr) → parse_ipv4 text ≡ o → option_or o (parse_ipv6 text) ≡ Some u → Spells u text
read_either text u None none is = read_spells_v6 text u is
read_either text u (Some v) some is = subst (λ w. Spells w text) (same_Some v u is) (as_spelled v text (read_spells text v some))

any_read_spells : (text : List ℕ) (u : Uaddr) → parse text ≡ Some u → Spells u text
unfolding parse
any_read_spells text u is = read_either text u (parse_ipv4 text) refl is

pub spelled_reads : (text : List ℕ) (u : Uaddr) → Spells u text → parse text ≡ Some u
unfolding parse
spelled_reads text (V4 host port) s = rw (spelled_reads4 text host port s) refl
spelled_reads text (V6 host port) s = rw (not_ipv4 text host port s, spelled_reads_v6 text host port s) refl

pub read_is_spelled : ReadIsSpelled
read_is_spelled text u = (any_read_spells text u, spelled_reads text u)

-- ---- what is printed

pub read_is_address : ReadIsAddress
read_is_address text (V4 host port) h =
    let s = any_read_spells text (V4 host port) h in
    (s.host_fits, omega (arith, s.port_is, s.p1_fits, s.p2_fits))
read_is_address text (V6 host port) h =
    let s = any_read_spells text (V6 host port) h in
    (spelled_host_fits host s.host_text s.host_spelled, omega (arith, s.port_is, s.p1_fits, s.p2_fits))

pub high_byte_fits : (port : ℕ) → port < 2 ^ 16 → port / 256 < 256
high_byte_fits port h = omega (arith, h)

pub low_byte_fits : (port : ℕ) → port % 256 < 256
low_byte_fits port = omega arith

pub port_is_its_bytes : (port : ℕ) → port ≡ 256 * (port / 256) + port % 256
port_is_its_bytes port = omega arith

pub printed_is_spelled : PrintedIsSpelled
unfolding text_of port_bytes
printed_is_spelled (V4 host port) (host_fits, port_fits) = record {
  p1 = port / 256;
  p2 = port % 256;
  host_fits = host_fits;
  p1_fits = high_byte_fits port port_fits;
  p2_fits = low_byte_fits port;
  port_is = port_is_its_bytes port;
  text_is = refl;
}
printed_is_spelled (V6 host port) (host_fits, port_fits) = record {
  host_text = ipv6_host_text host;
  p1 = port / 256;
  p2 = port % 256;
  host_spelled = printed_host_spells host host_fits;
  p1_fits = high_byte_fits port port_fits;
  p2_fits = low_byte_fits port;
  port_is = port_is_its_bytes port;
  text_is = refl;
}

pub printed_is_read : PrintedIsRead
printed_is_read u fits = spelled_reads (text_of u) u (printed_is_spelled u fits)

-- the same, with the bytes read one by one
pub dotted_is_read : (host bytes : List ℕ) (port : ℕ) → length host ≡ 4 → ((i : ℕ) → get_or host i 0 < 256) → port < 2 ^ 16 → bytes ≡ port_bytes port
    → parse (join_with_byte dot (map decimal (get_or host 0 0 ∷ get_or host 1 0 ∷ get_or host 2 0 ∷ get_or host 3 0 ∷ get_or bytes 0 0 ∷ get_or bytes 1 0 ∷ []))) ≡ Some (V4 host port)
unfolding text_of port_bytes
dotted_is_read host bytes port four small port_fits is =
    let joined : List ℕ → List ℕ → List ℕ = λ front back. join_with_byte dot (map decimal (front ++ get_or back 0 0 ∷ get_or back 1 0 ∷ [])) in
    ap (λ (front : List ℕ). parse (joined front bytes)) (four_reads host four)
    ∙ ap (λ (back : List ℕ). parse (joined host back)) is
    ∙ printed_is_read (V4 host port) (bytes_fit 4 host four small, port_fits)

high_byte : (p1 p2 : ℕ) → p2 < 256 → (256 * p1 + p2) / 256 ≡ p1
high_byte p1 p2 h = omega (arith, h)

low_byte : (p1 p2 : ℕ) → p2 < 256 → (256 * p1 + p2) % 256 ≡ p2
low_byte p1 p2 h = omega (arith, h)

pub one_spelling : OneSpelling
unfolding text_of port_bytes
one_spelling text host port h =
    let s = any_read_spells text (V4 host port) h in
    let high : port / 256 ≡ s.p1 = ap (λ (p : ℕ). p / 256) s.port_is ∙ high_byte s.p1 s.p2 s.p2_fits in
    let low : port % 256 ≡ s.p2 = ap (λ (p : ℕ). p % 256) s.port_is ∙ low_byte s.p1 s.p2 s.p2_fits in
    rw (high, low) (sym s.text_is)

-- ---- merged

pub merges_any_host : MergesAnyHost
unfolding merged_address merged_host merged_host6
merges_any_host = record {
  replaced = λ hosts port. refl;
  kept = λ hosts own_host port other. rw (false_from_ne_true (bytes_eq own_host any_host) (λ same. other ((bytes_eq-Decides own_host any_host).0 same))) refl;
  replaced_ipv6 = λ hosts port. refl;
  kept_ipv6 = λ hosts own_host port other. rw (false_from_ne_true (bytes_eq own_host any_host6) (λ same. other ((bytes_eq-Decides own_host any_host6).0 same))) refl;
}
