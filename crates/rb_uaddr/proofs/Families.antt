-- A text spells an IPv4 address or an IPv6 address, and not both.
use Rattle.std.proofs.Common.{◌≡◌, ℕ, List, [], ◌∷◌, Option, Some, None, refl, sym, ap, ◌∙◌, subst}
use Rattle.std.specs.Option.{option_or}
use Rattle.std.proofs.lemmas.Option.{none-some, same_Some}
use Rattle.rb_uaddr.specs.declared.address.Uaddr.{Uaddr}
use Rattle.rb_uaddr.specs.declared.address.Uaddr.TheVariants.{V4, V6}
use Rattle.rb_uaddr.specs.Uaddr.{octet, ipv6_host, ipv6_of_parts, parts_of, parse_ipv4, parse_ipv6, parse, ipv4_alone, ipv6_alone}
use Rattle.rb_uaddr.proofs.Splits.{bound}
use Rattle.rb_uaddr.proofs.GrammarLaws.{read_spells}
use Rattle.rb_uaddr.proofs.Ipv6Laws.{read_spells_v6, not_ipv4}

abbrev IsV6 : Uaddr → Type 0
IsV6 (V4 host port) = ⊥
IsV6 (V6 host port) = Unit {0}

parts_are_v6 : (parts : List (List ℕ)) (u : Uaddr) → ipv6_of_parts parts ≡ Some u → IsV6 u
unfolding ipv6_of_parts
parts_are_v6 [] u is = absurd (none-some u is)
parts_are_v6 (h ∷ []) u is = absurd (none-some u is)
parts_are_v6 (h ∷ e ∷ []) u is = absurd (none-some u is)
parts_are_v6 (h ∷ e ∷ f ∷ []) u is =
    let (host, host_is, rest1) = bound (ipv6_host h) _ u is in
    let (p1, is1, rest2) = bound (octet e) _ u rest1 in
    let (p2, is2, rest3) = bound (octet f) _ u rest2 in
    subst IsV6 (same_Some _ _ rest3) tt
parts_are_v6 (h ∷ e ∷ f ∷ g ∷ more) u is = absurd (none-some u is)

is_v6 : (text : List ℕ) (u : Uaddr) → parse_ipv6 text ≡ Some u → IsV6 u
unfolding parse_ipv6
is_v6 text u is = parts_are_v6 (parts_of text) u is

pub ipv4_is_read : (text : List ℕ) → ipv4_alone (parse text) ≡ parse_ipv4 text
unfolding parse
ipv4_is_read text = go (parse_ipv4 text) (parse_ipv6 text) refl refl
  where
    go : (four six : Option Uaddr) → parse_ipv4 text ≡ four → parse_ipv6 text ≡ six → ipv4_alone (option_or four six) ≡ four
    go (Some (V4 host port)) six is4 is6 = refl
    go (Some (V6 host port)) six is4 is6 = absurd (read_spells text (V6 host port) is4)
    go None None is4 is6 = refl
    go None (Some (V4 host port)) is4 is6 = absurd (is_v6 text (V4 host port) is6)
    go None (Some (V6 host port)) is4 is6 = refl

pub ipv6_is_read : (text : List ℕ) → ipv6_alone (parse text) ≡ parse_ipv6 text
unfolding parse
ipv6_is_read text = go (parse_ipv4 text) (parse_ipv6 text) refl refl
  where
    go : (four six : Option Uaddr) → parse_ipv4 text ≡ four → parse_ipv6 text ≡ six → ipv6_alone (option_or four six) ≡ six
    go (Some (V4 host port)) None is4 is6 = refl
    go (Some (V4 host port)) (Some (V4 h p)) is4 is6 = absurd (is_v6 text (V4 h p) is6)
    go (Some (V4 host port)) (Some (V6 h p)) is4 is6 =
        absurd (none-some (V4 host port) (sym (not_ipv4 text h p (read_spells_v6 text (V6 h p) is6)) ∙ is4))
    go (Some (V6 host port)) six is4 is6 = absurd (read_spells text (V6 host port) is4)
    go None None is4 is6 = refl
    go None (Some (V4 host port)) is4 is6 = absurd (is_v6 text (V4 host port) is6)
    go None (Some (V6 host port)) is4 is6 = refl

pub ipv4_alone_is_read : (address : Option Uaddr) (text : List ℕ) → address ≡ parse text → ipv4_alone address ≡ parse_ipv4 text
ipv4_alone_is_read address text is = ap ipv4_alone is ∙ ipv4_is_read text

pub ipv6_alone_is_read : (address : Option Uaddr) (text : List ℕ) → address ≡ parse text → ipv6_alone address ≡ parse_ipv6 text
ipv6_alone_is_read address text is = ap ipv6_alone is ∙ ipv6_is_read text
