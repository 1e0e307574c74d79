-- An address that may be set on a netid has at most 128 bytes, and an IPv4 address has one spelling.
use Rattle.std.proofs.Common.{◌≡◌, ◌≤◌, ℕ, Bool, true, false, List, length, Option, Some, None, refl, ◌∙◌, arith}
use Rattle.std.specs.Prelude.{◌&&◌, bytes_eq}
use Rattle.rb_uaddr.specs.declared.address.Hosts.{Hosts}
use Rattle.rb_uaddr.specs.declared.address.Uaddr.{Uaddr}
use Rattle.rb_uaddr.specs.declared.address.Uaddr.TheVariants.{V4, V6}
use Rattle.rb_uaddr.specs.Uaddr.{parse, parse_ipv4, parse_ipv6, ipv4_alone, ipv6_alone, is_at_any, any_host6, merged_host, merged_host6, merged_address, text_of}
use Rattle.rb_uaddr.proofs.Families.{ipv4_is_read, ipv6_is_read}
use Rattle.rb_uaddr.proofs.GrammarLaws.{one_spelling}
use Rattle.rb_uaddr.proofs.LocalTexts.{local_is_any_text}
use Rattle.rb_uaddr.proofs.ShortTexts.{ipv4_short, ipv6_short}
use Rattle.rb_address.specs.declared.netid.Netid.{Netid}
use Rattle.rb_address.specs.declared.netid.Netid.TheVariants.{Tcp, Udp, Tcp6, Udp6, Local}
use Rattle.rb_registry.specs.declared.row.Row.{Row}
use Rattle.rb_answers.specs.Answers.{is_told_anew, shown_text}
use Rattle.rb_answers.specs.Netids.{address_in, has_port, is_address}

by_ipv4 : (text : List ℕ) (o : Option Uaddr) → parse_ipv4 text ≡ o → has_port o ≡ true → length text ≤ 128
by_ipv4 text None is e = absurd cc
by_ipv4 text (Some u) is e = let short = ipv4_short text u is in omega (arith, short)

by_ipv6 : (text : List ℕ) (o : Option Uaddr) → parse_ipv6 text ≡ o → has_port o ≡ true → length text ≤ 128
by_ipv6 text None is e = absurd cc
by_ipv6 text (Some u) is e = let short = ipv6_short text u is in omega (arith, short)

pub address_short : (netid : Netid) (text : List ℕ) → is_address netid text ≡ true → length text ≤ 128
unfolding is_address address_in
address_short Tcp text e = by_ipv4 text (parse_ipv4 text) refl e
address_short Udp text e = by_ipv4 text (parse_ipv4 text) refl e
address_short Tcp6 text e = by_ipv6 text (parse_ipv6 text) refl e
address_short Udp6 text e = by_ipv6 text (parse_ipv6 text) refl e
address_short Local text e = ((local_is_any_text text).0 e).few

-- ---- an IPv4 address

ipv4_read : (own : List ℕ) (port : ℕ) (read : Option Uaddr) → ipv4_alone read ≡ Some (V4 own port) → read ≡ Some (V4 own port)
ipv4_read own port None is = absurd cc
ipv4_read own port (Some (V4 host other)) is = is
ipv4_read own port (Some (V6 host other)) is = absurd cc

no_ipv4_read : (own : List ℕ) (port : ℕ) (read : Option Uaddr) → ipv6_alone read ≡ Some (V4 own port) → ⊥
no_ipv4_read own port None is = cc
no_ipv4_read own port (Some (V4 host other)) is = cc
no_ipv4_read own port (Some (V6 host other)) is = cc

module _ (text own : List ℕ) (port : ℕ) where
  spelled : parse_ipv4 text ≡ Some (V4 own port) → text_of (V4 own port) ≡ text
  spelled is = one_spelling text own port (ipv4_read own port (parse text) (ipv4_is_read text ∙ is))

  not_spelled : parse_ipv6 text ≡ Some (V4 own port) → text_of (V4 own port) ≡ text
  not_spelled is = absurd (no_ipv4_read own port (parse text) (ipv6_is_read text ∙ is))

  -- it is spelled as it was set
  pub spelled_as_set : (netid : Netid) → address_in netid text ≡ Some (V4 own port) → text_of (V4 own port) ≡ text
  unfolding address_in
  spelled_as_set Tcp is = spelled is
  spelled_as_set Udp is = spelled is
  spelled_as_set Tcp6 is = not_spelled is
  spelled_as_set Udp6 is = not_spelled is
  spelled_as_set Local is = absurd cc

-- ---- as lists show it

both : (a b : Bool) → (a && b) ≡ true → a ≡ true
both true b is = refl
both false b is = is

module _ (hosts : Hosts) (row : Row) where
  pub shown_anew : (address : Uaddr) → address_in row.netid row.addr ≡ Some address → is_told_anew hosts address ≡ true → shown_text hosts row ≡ text_of (merged_address hosts address)
  unfolding shown_text merged_address merged_host6
  shown_anew (V4 own port) is anew = rw is refl
  shown_anew (V6 own port) is anew = rw (is, anew, both (bytes_eq own any_host6) _ anew) refl

  pub shown_as_set : (address : Uaddr) → address_in row.netid row.addr ≡ Some address → is_told_anew hosts address ≡ false → shown_text hosts row ≡ row.addr
  unfolding shown_text merged_address merged_host
  shown_as_set (V4 own port) is other = rw (is, other) (spelled_as_set row.addr own port row.netid is)
  shown_as_set (V6 own port) is other = rw (is, other) refl

  pub shown_name : address_in row.netid row.addr ≡ None → shown_text hosts row ≡ row.addr
  unfolding shown_text
  shown_name is = rw is refl

  -- an address that is not at every host is not told anew
  of_ipv4 : (spelled : Option Uaddr) (address : Uaddr) → is_at_any spelled ≡ false → ipv4_alone spelled ≡ Some address → is_told_anew hosts address ≡ false
  of_ipv4 None address other is = absurd cc
  of_ipv4 (Some (V4 own port)) address other is = let same : V4 own port ≡ address = cc in rw (← same) other
  of_ipv4 (Some (V6 own port)) address other is = absurd cc

  of_ipv6 : (spelled : Option Uaddr) (address : Uaddr) → is_at_any spelled ≡ false → ipv6_alone spelled ≡ Some address → is_told_anew hosts address ≡ false
  of_ipv6 None address other is = absurd cc
  of_ipv6 (Some (V4 own port)) address other is = absurd cc
  of_ipv6 (Some (V6 own port)) address other is = let same : V6 own port ≡ address = cc in rw (← same, other) refl

  stays : (netid : Netid) (text : List ℕ) (address : Uaddr) → is_at_any (parse text) ≡ false → address_in netid text ≡ Some address → is_told_anew hosts address ≡ false
  unfolding address_in
  stays Tcp text address other is = of_ipv4 (parse text) address other (ipv4_is_read text ∙ is)
  stays Udp text address other is = of_ipv4 (parse text) address other (ipv4_is_read text ∙ is)
  stays Tcp6 text address other is = of_ipv6 (parse text) address other (ipv6_is_read text ∙ is)
  stays Udp6 text address other is = of_ipv6 (parse text) address other (ipv6_is_read text ∙ is)
  stays Local text address other is = absurd cc

  pub shown_elsewhere : is_at_any (parse row.addr) ≡ false → shown_text hosts row ≡ row.addr
  shown_elsewhere other = by_address (address_in row.netid row.addr) refl
    where
      by_address : (o : Option Uaddr) → address_in row.netid row.addr ≡ o → shown_text hosts row ≡ row.addr
      by_address None is = shown_name is
      by_address (Some address) is = shown_as_set address is (stays row.netid row.addr address other is)
