-- The addresses that may be set on a netid (RFC 5665 section 5.2.3).
use Rattle.std.specs.Prelude.{◌≡◌, ◌≢◌, ◌⊎◌, ℕ, List}
use Rattle.rb_uaddr.specs.Grammar.{SpellsV4, SpellsV6, IsLocalText}
use Rattle.rb_address.specs.declared.netid.Netid.{Netid}
use Rattle.rb_address.specs.declared.netid.Netid.TheVariants.{Tcp, Udp, Tcp6, Udp6, Local}

-- the netids of IPv4, and those of IPv6
abbrev pub IsOverIpv4 : Netid → Type 0
IsOverIpv4 netid = (netid ≡ Tcp) ⊎ (netid ≡ Udp)

abbrev pub IsOverIpv6 : Netid → Type 0
IsOverIpv6 netid = (netid ≡ Tcp6) ⊎ (netid ≡ Udp6)

-- The text spells an IPv4 host and a port that is not 0.
pub record IsAddressOfV4 (text : List ℕ) : Type 0 where
  pub host : List ℕ
  pub port : ℕ
  pub spelled : SpellsV4 host port text
  pub some : port ≢ 0

-- The text spells an IPv6 host and a port that is not 0.
pub record IsAddressOfV6 (text : List ℕ) : Type 0 where
  pub host : List ℕ
  pub port : ℕ
  pub spelled : SpellsV6 host port text
  pub some : port ≢ 0

-- of tcp and udp an IPv4 address, of tcp6 and udp6 an IPv6 address, of a local socket its name
abbrev pub IsAddressOn : Netid → List ℕ → Type 0
IsAddressOn Tcp text = IsAddressOfV4 text
IsAddressOn Udp text = IsAddressOfV4 text
IsAddressOn Tcp6 text = IsAddressOfV6 text
IsAddressOn Udp6 text = IsAddressOfV6 text
IsAddressOn Local text = IsLocalText text
