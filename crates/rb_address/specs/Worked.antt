-- Worked examples.
use Rattle.std.specs.Prelude.{◌≡◌, ℕ, Bool, true, false, List, [], ◌∷◌, ◌++◌, replicate, codes, Option, Some, None, option_map, Err}
use Rattle.rb_address.specs.declared.host.Host.{Host}
use Rattle.rb_address.specs.declared.host.Host.TheVariants.{V4, V6}
use Rattle.rb_address.specs.declared.peer.Peer.{Peer}
use Rattle.rb_address.specs.declared.network.NetworkFault.TheVariants.{TooLong, BitsBehind, Mapped}
use Rattle.rb_address.specs.declared.who.Owner.TheVariants.{Unknown, Uid}
use Rattle.rb_address.specs.declared.who.Source.TheVariants.{Inet, Local}
use Rattle.rb_address.specs.declared.who.Trust.{Trust}
use Rattle.rb_address.specs.declared.who.Trust.TheVariants as trusts
use Rattle.rb_address.specs.declared.who.Who.{Who}
use Rattle.rb_address.specs.Hosts.{is_loopback, is_any, plain_host}
use Rattle.rb_address.specs.Networks.{plain_host_of, has, network_at, network_of}
use Rattle.rb_address.specs.Peers.{peer_text}
use Rattle.rb_address.specs.Callers.{unknown_host, who_text}
use Rattle.rb_address.specs.Reading.{peer}
use Rattle.rb_address.specs.CallerTexts.{who}

abbrev pub of_192_0_2_1 : Peer
of_192_0_2_1 = record { host = V4 (192 ∷ 0 ∷ 2 ∷ 1 ∷ []); port = 900 }

-- 2001:db8::1, of the documentation (RFC 3849)
abbrev pub of_2001_db8__1 : Peer
of_2001_db8__1 = record { host = V6 (32 ∷ 1 ∷ 13 ∷ 184 ∷ replicate 11 0 ++ 1 ∷ []); port = 900 }

abbrev pub loopback6 : Host
loopback6 = V6 (replicate 15 0 ++ 1 ∷ [])

pub record HostsOfThisHost : Type 0 where
  pub all_of_127 : is_loopback (V4 (127 ∷ 9 ∷ 8 ∷ 7 ∷ [])) ≡ true
  pub not_128 : is_loopback (V4 (128 ∷ 0 ∷ 0 ∷ 1 ∷ [])) ≡ false
  pub one_of_ipv6 : is_loopback loopback6 ≡ true
  pub not_any : is_loopback (V6 (replicate 16 0)) ≡ false
  pub every_host : is_any (V6 (replicate 16 0)) ≡ true
  pub in_ipv6 : plain_host (V6 (replicate 10 0 ++ 255 ∷ 255 ∷ 127 ∷ 0 ∷ 0 ∷ 1 ∷ [])) ≡ V4 (127 ∷ 0 ∷ 0 ∷ 1 ∷ [])

pub record PeersPrinted : Type 0 where
  pub ipv4 : peer_text of_192_0_2_1 ≡ codes "192.0.2.1:900"
  pub ipv6 : peer_text of_2001_db8__1 ≡ codes "[2001:db8::1]:900"

pub record PeersRead : Type 0 where
  pub ipv4 : peer (codes "192.0.2.1:900") ≡ Some of_192_0_2_1
  pub ipv6 : peer (codes "[2001:db8::1]:900") ≡ Some of_2001_db8__1

-- each of these is another spelling, or none
pub record OtherTextsRefused : Type 0 where
  pub upper_case : peer (codes "[2001:DB8::1]:900") ≡ None
  pub not_shortened : peer (codes "[2001:db8:0:0:0:0:0:1]:900") ≡ None
  pub leading_zero : peer (codes "[2001:0db8::1]:900") ≡ None
  pub no_brackets : peer (codes "2001:db8::1:900") ≡ None
  pub in_ipv6 : peer (codes "[::ffff:c000:201]:900") ≡ None
  pub with_a_zone : peer (codes "[fe80::1%2]:900") ≡ None
  pub brackets_of_ipv4 : peer (codes "[192.0.2.1]:900") ≡ None
  pub large_port : peer (codes "[2001:db8::1]:65536") ≡ None

-- ---- callers

abbrev pub host_192_0_2_9 : Host
host_192_0_2_9 = V4 (192 ∷ 0 ∷ 2 ∷ 9 ∷ [])

abbrev pub from_192_0_2_1 : Host → Trust → Who
from_192_0_2_1 asked trust = record { source = Inet of_192_0_2_1; asked = asked; trust = trust }

abbrev pub from_2001_db8__1 : Host → Trust → Who
from_2001_db8__1 asked trust = record { source = Inet of_2001_db8__1; asked = asked; trust = trust }

abbrev pub from_here : Trust → Who
from_here trust = record { source = Local; asked = unknown_host; trust = trust }

-- of a peer, of a local socket, with and without the host that was asked, and with each word for it
pub record CallersPrinted : Type 0 where
  pub claims : who_text (from_192_0_2_1 unknown_host trusts.Claims) ≡ codes "192.0.2.1:900"
  pub asked : who_text (from_192_0_2_1 host_192_0_2_9 trusts.Claims) ≡ codes "192.0.2.1:900>192.0.2.9"
  pub of_a_user : who_text (from_192_0_2_1 unknown_host (trusts.Local (Uid 65534))) ≡ codes "192.0.2.1:900/65534"
  pub stranger : who_text (from_192_0_2_1 host_192_0_2_9 trusts.Stranger) ≡ codes "192.0.2.1:900>192.0.2.9/stranger"
  pub ipv6 : who_text (from_2001_db8__1 loopback6 (trusts.Local Unknown)) ≡ codes "[2001:db8::1]:900>::1/unknown"
  pub every_ipv6_host : who_text (from_2001_db8__1 (V6 (replicate 16 0)) trusts.Claims) ≡ codes "[2001:db8::1]:900>::"
  pub local_claims : who_text (from_here trusts.Claims) ≡ codes "local"
  pub local_root : who_text (from_here (trusts.Local (Uid 0))) ≡ codes "local/0"

pub record CallersRead : Type 0 where
  pub claims : who (codes "192.0.2.1:900") ≡ Some (from_192_0_2_1 unknown_host trusts.Claims)
  pub asked : who (codes "192.0.2.1:900>192.0.2.9") ≡ Some (from_192_0_2_1 host_192_0_2_9 trusts.Claims)
  pub of_a_user : who (codes "192.0.2.1:900/65534") ≡ Some (from_192_0_2_1 unknown_host (trusts.Local (Uid 65534)))
  pub stranger : who (codes "192.0.2.1:900>192.0.2.9/stranger") ≡ Some (from_192_0_2_1 host_192_0_2_9 trusts.Stranger)
  pub ipv6 : who (codes "[2001:db8::1]:900>::1/unknown") ≡ Some (from_2001_db8__1 loopback6 (trusts.Local Unknown))
  pub every_ipv6_host : who (codes "[2001:db8::1]:900>::") ≡ Some (from_2001_db8__1 (V6 (replicate 16 0)) trusts.Claims)
  pub local_claims : who (codes "local") ≡ Some (from_here trusts.Claims)
  pub local_root : who (codes "local/0") ≡ Some (from_here (trusts.Local (Uid 0)))

-- each of these is another spelling, or none
pub record OtherCallersRefused : Type 0 where
  pub every_ipv4_host : who (codes "192.0.2.1:900>0.0.0.0") ≡ None
  pub brackets_of_the_asked : who (codes "[2001:db8::1]:900>[::1]") ≡ None
  pub not_shortened : who (codes "[2001:db8::1]:900>0:0:0:0:0:0:0:1") ≡ None
  pub ipv4_in_ipv6 : who (codes "192.0.2.1:900>::ffff:c000:209") ≡ None
  pub nothing_asked : who (codes "192.0.2.1:900>") ≡ None
  pub asked_twice : who (codes "192.0.2.1:900>192.0.2.9>192.0.2.9") ≡ None
  pub leading_zero : who (codes "192.0.2.1:900/065534") ≡ None
  pub large_uid : who (codes "192.0.2.1:900/4294967296") ≡ None
  pub nobodys_word : who (codes "192.0.2.1:900/") ≡ None
  pub claims : who (codes "192.0.2.1:900/claims") ≡ None
  pub upper_case : who (codes "192.0.2.1:900/Stranger") ≡ None
  pub twice : who (codes "local/0/0") ≡ None
  pub before_the_asked : who (codes "192.0.2.1:900/0>192.0.2.9") ≡ None
  pub port_of_local : who (codes "local:900") ≡ None
  pub nothing : who [] ≡ None

-- ---- hosts, as options give them

pub record HostsRead : Type 0 where
  pub ipv4 : plain_host_of (codes "192.0.2.9") ≡ Some host_192_0_2_9
  pub ipv6 : plain_host_of (codes "::1") ≡ Some loopback6
  pub any_spelling : plain_host_of (codes "0:0::0001") ≡ Some loopback6
  pub leading_zero : plain_host_of (codes "192.0.2.09") ≡ None
  pub in_brackets : plain_host_of (codes "[::1]") ≡ None
  pub ipv4_in_ipv6 : plain_host_of (codes "::ffff:c000:209") ≡ None

-- ---- networks

-- whether the network of this text has the host
abbrev pub is_in : List ℕ → Host → Option Bool
is_in text host = option_map (λ network. has network host) (network_of text)

-- 2001:db8::/32, with this fifth byte and such others after it
abbrev pub of_2001_db8 : ℕ → ℕ → Host
of_2001_db8 fifth others = V6 (32 ∷ 1 ∷ 13 ∷ 184 ∷ fifth ∷ replicate 11 others)

pub record NetworksRead : Type 0 where
  pub last_of_24 : is_in (codes "192.0.2.0/24") (V4 (192 ∷ 0 ∷ 2 ∷ 255 ∷ [])) ≡ Some true
  pub after_24 : is_in (codes "192.0.2.0/24") (V4 (192 ∷ 0 ∷ 3 ∷ 0 ∷ [])) ≡ Some false
  pub before_24 : is_in (codes "192.0.2.0/24") (V4 (192 ∷ 0 ∷ 1 ∷ 255 ∷ [])) ≡ Some false
  pub all_of_ipv4 : is_in (codes "0.0.0.0/0") (V4 (255 ∷ 254 ∷ 253 ∷ 252 ∷ [])) ≡ Some true
  pub none_of_ipv6 : is_in (codes "0.0.0.0/0") (V6 (replicate 16 0)) ≡ Some false
  pub none_of_ipv4 : is_in (codes "::/0") (V4 (0 ∷ 0 ∷ 0 ∷ 0 ∷ [])) ≡ Some false
  pub last_of_33 : is_in (codes "2001:db8::/33") (of_2001_db8 127 255) ≡ Some true
  pub after_33 : is_in (codes "2001:db8::/33") (of_2001_db8 128 0) ≡ Some false
  pub one_host : network_of (codes "192.0.2.1/32") ≡ network_of (codes "192.0.2.1")
  pub that_host : is_in (codes "192.0.2.1") (V4 (192 ∷ 0 ∷ 2 ∷ 1 ∷ [])) ≡ Some true
  pub no_other : is_in (codes "192.0.2.1") (V4 (192 ∷ 0 ∷ 2 ∷ 0 ∷ [])) ≡ Some false
  pub any_spelling : network_of (codes "2001:DB8:0:0::/32") ≡ network_of (codes "2001:db8::/32")

pub record OtherNetworksRefused : Type 0 where
  pub too_long : network_at (V4 (192 ∷ 0 ∷ 2 ∷ 0 ∷ [])) 33 ≡ Err TooLong
  pub bits_behind : network_at (V4 (192 ∷ 0 ∷ 2 ∷ 1 ∷ [])) 24 ≡ Err BitsBehind
  pub mapped : network_at (V6 (replicate 10 0 ++ 255 ∷ 255 ∷ replicate 4 0)) 96 ≡ Err Mapped
  pub longer : network_of (codes "2001:db8::/129") ≡ None
  pub mistyped : network_of (codes "192.0.2.128/24") ≡ None
  pub leading_zero : network_of (codes "192.0.2.0/024") ≡ None
  pub no_length : network_of (codes "192.0.2.0/") ≡ None
  pub no_host : network_of (codes "/24") ≡ None
  pub a_mask : network_of (codes "192.0.2.0/255.255.255.0") ≡ None
