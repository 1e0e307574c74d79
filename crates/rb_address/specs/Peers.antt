-- Peers, and their texts.
use Rattle.std.specs.Prelude.{ℕ, ◌^◌, ◌<◌, List, ◌++◌, decimal, codes}
use Rattle.std.specs.Net.Addr.{ipv4_octets, ipv6_octets}
use Rattle.std.specs.Net.Socket.{v4_ip, v4_port, v6_ip, v6_port}
use Rattle.std.specs.Net.Text.{ipv4_text}
use Rattle.std.specs.declared.net.socket_addr.SocketAddr.{SocketAddr}
use Rattle.std.specs.declared.net.socket_addr.SocketAddr.TheVariants as sockets
use Rattle.rb_uaddr.specs.Uaddr.{ipv6_host_text}
use Rattle.rb_address.specs.declared.host.Host.{Host}
use Rattle.rb_address.specs.declared.host.Host.TheVariants.{V4, V6}
use Rattle.rb_address.specs.declared.peer.Peer.{Peer}
use Rattle.rb_address.specs.Hosts.{IsHost, plain_host}

-- MAPPED-1
abbrev pub peer_at : Host → ℕ → Peer
peer_at host port = record { host = plain_host host; port = port }

-- the peer of a socket address
abbrev pub peer_of : SocketAddr → Peer
peer_of (sockets.V4 from) = peer_at (V4 (ipv4_octets (v4_ip from))) (v4_port from)
peer_of (sockets.V6 from) = peer_at (V6 (ipv6_octets (v6_ip from))) (v6_port from)

abbrev pub IsPeer : Peer → Type 0
IsPeer p = IsHost p.host × (p.port < 2 ^ 16)

-- h1.h2.h3.h4 in decimal, or the groups of an IPv6 host, as RFC 5952 section 4 prints them
abbrev pub bare_host_text : Host → List ℕ
bare_host_text (V4 octets) = ipv4_text octets
bare_host_text (V6 octets) = ipv6_host_text octets

-- the same, the groups in brackets
abbrev pub host_text : Host → List ℕ
host_text (V4 octets) = ipv4_text octets
host_text (V6 octets) = codes "[" ++ ipv6_host_text octets ++ codes "]"

-- PEER-1: A peer is `h1.h2.h3.h4:port` without leading zeros, or `[host]:port` with an IPv6 host as
-- RFC 5952 section 4 prints it. An event line has the text that is printed of it, and no other.
abbrev pub peer_text : Peer → List ℕ
peer_text p = host_text p.host ++ codes ":" ++ decimal p.port
