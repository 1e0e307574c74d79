-- Which senders are somebody, and the socket address to which a peer is sent something.
use Rattle.std.specs.Prelude.{◌≡◌, Bool, false, ◌||◌, ◌==◌, if◌then◌else◌, slice_index, Option, Some, None}
use Rattle.std.specs.Net.Addr.{ipv4_octets, ipv6_octets, ipv6_segments, segments_of, IsV4And, IsV6And}
use Rattle.std.specs.Net.Socket.{v6_ip}
use Rattle.std.specs.declared.net.ip_addr.IpAddr.{IpAddr}
use Rattle.std.specs.declared.net.socket_addr.SocketAddr.{SocketAddr}
use Rattle.std.specs.declared.net.socket_addr.SocketAddr.TheVariants as sockets
use Rattle.rb_address.specs.declared.host.Host.{Host}
use Rattle.rb_address.specs.declared.host.Host.TheVariants.{V4, V6}
use Rattle.rb_address.specs.declared.peer.Peer.{Peer}
use Rattle.rb_address.specs.Hosts.{is_any, is_mapped}
use Rattle.rb_address.specs.Peers.{peer_of}

-- a host of 0.0.0.0/8, or ::, which has no address yet
-- NOBODY-1
abbrev pub is_no_host : Host → Bool
is_no_host (V4 octets) = slice_index octets 0 == 0
is_no_host (V6 octets) = is_any (V6 octets)

-- NOBODY-1: A connection or a datagram from a host of 0.0.0.0/8, from `::` or from port 0 is from nobody: it is closed, or dropped.
abbrev pub is_nobody : Peer → Bool
is_nobody peer = is_no_host peer.host || peer.port == 0

-- NOBODY-1
abbrev pub somebody : Peer → Option Peer
somebody peer = if is_nobody peer then None else Some peer

-- ::ffff:a.b.c.d
abbrev pub is_mapped_source : SocketAddr → Bool
is_mapped_source (sockets.V4 from) = false
is_mapped_source (sockets.V6 from) = is_mapped (ipv6_octets (v6_ip from))

-- NOBODY-2: What comes from an address of IPv4 in IPv6's form, ::ffff:a.b.c.d, is from nobody: over UDP, over TCP, and where
-- answers to forwarded calls come in.
abbrev pub sender : SocketAddr → Option Peer
sender from = if is_mapped_source from then None else somebody (peer_of from)

-- the address is the host's
abbrev pub IsIpOf : Host → IpAddr → Type 0
IsIpOf (V4 octets) ip = IsV4And ip (λ a. ipv4_octets a ≡ octets)
IsIpOf (V6 octets) ip = IsV6And ip (λ a. ipv6_segments a ≡ segments_of octets)
