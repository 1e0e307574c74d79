-- The socket address of a place.
use Rattle.std.specs.Prelude.{◌≡◌, ℕ, ◌==◌, ◌&&◌, nat_lt, nat_le, Bool, if◌then◌else◌, List, slice_index}
use Rattle.std.specs.declared.net.socket_addr.SocketAddr.{SocketAddr}
use Rattle.std.specs.declared.net.socket_addr.SocketAddr.TheVariants as sockets
use Rattle.std.specs.Net.Addr.{ipv4_octets, ipv6_segments, segments_of}
use Rattle.std.specs.Net.Socket.{v4_ip, v4_port, v6_ip, v6_port, socket_ip, socket_port, socket_scope_id}
use Rattle.rb_address.specs.declared.netid.Transport.{Transport}
use Rattle.rb_uaddr.specs.declared.address.Uaddr.{Uaddr}
use Rattle.rb_uaddr.specs.declared.address.Uaddr.TheVariants.{V4, V6}
use Rattle.rb_plans.specs.declared.course.Place.{Place}
use Rattle.rb_plans.specs.declared.course.Place.TheVariants.{Portmapper, Port, Address}

-- fe80::/10, the hosts of one link (RFC 4291 section 2.5.6)
abbrev pub is_of_link : List ℕ → Bool
is_of_link octets = slice_index octets 0 == 254 && (nat_le 128 (slice_index octets 1) && nat_lt (slice_index octets 1) 192)

-- an address of a link has the scope by which the portmapper's host was found
-- COURSE-7
abbrev pub told_scope : Uaddr → SocketAddr → ℕ
told_scope (V4 octets port) portmapper = 0
told_scope (V6 octets port) portmapper = if is_of_link octets then socket_scope_id portmapper else 0

-- the host and the port of an address
abbrev pub HasAddress : Uaddr → SocketAddr → Type 0
HasAddress (V4 octets port) (sockets.V4 a) = (ipv4_octets (v4_ip a) ≡ octets) × (v4_port a ≡ port)
HasAddress (V6 octets port) (sockets.V6 a) = (ipv6_segments (v6_ip a) ≡ segments_of octets) × (v6_port a ≡ port)
HasAddress (V4 octets port) (sockets.V6 a) = ⊥
HasAddress (V6 octets port) (sockets.V4 a) = ⊥

abbrev pub transport_in : Place → Transport
transport_in (Portmapper transport) = transport
transport_in (Port transport port) = transport
transport_in (Address transport address) = transport

-- a port of the portmapper's host, with the scope by which it was found
pub record IsPortOf (portmapper : SocketAddr) (port : ℕ) (called : SocketAddr) : Type 0 where
  pub ip : socket_ip called ≡ socket_ip portmapper
  pub port_is : socket_port called ≡ port
  pub scope : socket_scope_id called ≡ socket_scope_id portmapper

-- COURSE-7: A port of a host is called at the host that was asked, by the scope by which it was
-- found; an address of a link that is told has that scope too.
abbrev pub IsCalledAt : Place → SocketAddr → SocketAddr → Type 0
IsCalledAt (Portmapper transport) portmapper called = called ≡ portmapper
IsCalledAt (Port transport port) portmapper called = IsPortOf portmapper port called
IsCalledAt (Address transport address) portmapper called = HasAddress address called × (socket_scope_id called ≡ told_scope address portmapper)
