-- Transports, and their names (RFC 5665 section 5.1).
use Rattle.std.specs.Prelude.{◌≡◌, ◌↔◌, ℕ, ◌==◌, Bool, true, false, List, codes, Option, Some, None, if◌then◌else◌, bytes_eq}
use Rattle.rb_address.specs.declared.host.Family.{Family}
use Rattle.rb_address.specs.declared.host.Family.TheVariants.{Inet, Inet6}
use Rattle.rb_address.specs.declared.netid.Transport.{Transport}
use Rattle.rb_address.specs.declared.netid.Transport.TheVariants as transports
use Rattle.rb_address.specs.declared.netid.Netid.{Netid}
use Rattle.rb_address.specs.declared.netid.Netid.TheVariants.{Tcp, Udp, Tcp6, Udp6, Local}

-- NETID-1: The netids are `tcp` and `udp`, `tcp6` and `udp6`, and `local`; a text that is none of
-- these five names no netid.
abbrev pub netid_text : Netid → List ℕ
netid_text Tcp = codes "tcp"
netid_text Udp = codes "udp"
netid_text Tcp6 = codes "tcp6"
netid_text Udp6 = codes "udp6"
netid_text Local = codes "local"

unfoldable pub is_netid : Netid → Netid → Bool
is_netid Tcp Tcp = true
is_netid Udp Udp = true
is_netid Tcp6 Tcp6 = true
is_netid Udp6 Udp6 = true
is_netid Local Local = true
is_netid _ _ = false

-- the netid of this name
-- NETID-1
unfoldable pub netid_named : List ℕ → Option Netid
netid_named name =
    if bytes_eq name (codes "tcp") then Some Tcp
    else if bytes_eq name (codes "udp") then Some Udp
    else if bytes_eq name (codes "tcp6") then Some Tcp6
    else if bytes_eq name (codes "udp6") then Some Udp6
    else if bytes_eq name (codes "local") then Some Local
    else None

-- NETID-2: tcp and udp are of IPv4, tcp6 and udp6 of IPv6.
abbrev pub netid_on : Transport → Family → Netid
netid_on transports.Tcp Inet = Tcp
netid_on transports.Tcp Inet6 = Tcp6
netid_on transports.Udp Inet = Udp
netid_on transports.Udp Inet6 = Udp6

-- the netid of a transport over IPv4, which version 2 of the protocol knows alone
abbrev pub netid_of : Transport → Netid
netid_of transport = netid_on transport Inet

abbrev pub transport_of : Netid → Option Transport
transport_of Tcp = Some transports.Tcp
transport_of Tcp6 = Some transports.Tcp
transport_of Udp = Some transports.Udp
transport_of Udp6 = Some transports.Udp
transport_of Local = None

-- NETID-2
abbrev pub family_of_netid : Netid → Option Family
family_of_netid Tcp = Some Inet
family_of_netid Udp = Some Inet
family_of_netid Tcp6 = Some Inet6
family_of_netid Udp6 = Some Inet6
family_of_netid Local = None

-- IPPROTO_TCP and IPPROTO_UDP
abbrev pub protocol_of : Transport → ℕ
protocol_of transports.Tcp = 6
protocol_of transports.Udp = 17

-- SET-4
unfoldable pub transport_of_protocol : ℕ → Option Transport
transport_of_protocol protocol =
    if protocol == 6 then Some transports.Tcp
    else if protocol == 17 then Some transports.Udp
    else None

-- ---- the laws

-- A netid has one name, and a name is of one netid.
abbrev pub NamesAreExact : Type 0
NamesAreExact = (name : List ℕ) (n : Netid) → (netid_named name ≡ Some n) ↔ (name ≡ netid_text n)

-- A netid of a transport and a family is the one that has both.
abbrev pub NetidsAreExact : Type 0
NetidsAreExact =
    (t : Transport) (f : Family) (n : Netid)
    → (netid_on t f ≡ n) ↔ ((transport_of n ≡ Some t) × (family_of_netid n ≡ Some f))

abbrev pub ProtocolsAreExact : Type 0
ProtocolsAreExact = (protocol : ℕ) (t : Transport) → (transport_of_protocol protocol ≡ Some t) ↔ (protocol ≡ protocol_of t)
