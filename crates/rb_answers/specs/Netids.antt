-- What is known of each netid (RFC 5665 section 5.1, RFC 1833 section 2.1).
use Rattle.std.specs.Prelude.{ℕ, ◌==◌, Bool, false, not, List, [], ◌∷◌, ◌++◌, Option, Some, None, option_map, codes}
use Rattle.std.specs.Option.{option_map_or}
use Rattle.rb_uaddr.specs.declared.address.Uaddr.{Uaddr}
use Rattle.rb_uaddr.specs.Uaddr.{port_of, parse_ipv4, parse_ipv6, is_local_text}
use Rattle.rb_address.specs.declared.netid.Netid.{Netid}
use Rattle.rb_address.specs.declared.netid.Netid.TheVariants.{Tcp, Udp, Tcp6, Udp6, Local}
use Rattle.rb_registry.specs.declared.row.Which.{Which}
use Rattle.rb_registry.specs.declared.row.Which.TheVariants.{All, One}
use Rattle.rb_address.specs.Netids.{netid_named, netid_text}
use Rattle.rb_xdr.specs.Xdr.{number, opaque}

-- UNSET-4: UNSET with an empty netid means every netid; with an unknown one it is FALSE.
unfoldable pub which_of : List ℕ → Option Which
which_of [] = Some All
which_of (c ∷ text) = option_map One (netid_named (c ∷ text))

-- ---- versions 3 and 4

-- nc_semantics: connectionless, or connection oriented with orderly release
abbrev pub semantics_of : Netid → ℕ
semantics_of Tcp = 3
semantics_of Udp = 1
semantics_of Tcp6 = 3
semantics_of Udp6 = 1
semantics_of Local = 3

-- nc_protofmly
abbrev pub family_text : Netid → List ℕ
family_text Tcp = codes "inet"
family_text Udp = codes "inet"
family_text Tcp6 = codes "inet6"
family_text Udp6 = codes "inet6"
family_text Local = codes "loopback"

-- nc_proto
abbrev pub proto_text : Netid → List ℕ
proto_text Tcp = codes "tcp"
proto_text Udp = codes "udp"
proto_text Tcp6 = codes "tcp"
proto_text Udp6 = codes "udp"
proto_text Local = codes "-"

-- what an entry has after the address
abbrev pub entry_end : Netid → List ℕ
entry_end netid = opaque (netid_text netid) ++ (number (semantics_of netid) ++ (opaque (family_text netid) ++ opaque (proto_text netid)))

-- ---- addresses

-- The universal address of the netid's family that the text spells: of tcp and udp an IPv4 address, of tcp6 and udp6 an
-- IPv6 address (RFC 5665 section 5.2.3). The address of a local socket is none.
-- SET-3: SET of program 100000 is FALSE, and of an address that may not be set on the netid: on tcp
-- and udp an IPv4 address with a port, on tcp6 and udp6 an IPv6 address with one, on local any name
-- of a local socket.
unfoldable pub address_in : Netid → List ℕ → Option Uaddr
address_in Tcp text = parse_ipv4 text
address_in Udp text = parse_ipv4 text
address_in Tcp6 text = parse_ipv6 text
address_in Udp6 text = parse_ipv6 text
address_in Local text = None

abbrev pub has_port : Option Uaddr → Bool
has_port address = option_map_or (λ u. not (port_of u == 0)) address false

-- What may be set on the netid: a universal address of its family that has a port, or the name of a local socket.
-- SET-3
unfoldable pub is_address : Netid → List ℕ → Bool
is_address Tcp text = has_port (address_in Tcp text)
is_address Udp text = has_port (address_in Udp text)
is_address Tcp6 text = has_port (address_in Tcp6 text)
is_address Udp6 text = has_port (address_in Udp6 text)
is_address Local text = is_local_text text
