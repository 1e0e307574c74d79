-- Rows as lists show them (RFC 1833 sections 2.1 and 3.1).
use Rattle.std.specs.Prelude.{ℕ, ◌==◌, true, if◌then◌else◌, List, ◌++◌, codes, decimal}
use Rattle.std.specs.Option.{option_map_or}
use Rattle.rb_uaddr.specs.Uaddr.{parse_ipv4, port_of}
use Rattle.rb_xdr.specs.Xdr.{number, boolean, opaque}
use Rattle.rb_address.specs.declared.who.Owner.{Owner}
use Rattle.rb_address.specs.declared.who.Owner.TheVariants.{Unknown, Uid}
use Rattle.rb_address.specs.declared.netid.Transport.TheVariants as transports
use Rattle.rb_address.specs.declared.netid.Netid.{Netid}
use Rattle.rb_address.specs.declared.netid.Netid.TheVariants.{Tcp, Udp, Tcp6, Udp6, Local}
use Rattle.rb_address.specs.Netids.{netid_text, protocol_of}
use Rattle.rb_registry.specs.declared.row.Row.{Row}

-- DUMP-2: DUMP shows the owner as superuser (uid 0), the uid in decimal, or unknown.
unfoldable pub owner_text : Owner → List ℕ
owner_text Unknown = codes "unknown"
owner_text (Uid uid) = if uid == 0 then codes "superuser" else decimal uid

-- TRUE and the rpcb of a row: what it adds to a list
abbrev pub rpcb_item : Row → List ℕ
rpcb_item row =
    boolean true ++ (number row.prog ++ (number row.vers ++ (opaque (netid_text row.netid) ++ (opaque row.addr ++ opaque (owner_text row.owner)))))

-- the protocol of a row of tcp or udp; version 2 shows no row of another netid
abbrev pub prot_on : Netid → ℕ
prot_on Tcp = protocol_of transports.Tcp
prot_on Udp = protocol_of transports.Udp
prot_on Tcp6 = 0
prot_on Udp6 = 0
prot_on Local = 0

-- the port of the IPv4 address that a text spells (RFC 5665 section 5.2.3.3), or 0 if it spells none
abbrev pub inet_port : List ℕ → ℕ
inet_port text = option_map_or port_of (parse_ipv4 text) 0

-- TRUE and the mapping of a row of tcp or udp: what it adds to a list of version 2
abbrev pub inet_item : Row → List ℕ
inet_item row =
    boolean true ++ (number row.prog ++ (number row.vers ++ (number (prot_on row.netid) ++ number (inet_port row.addr))))
