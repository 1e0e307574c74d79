use Rattle.std.specs.Prelude.{⊤}
use Rattle.std.specs.Fmt.{digits}
use Rattle.std.specs.Net.Reader.{read_ipv6, read_segments, read_segment, read_ipv4, read_octet, read_number}
use Rattle.std.specs.Net.Text.{hex, hex_groups_text}
use Rattle.rb_uaddr.specs.Uaddr.{ipv6_host_text, ipv6_host, port_of, port_bytes, text_of, octet, ipv4_of_parts, ipv6_of_parts, parts_of, parse_ipv4, parse_ipv6, parse, is_local_text, merged_host, merged_host6, merged_address, transport_of, from_transport}

-- What is unfolded to compute the definitions of this crate on literals.
unfoldable pub rb_uaddr_on_literals : ⊤
unfolding digits
    read_ipv6 read_segments read_segment read_ipv4 read_octet read_number
    hex hex_groups_text
    ipv6_host_text ipv6_host port_of port_bytes text_of octet ipv4_of_parts ipv6_of_parts parts_of
    parse_ipv4 parse_ipv6 parse is_local_text merged_host merged_host6 merged_address transport_of
    from_transport
rb_uaddr_on_literals = tt
