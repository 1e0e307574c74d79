use Rattle.std.specs.Prelude.{⊤}
use Rattle.rb_uaddr.proofs.OnLiterals.{rb_uaddr_on_literals}
use Rattle.rb_address.specs.CallerTexts.{source, printed_host, asked, trust, claimant, who}
use Rattle.rb_address.specs.Hosts.{is_loopback, is_any, is_mapped, plain_host}
use Rattle.rb_address.specs.Netids.{netid_named, is_netid, transport_of_protocol}
use Rattle.rb_address.specs.Networks.{plain_host_of, network_at, network_of}
use Rattle.rb_address.specs.Reading.{cut, number_below, plain_number, ipv4_host, printed_ipv6, ipv4_peer, ipv6_peer, peer}

-- What is unfolded to compute the definitions of this crate, and of those below, on literals.
unfoldable pub rb_address_on_literals : ⊤
unfolding rb_uaddr_on_literals
    source printed_host asked trust claimant who
    is_loopback is_any is_mapped plain_host
    netid_named is_netid transport_of_protocol
    plain_host_of network_at network_of
    cut number_below plain_number ipv4_host printed_ipv6 ipv4_peer ipv6_peer peer
rb_address_on_literals = tt
