-- Which sockets were handed over.
use Rattle.std.specs.Prelude.{Bool, ◌&&◌}
use Rattle.std.specs.List.{list_any}
use Rattle.rb_address.specs.declared.host.Host.{Host}
use Rattle.rb_address.specs.Hosts.{is_same_host}
use Rattle.rb_sockets.specs.declared.handed.Handed.{Handed}

-- whether there are a listener over TCP and a socket of datagrams at a host
-- START-3
abbrev pub has_all_of : Host → Handed → Bool
has_all_of host handed =
    list_any (λ at. is_same_host at.host host) handed.tcp.items && list_any (λ at. is_same_host at.host host) handed.udp.items
