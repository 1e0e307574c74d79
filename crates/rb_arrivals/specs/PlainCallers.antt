-- Callers and peers with each host in its plain form: a host ::ffff:a.b.c.d counts as a.b.c.d.
use Rattle.rb_address.specs.declared.peer.Peer.{Peer}
use Rattle.rb_address.specs.declared.who.Source.{Source}
use Rattle.rb_address.specs.declared.who.Source.TheVariants.{Inet, Local}
use Rattle.rb_address.specs.declared.who.Who.{Who}
use Rattle.rb_address.specs.Hosts.{plain_host}
use Rattle.rb_address.specs.Peers.{peer_at}

-- MAPPED-3
abbrev pub plain_peer : Peer → Peer
plain_peer peer = peer_at peer.host peer.port

abbrev pub plain_source : Source → Source
plain_source (Inet peer) = Inet (plain_peer peer)
plain_source Local = Local

-- MAPPED-3: A caller or a peer at ::ffff:a.b.c.d is at a.b.c.d for the core, and so is the host
-- that was asked: each event has a line.
abbrev pub plain_who : Who → Who
plain_who who = record { source = plain_source who.source; asked = plain_host who.asked; trust = who.trust }
