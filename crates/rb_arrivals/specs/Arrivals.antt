-- How callers came in, and who they are by that.
use Rattle.std.specs.Prelude.{if◌then◌else◌}
use Rattle.rb_address.specs.declared.who.Source.{Source}
use Rattle.rb_address.specs.declared.who.Source.TheVariants.{Inet, Local}
use Rattle.rb_address.specs.declared.who.Who.{Who}
use Rattle.rb_arrivals.specs.declared.arrival.Arrival.{Arrival}
use Rattle.rb_arrivals.specs.declared.arrival.Ends.{Ends}
use Rattle.rb_arrivals.specs.declared.visitor.Visitor.{Visitor}
use Rattle.rb_arrivals.specs.declared.visitor.Visitor.TheVariants.{Known, Unknown}
use Rattle.rb_policy.specs.Evidence.{is_shown}
use Rattle.rb_policy.specs.Trusts.{trust_of}
use Rattle.rb_policy.specs.declared.evidence.Evidence.{Evidence}
use Rattle.rb_policy.specs.declared.evidence.Evidence.TheVariants.{NotFound}
use Rattle.rb_policy.specs.declared.trust.Entrance.{Entrance}
use Rattle.rb_policy.specs.declared.trust.Entrance.TheVariants.{RootSocket, OpenSocket, Tcp, Udp}

abbrev pub source_of : Entrance → Source
source_of RootSocket = Local
source_of OpenSocket = Local
source_of (Tcp peer evidence) = Inet peer
source_of (Udp bound peer) = Inet peer

-- TRUST-14: A caller is trusted as its entrance says, and in no other way.
abbrev pub who_of : Arrival → Who
who_of a = record { source = source_of a.entrance; asked = a.asked; trust = trust_of a.beliefs a.entrance }

-- Whoever is at the other end of a connection over TCP, of which the kernel's tables show this, asked the host of our end.
-- ASKED-2
abbrev pub arrival_of : Ends → Evidence → Arrival
arrival_of ends evidence = record { beliefs = ends.beliefs; entrance = Tcp ends.theirs evidence; asked = ends.ours.address.host }

-- Whoever came over TCP: of a connection of this host the kernel's tables show whose it is.
-- TABLES-1
abbrev pub visitor_of : Ends → Visitor
visitor_of ends = if is_shown ends.beliefs.claims ends.theirs then Unknown ends else Known (arrival_of ends NotFound)

-- How it came in, before the tables show whose it is.
abbrev pub first_arrival : Visitor → Arrival
first_arrival (Known arrival) = arrival
first_arrival (Unknown ends) = arrival_of ends NotFound
