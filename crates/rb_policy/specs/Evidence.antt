-- What the kernel's tables of connections show of one from this host.
use Rattle.std.specs.Prelude.{◌≡◌, ℕ, nat_lt, Bool, true, false, not, ◌&&◌, if◌then◌else◌, List, Option, Some, None}
use Rattle.rb_address.specs.declared.host.Family.{Family}
use Rattle.rb_address.specs.declared.host.Family.TheVariants.{Inet, Inet6}
use Rattle.rb_address.specs.declared.peer.Peer.{Peer}
use Rattle.rb_address.specs.Hosts.{family_of, is_loopback}
use Rattle.rb_evidence.specs.declared.sight.Sight.{Sight}
use Rattle.rb_evidence.specs.Table.{endpoint_text, mapped_text}
use Rattle.rb_evidence.specs.Walks.{nothing_seen}
use Rattle.rb_policy.specs.declared.evidence.Evidence.{Evidence}
use Rattle.rb_policy.specs.declared.evidence.Evidence.TheVariants.{Found, NotFound, Unread}

-- TABLES-1: The kernel's tables of connections (/proc/net/tcp, tcp6) are asked of peers of
-- 127.0.0.0/8 and ::1 alone, and not if claims are believed.
abbrev pub is_shown : Bool → Peer → Bool
is_shown claims peer = not claims && is_loopback peer.host

-- TABLES-2: A peer of IPv4 is looked for in the kernel's table of IPv4, and if that shows no user
-- in the one of IPv6, in IPv6's form; a peer of IPv6 in the latter alone.
abbrev pub looks_in : Family → Family → Evidence → Bool
looks_in Inet Inet NotFound = true
looks_in Inet6 peer NotFound = true
looks_in table peer known = false

-- how the two ends stand in a table: a peer of IPv4 stands in that of IPv6 in IPv6's form
abbrev pub text_by : Family → Family → Peer → List ℕ
text_by Inet6 Inet end = mapped_text end
text_by Inet6 Inet6 end = endpoint_text end
text_by Inet peer end = endpoint_text end

-- What a walk through the table of a family looks for.
-- TABLES-2
pub record IsSightIn (table : Family) (theirs ours : Peer) (sight : Sight) : Type 0 where
  pub theirs_is : sight.theirs.bytes ≡ text_by table (family_of theirs.host) theirs
  pub ours_is : sight.ours.bytes ≡ text_by table (family_of theirs.host) ours
  pub seen_is : sight.seen ≡ nothing_seen

abbrev pub evidence_in : Option ℕ → Evidence
evidence_in (Some uid) = Found uid
evidence_in None = NotFound

-- by the uid that a walk through a table has seen, if it came to the end
-- TABLES-2
-- TABLES-3: A table of which a walk did not come to the end counts as one that can't be read.
abbrev pub evidence_of : Bool → Option ℕ → Evidence
evidence_of is_whole uid = if is_whole then evidence_in uid else Unread

abbrev pub is_not_found : Evidence → Bool
is_not_found (Found uid) = false
is_not_found NotFound = true
is_not_found Unread = false

-- TABLES-7: A connection that is still connected though a pass through the kernel's tables shows no user of it is looked for
-- in one more pass, unless its client has ended what it sends.
abbrev pub looks_again : ℕ → Evidence → Bool
looks_again passes known = is_not_found known && nat_lt passes 2

-- by what was found and whether it is connected still
abbrev pub known_of : Evidence → Bool → Evidence
known_of (Found uid) is_connected = if is_connected then Found uid else NotFound
known_of NotFound is_connected = NotFound
known_of Unread is_connected = Unread

-- what is known after so many passes, by what the last one shows; none if there is one more
-- TABLES-5: The uid that the kernel's tables show counts only if the connection is still connected after they were read;
-- otherwise its owner is unknown.
abbrev pub shown_after : ℕ → Evidence → Bool → Bool → Option Evidence
shown_after passes known is_connected has_ended =
    if looks_again passes known && (is_connected && not has_ended) then None else Some (known_of known is_connected)
