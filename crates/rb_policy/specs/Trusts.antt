-- Whom the daemon believes: how far a caller is trusted, by where it came in and what is shown of it there.
use Rattle.std.specs.Prelude.{◌≡◌, ℕ, ◌==◌, Bool, false, ◌&&◌, ◌||◌, if◌then◌else◌, Option, Some, None, bit_and}
use Rattle.rb_address.specs.declared.host.Host.{Host}
use Rattle.rb_address.specs.declared.host.Host.TheVariants.{V4, V6}
use Rattle.rb_address.specs.declared.peer.Peer.{Peer}
use Rattle.rb_address.specs.declared.who.Owner.{Owner}
use Rattle.rb_address.specs.declared.who.Owner.TheVariants.{Unknown, Uid}
use Rattle.rb_address.specs.declared.who.Trust.{Trust}
use Rattle.rb_address.specs.declared.who.Trust.TheVariants.{Claims, Local, Stranger}
use Rattle.rb_address.specs.Hosts.{is_loopback, is_same_host}
use Rattle.rb_policy.specs.declared.evidence.Evidence.{Evidence}
use Rattle.rb_policy.specs.declared.evidence.Evidence.TheVariants.{Found, NotFound, Unread}
use Rattle.rb_policy.specs.Addresses.{loopback, loopback6}
use Rattle.rb_policy.specs.Evidence.{is_shown}
use Rattle.rb_policy.specs.declared.trust.Beliefs.{Beliefs}
use Rattle.rb_policy.specs.declared.trust.Entrance.{Entrance}
use Rattle.rb_policy.specs.declared.trust.Entrance.TheVariants.{RootSocket, OpenSocket, Tcp, Udp}

-- ---- over TCP

-- TRUST-11: In a user namespace that does not map all users, the uid that the kernel shows in place of the others is nobody known.
abbrev pub owner_of : Option ℕ → ℕ → Owner
owner_of None uid = Uid uid
owner_of (Some unmapped) uid = if unmapped == uid then Unknown else Uid uid

-- TRUST-8: Whoever comes over TCP from a host that is not of 127.0.0.0/8 and not ::1 is a stranger, from the announced one too.
abbrev pub trust_from : Peer → Owner → Trust
trust_from peer owner = if is_loopback peer.host then Local owner else Stranger

-- TRUST-5: Whoever comes over TCP from 127.0.0.0/8 or ::1 is the uid that the kernel's tables show of the connection.
-- TRUST-6: If the kernel's tables show no uid of a connection from this host, its owner is unknown.
-- TRUST-10: If a table of the kernel that is asked of a connection can't be read whole, its caller is a stranger.
abbrev pub trust_over_tcp : Option ℕ → Peer → Evidence → Trust
trust_over_tcp unmapped peer (Found uid) = trust_from peer (owner_of unmapped uid)
trust_over_tcp unmapped peer NotFound = trust_from peer Unknown
trust_over_tcp unmapped peer Unread = Stranger

-- ---- over UDP

-- exactly 127.0.0.1 or ::1
abbrev pub is_home : Host → Bool
is_home host = is_same_host host (V4 loopback) || is_same_host host (V6 loopback6)

-- TRUST-7: Whoever comes over UDP from 127.0.0.1 to a socket bound to 127.0.0.1, or from ::1 to one bound to ::1, is of this
-- machine, with an owner that is unknown; whoever comes over UDP in any other way is a stranger.
abbrev pub trust_over_udp : Host → Host → Trust
trust_over_udp bound source = if is_home bound && is_same_host bound source then Local Unknown else Stranger

-- ---- the table

-- TRUST-1: Whoever comes by a local socket that only root (and the daemon's user, TRUST-2) may use is uid 0.
-- TRUST-4: Whoever comes by any other local socket is of this machine, with an owner that is unknown.
abbrev pub trust_by : Option ℕ → Entrance → Trust
trust_by unmapped RootSocket = Local (Uid 0)
trust_by unmapped OpenSocket = Local Unknown
trust_by unmapped (Tcp peer evidence) = trust_over_tcp unmapped peer evidence
trust_by unmapped (Udp bound peer) = trust_over_udp bound peer.host

-- TRUST-9: With `--believe-claims` nothing is known of a caller but its claims.
abbrev pub trust_of : Beliefs → Entrance → Trust
trust_of beliefs entrance = if beliefs.claims then Claims else trust_by beliefs.unmapped entrance

-- TRUST-2: A socket lets in root alone if its file's mode lets no group and no others write to it. Root and the file's owner,
-- which is the daemon's user, come in then, and both count as uid 0.
abbrev pub lets_in_root_alone : ℕ → Bool
lets_in_root_alone mode = bit_and mode 18 == 0

-- ---- what follows

-- If the kernel's tables are not looked at, nothing depends on what they have.
-- TABLES-1
abbrev pub OthersNeedNoTable : Type 0
OthersNeedNoTable =
    (beliefs : Beliefs) (peer : Peer) (a b : Evidence) → is_shown beliefs.claims peer ≡ false
    → trust_of beliefs (Tcp peer a) ≡ trust_of beliefs (Tcp peer b)

-- Over TCP nobody registers but from 127.0.0.0/8 or ::1.
-- TRUST-8
abbrev pub OthersAreStrangers : Type 0
OthersAreStrangers =
    (unmapped : Option ℕ) (peer : Peer) (shown : Evidence) → is_loopback peer.host ≡ false
    → trust_of (record { claims = false; unmapped = unmapped }) (Tcp peer shown) ≡ Stranger

-- Over UDP nobody registers but at a socket bound to 127.0.0.1 or ::1, from exactly 127.0.0.1 or ::1.
-- TRUST-7
abbrev pub OthersAreStrangersOverUdp : Type 0
OthersAreStrangersOverUdp =
    (unmapped : Option ℕ) (bound : Host) (peer : Peer) → (is_home bound && is_home peer.host) ≡ false
    → trust_of (record { claims = false; unmapped = unmapped }) (Udp bound peer) ≡ Stranger
