-- Among whose connections one counts, when all places are taken.
use Rattle.std.specs.Prelude.{ℕ, ◌-◌, ◌^◌, ◌/◌, ◌==◌, max, nat_lt, Bool, true, false, not, ◌&&◌, if◌then◌else◌}
use Rattle.rb_address.specs.declared.who.Owner.TheVariants.{Unknown, Uid}
use Rattle.rb_address.specs.declared.who.Source.{Source}
use Rattle.rb_address.specs.declared.who.Source.TheVariants as sources
use Rattle.rb_address.specs.declared.who.Trust.{Trust}
use Rattle.rb_address.specs.declared.who.Trust.TheVariants as trusts
use Rattle.rb_address.specs.Hosts.{is_loopback, is_same_host}
use Rattle.rb_rpc.specs.declared.standing.Standing.{Standing}
use Rattle.rb_rpc.specs.declared.standing.Standing.TheVariants.{Idle, Reading, Owing, Awaiting, Sends, Lost}
use Rattle.rb_policy.specs.declared.asks.Held.{Held}
use Rattle.rb_policy.specs.declared.asks.Held.TheVariants.{Nothing, Part, Whole}
use Rattle.rb_policy.specs.declared.origin.Origin.{Origin}
use Rattle.rb_policy.specs.declared.origin.Origin.TheVariants.{Host, User, Nobody, New, Waiting, Unawaited}

-- those from elsewhere by their host
abbrev pub origin_from : Source → Origin
origin_from sources.Local = Nobody
origin_from (sources.Inet peer) = if is_loopback peer.host then Nobody else Host peer.host

-- DOOR-5: A client is of this host if it comes from 127.0.0.0/8, from ::1 or by the local socket. Clients of this host
-- count by their user where that is known, others by their host.
abbrev pub origin_of : Trust → Source → Origin
origin_of (trusts.Local (Uid uid)) source = User uid
origin_of (trusts.Local Unknown) source = origin_from source
origin_of trusts.Claims source = origin_from source
origin_of trusts.Stranger source = origin_from source

-- whether a reply is owed, or may come yet
abbrev pub is_owed : Standing → Bool
is_owed Idle = false
is_owed Reading = false
is_owed Lost = false
is_owed Owing = true
is_owed Awaiting = true
is_owed Sends = true

-- DOOR-9: A connection whose whole call is held back counts among those that wait, wherever it comes from.
-- DOOR-13: Nobody waits for a reply where a part of a call is held back, whose rest is yet to come; nor where the client has
-- ended what it sends, or reset it, if nothing is owed or the call is held back. Such connections count together.
abbrev pub origin_now : Origin → Held → Bool → Standing → Origin
origin_now own Nothing has_ended standing = if has_ended && not (is_owed standing) then Unawaited else own
origin_now own Part has_ended standing = Unawaited
origin_now own Whole has_ended standing = if has_ended then Unawaited else Waiting

abbrev pub is_same_origin : Origin → Origin → Bool
is_same_origin (Host a) (Host b) = is_same_host a b
is_same_origin (User a) (User b) = a == b
is_same_origin Nobody Nobody = true
is_same_origin New New = true
is_same_origin Waiting Waiting = true
is_same_origin Unawaited Unawaited = true
is_same_origin a b = false

abbrev pub is_roots : Origin → Bool
is_roots (User uid) = uid == 0
is_roots origin = false

abbrev pub is_unawaited : Origin → Bool
is_unawaited Unawaited = true
is_unawaited origin = false

-- DOOR-4: While others want places, another host may hold half of them, and so may all of this host whose user is unknown;
-- one user of this host, root excepted, may hold a quarter, and so may those of this host that came since the kernel's
-- tables were last asked, and those whose calls wait for the tables. At least one each. A client of one that holds its share
-- takes the place of another of it, or of one by DOOR-10.
abbrev pub share_of : Origin → ℕ → ℕ
share_of (Host host) places = max (places / 2) 1
share_of Nobody places = max (places / 2) 1
share_of (User uid) places = max (places / 4) 1
share_of New places = max (places / 4) 1
share_of Waiting places = max (places / 4) 1
share_of Unawaited places = max (places / 4) 1

-- DOOR-10: First goes a connection on which nobody waits for a reply; last goes one of root.
abbrev pub class_of : Origin → ℕ
class_of Unawaited = 0
class_of (User uid) = if uid == 0 then 2 else 1
class_of (Host host) = 1
class_of Nobody = 1
class_of New = 1
class_of Waiting = 1

abbrev pub is_local : Origin → Bool
is_local (Host host) = false
is_local origin = true

-- for how long after its last progress a connection is active, in milliseconds
abbrev pub active_for : ℕ
active_for = 1000

-- DOOR-12: A connection whose call is held back is active: it waits for the system, and not for its client. Where it begins to
-- wait and where it ends, it makes progress.
abbrev pub is_active : Origin → ℕ → ℕ → Bool
is_active Waiting since now = true
is_active Unawaited since now = false
is_active origin since now = nat_lt (now - since) active_for

-- DOOR-11: Of the connections whose calls are held back the one that came last is given up, so those that came before it
-- keep their turn.
abbrev pub goes_by : Origin → ℕ → ℕ
goes_by Waiting since = 2 ^ 64 - 1 - since
goes_by origin since = since
