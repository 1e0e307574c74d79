-- The listener, and what it knows of a caller.
use Rattle.std.specs.Prelude.{ℕ, ◌-◌, ◌/◌, ◌==◌, Bool, true, false, ◌||◌, List, [], ◌∷◌, ◌++◌, bytes_eq, Option, Some, None, if◌then◌else◌}
use Rattle.std.specs.Option.{option_map_or}
use Rattle.rb_rpc.specs.declared.call.Credential.{Credential}
use Rattle.rb_rpc.specs.declared.call.Credential.TheVariants as credentials
use Rattle.rb_address.specs.declared.caller.Caller.{Caller}
use Rattle.rb_address.specs.declared.caller.Caller.TheVariants as callers
use Rattle.rb_uaddr.specs.declared.address.Hosts.{Hosts}
use Rattle.rb_uaddr.specs.declared.address.Uaddr.TheVariants.{V4, V6}
use Rattle.rb_uaddr.specs.Uaddr.{any_host, any_host6, text_of, merged_host, merged_host6}
use Rattle.rb_address.specs.declared.host.Host.{Host}
use Rattle.rb_address.specs.declared.host.Host.TheVariants as hosts
use Rattle.rb_address.specs.Hosts.{is_loopback}
use Rattle.rb_address.specs.declared.netid.Transport.TheVariants as transports
use Rattle.rb_address.specs.declared.netid.Netid.{Netid}
use Rattle.rb_address.specs.declared.netid.Netid.TheVariants as netids
use Rattle.rb_address.specs.declared.who.Owner.{Owner}
use Rattle.rb_address.specs.declared.who.Owner.TheVariants.{Unknown, Uid}
use Rattle.rb_address.specs.declared.who.Trust.{Trust}
use Rattle.rb_address.specs.declared.who.Trust.TheVariants as trusts
use Rattle.rb_address.specs.declared.who.Source.{Source}
use Rattle.rb_address.specs.declared.who.Source.TheVariants as sources
use Rattle.rb_address.specs.declared.who.Who.{Who}
use Rattle.rb_address.specs.Callers.{netid_from}
use Rattle.rb_registry.specs.declared.row.Row.{Row}
use Rattle.rb_registry.specs.Rows.{rpcb_prog}
use Rattle.rb_answers.specs.declared.listener.Announced.{Announced}
use Rattle.rb_answers.specs.declared.listener.Listener.{Listener}
use Rattle.rb_answers.specs.declared.context.Context.{Context}

-- ---- the rows of the portmapper itself

abbrev pub own_row : Netid → List ℕ → ℕ → Row
own_row netid addr vers = record { prog = rpcb_prog; vers = vers; netid = netid; addr = addr; owner = Uid 0 }

-- versions 4 and 3
abbrev pub own_pair : Netid → List ℕ → List Row
own_pair netid addr = own_row netid addr 4 ∷ own_row netid addr 3 ∷ []

-- version 2 is of IPv4 alone
abbrev pub own_three : Netid → List ℕ → List Row
own_three netid addr = own_row netid addr 4 ∷ own_row netid addr 3 ∷ own_row netid addr 2 ∷ []

-- at every host of IPv6, if it is served
abbrev pub own_inet6 : ℕ → Option (List ℕ) → List Row
own_inet6 port None = []
own_inet6 port (Some announced) =
    own_pair netids.Tcp6 (text_of (V6 any_host6 port)) ++ own_pair netids.Udp6 (text_of (V6 any_host6 port))

-- at every host of IPv4, if it is served
abbrev pub own_inet : ℕ → Option (List ℕ) → List Row
own_inet port None = []
own_inet port (Some announced) =
    own_three netids.Tcp (text_of (V4 any_host port)) ++ own_three netids.Udp (text_of (V4 any_host port))

abbrev pub inet6_rows : Listener → List Row
inet6_rows listener = own_inet6 listener.port listener.announced.inet6

abbrev pub inet_rows : Listener → List Row
inet_rows listener = own_inet listener.port listener.announced.inet

-- at the path of the local socket, if there is one
abbrev pub own_local : Option (List ℕ) → List Row
own_local None = []
own_local (Some path) = own_pair netids.Local path

-- OWN-1: A fresh registry has the daemon's own rows, owner superuser: if IPv6 is served versions 4
-- and 3 on tcp6 and udp6, at `::` and the listener's port; if IPv4 is, versions 4, 3 and 2 on tcp
-- and udp, at 0.0.0.0 and that port; if there is a local socket, versions 4 and 3 on local, at its
-- path.
unfoldable pub own_rows : Listener → List Row
own_rows listener = inet6_rows listener ++ inet_rows listener ++ own_local listener.local

-- ---- who calls

abbrev pub who_of : Caller → Who
who_of (callers.Tcp id who) = who
who_of (callers.Udp who longest) = who

-- GETADDR-1: GETADDR goes by the netid by which the call came: tcp or udp over IPv4, tcp6 or udp6
-- over IPv6, local by the local socket; r_netid is ignored.
abbrev pub netid_of_caller : Caller → Netid
netid_of_caller (callers.Tcp id who) = netid_from transports.Tcp who.source
netid_of_caller (callers.Udp who longest) = netid_from transports.Udp who.source

-- nothing that it says is believed
abbrev pub is_of_a_stranger : Trust → Bool
is_of_a_stranger trusts.Claims = false
is_of_a_stranger (trusts.Local owner) = false
is_of_a_stranger trusts.Stranger = true

abbrev pub is_stranger : Who → Bool
is_stranger who = is_of_a_stranger who.trust

-- ---- whether it may register, and as whom

abbrev pub is_announced_as : List ℕ → Option (List ℕ) → Bool
is_announced_as octets announced = option_map_or (λ own. bytes_eq octets own) announced false

-- REGISTER-1: A caller of which nothing is known but its claims may register if its host is in
-- 127.0.0.0/8, is ::1 or is the announced host of its family, or if it comes by the local socket.
unfoldable pub is_local : Announced → Host → Bool
is_local announced (hosts.V4 octets) = is_loopback (hosts.V4 octets) || is_announced_as octets announced.inet
is_local announced (hosts.V6 octets) = is_loopback (hosts.V6 octets) || is_announced_as octets announced.inet6

-- REGISTER-1
abbrev pub is_here : Announced → Source → Bool
is_here announced (sources.Inet peer) = is_local announced peer.host
is_here announced sources.Local = true

-- who claims to be of this machine has to be there by its address
-- REGISTER-2: A caller that is known to be of this machine may register, wherever it comes from; a
-- stranger may not, wherever it comes from.
abbrev pub is_trusted : Announced → Source → Trust → Bool
is_trusted announced source trusts.Claims = is_here announced source
is_trusted announced source (trusts.Local owner) = true
is_trusted announced source trusts.Stranger = false

abbrev pub may_register : Announced → Who → Bool
may_register announced who = is_trusted announced who.source who.trust

-- as far as the credential says
abbrev pub owner_named : Credential → Owner
owner_named credentials.None = Unknown
owner_named (credentials.Sys uid) = Uid uid

-- OWNER-1: A caller that is known to be of this machine registers as its owner, `unknown` too,
-- whatever its credential says; one of which nothing is known but its claims as the uid of its
-- AUTH_SYS credential, and without one as unknown.
abbrev pub owner_of : Trust → Credential → Owner
owner_of trusts.Claims cred = owner_named cred
owner_of (trusts.Local owner) cred = owner
owner_of trusts.Stranger cred = owner_named cred

abbrev pub is_superuser : Owner → Bool
is_superuser Unknown = false
is_superuser (Uid uid) = uid == 0

-- the last quarter of the rows, rounded down, is for owner uid 0: of 10 rows 8 are for all
abbrev pub share_of : Owner → ℕ → ℕ
share_of owner limit = if is_superuser owner then limit else limit - limit / 4

-- How many live rows there may be with the one that a caller sets; removed ones that lists need do not count. At the
-- least limit of rows this leaves others than uid 0 none, or one if the daemon's own rows are four.
-- QUOTA-1: The last quarter of the rows is for uid 0: if only that is left, a SET of a caller of
-- another uid or of `unknown` is FALSE; one whose claims are believed may take all.
abbrev pub share_by : Trust → ℕ → ℕ
share_by trusts.Claims limit = limit
share_by (trusts.Local owner) limit = share_of owner limit
share_by trusts.Stranger limit = limit

abbrev pub share_in : Context → ℕ
share_in context = share_by (who_of context.caller).trust context.limit

-- ---- the hosts that it is told

-- if none is announced, every host stays as it is
abbrev pub announced_hosts : Announced → Hosts
announced_hosts announced = record {
  inet = option_map_or (λ host. host) announced.inet any_host;
  inet6 = option_map_or (λ host. host) announced.inet6 any_host6;
}

-- TOLD-1: In place of 0.0.0.0 or `::` a caller is told the host that it asked, if that is one of
-- the family, otherwise the announced host of the family; if there is none it stays.
unfoldable pub hosts_told : Announced → Host → Hosts
hosts_told announced (hosts.V4 asked) =
    record (announced_hosts announced) { inet = merged_host (announced_hosts announced).inet asked }
hosts_told announced (hosts.V6 asked) =
    record (announced_hosts announced) { inet6 = merged_host6 (announced_hosts announced).inet6 asked }

-- TOLD-1
abbrev pub hosts_in : Context → Hosts
hosts_in context = hosts_told context.announced (who_of context.caller).asked
