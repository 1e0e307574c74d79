-- What a start says.
use Rattle.std.specs.Prelude.{ℕ, ◌==◌, Bool, true, false, ◌&&◌, if◌then◌else◌, List, [], ◌∷◌, ◌++◌, codes, decimal, Option, Some, None}
use Rattle.std.specs.List.{flat_map}
use Rattle.rb_address.specs.declared.host.Host.{Host}
use Rattle.rb_address.specs.declared.host.Host.TheVariants.{V4, V6}
use Rattle.rb_address.specs.Peers.{bare_host_text}
use Rattle.rb_policy.specs.Addresses.{binds_loopback6}
use Rattle.rb_answers.specs.declared.listener.Announced.{Announced}
use Rattle.rb_settings.specs.declared.settings.LocalSocket.{LocalSocket}
use Rattle.rb_settings.specs.declared.descriptors.Shortage.{Shortage}
use Rattle.rb_settings.specs.declared.settings.Settings.{Settings}

-- ---- on standard output: where it listens

abbrev pub host_line : ℕ → Host → List ℕ
host_line port host =
    codes "rpcbind: listening on " ++ bare_host_text host ++ codes " port " ++ decimal port ++ codes "\n"

-- of ::1, if that is bound as well
abbrev pub loopback6_line : Bool → ℕ → List ℕ
loopback6_line true port = codes "rpcbind: listening on ::1 port " ++ decimal port ++ codes "\n"
loopback6_line false port = []

-- of the local socket, if there is one
abbrev pub local_line : Option LocalSocket → List ℕ
local_line None = []
local_line (Some local) = codes "rpcbind: listening on " ++ local.path.now ++ codes "\n"

-- START-1: A start says where the daemon listens, a line for each address in their order, one for
-- ::1 if that is also bound, and one for the local socket; and before that, on standard error,
-- which host clients over UDP are told that is no address.
abbrev pub start_text : Settings → List ℕ
start_text s =
    flat_map (host_line s.port) s.bind
    ++ loopback6_line (binds_loopback6 s.bind s.loopback6) s.port
    ++ local_line s.local

-- ---- before it, on standard error

-- if clients over UDP will be told a host of which they can make nothing
-- START-1
abbrev pub unannounced_line : Host → List ℕ
unannounced_line host = codes "rpcbind: no --announce: clients over UDP will be told " ++ bare_host_text host

-- START-2: If the limit of open files leaves fewer places than were asked for, a line at the start
-- says so, with both numbers.
abbrev pub shortage_line : Shortage → List ℕ
shortage_line short =
    codes "rpcbind: the limit of open files is " ++ decimal short.limit ++ codes ", --conns " ++ decimal short.asked
    ++ codes " needs " ++ decimal short.needed ++ codes ": " ++ decimal short.places ++ codes " connections at a time"

-- at this port, of a machine that has no ::1 or has it
-- START-4: If programs of this machine register here, so at port 111, and it makes sockets of IPv6 and has no ::1, a start says
-- what that means for those that are linked with libtirpc.
abbrev pub loopback6_text : ℕ → Bool → Option (List ℕ)
loopback6_text port is_missing =
    if port == 111 && is_missing
    then Some (codes "rpcbind: ::1 is no address of this machine: users but root register only if /etc/netconfig has no tcp6")
    else None

-- ---- the hosts that are announced, of which programs of kept rows are of this machine

abbrev pub inet_of : Option (List ℕ) → List Host
inet_of None = []
inet_of (Some octets) = V4 octets ∷ []

abbrev pub inet6_of : Option (List ℕ) → List Host
inet6_of None = []
inet6_of (Some octets) = V6 octets ∷ []

-- KEEPCHECK-1
abbrev pub hosts_of : Announced → List Host
hosts_of announced = inet_of announced.inet ++ inet6_of announced.inet6
