-- What each socket is for that a service manager hands over, and why one is not taken (sd_listen_fds(3)).
use Rattle.std.specs.Prelude.{ℕ, ◌^◌, ◌==◌, Bool, true, false, not, ◌&&◌, ◌||◌, if◌then◌else◌, List, codes, bytes_eq, Option, Some, None, Result, Ok, Err}
use Rattle.std.specs.List.{list_any}
use Rattle.std.specs.Borrow.{Bor}
use Rattle.rb_address.specs.declared.host.Host.{Host}
use Rattle.rb_address.specs.declared.host.Host.TheVariants.{V4, V6}
use Rattle.rb_address.specs.Reading.{plain_number}
use Rattle.rb_policy.specs.Addresses.{every_inet, loopback, loopback6, is_same, has_host, has_every_host, has_every_inet, binds_every_inet, binds_loopback6}
use Rattle.rb_policy.specs.KeepFile.{is_trusted}
use Rattle.rb_policy.specs.Trusts.{lets_in_root_alone}
use Rattle.rb_policy.specs.declared.local_file.SeenFile.{SeenFile}
use Rattle.rb_policy.specs.declared.trust.Entrance.{Entrance}
use Rattle.rb_policy.specs.declared.trust.Entrance.TheVariants.{RootSocket, OpenSocket}
use Rattle.rb_policy.specs.declared.handed.Role.{Role}
use Rattle.rb_policy.specs.declared.handed.Role.TheVariants.{Tcp, Udp, Local}
use Rattle.rb_policy.specs.declared.handed.InetSaid.{InetSaid}
use Rattle.rb_policy.specs.declared.handed.Said.{Said}
use Rattle.rb_policy.specs.declared.handed.Said.TheVariants.{Inet, Unix, Other}
use Rattle.rb_policy.specs.declared.handed.Wanted.{Wanted}
use Rattle.rb_policy.specs.declared.handed.Mismatch.{Mismatch}
use Rattle.rb_policy.specs.declared.handed.Mismatch.TheVariants.{Kind, NotListening, BothFamilies, OtherPort, Elsewhere, Twice}

-- ---- how many there are

abbrev pub is_number : ℕ → Option ℕ → Bool
is_number n None = false
is_number n (Some m) = n == m

abbrev pub names_process : ℕ → List ℕ → Bool
names_process own text = is_number own (plain_number (2 ^ 32) text)

-- by the values of LISTEN_PID and LISTEN_FDS; None if the second is not understood
-- HANDED-1: Sockets are handed over if LISTEN_PID is the number of this process: as many as LISTEN_FDS says, at most 64, from
-- descriptor 3 on. For another process, and without the two, there are none.
abbrev pub handed_count : ℕ → Option (List ℕ) → Option (List ℕ) → Option ℕ
handed_count own None count = Some 0
handed_count own (Some pid) None = Some 0
handed_count own (Some pid) (Some count) = if names_process own pid then plain_number 65 count else Some 0

-- ---- where the daemon listens

abbrev pub binds_tcp : List Host → Bool → Host → Bool
binds_tcp hosts wanted host =
    has_host host hosts
    || ((is_same host (V4 every_inet) && binds_every_inet hosts)
    || (is_same host (V6 loopback6) && binds_loopback6 hosts wanted))

-- BIND-4
abbrev pub binds_udp : List Host → Bool → Host → Bool
binds_udp hosts wanted host =
    binds_tcp hosts wanted host
    || ((is_same host (V4 loopback) && has_every_inet hosts)
    || (is_same host (V6 loopback6) && has_every_host hosts))

-- ---- what each is for

abbrev pub role_if : Bool → Role → Result Role Mismatch
role_if true role = Ok role
role_if false role = Err Elsewhere

-- by whether it is one of TCP, and whether it listens
abbrev pub role_at : Bool → Bool → Wanted → Host → Result Role Mismatch
role_at true true wanted host = role_if (binds_tcp wanted.hosts.now wanted.loopback6 host) (Tcp host)
role_at false false wanted host = role_if (binds_udp wanted.hosts.now wanted.loopback6 host) (Udp host)
role_at true false wanted host = Err NotListening
role_at false true wanted host = Err Kind

-- HANDED-2: A socket that is handed over stands in for the one that the options would bind at its address. It is not taken,
-- and nothing is served, if it is of another kind, is of IPv6 and takes IPv4 too, has another port, is a stream that does not
-- listen, or is at an address where the options bind none of its kind.
abbrev pub inet_role : Wanted → InetSaid → Result Role Mismatch
inet_role wanted said =
    if said.takes_inet then Err BothFamilies
    else (if said.address.port == wanted.port then role_at said.is_tcp said.listens wanted said.address.host else Err OtherPort)

-- the host that a socket adds to those that are listened on, if `--bind` is not given
-- HANDED-6: Without `--bind` the hosts are those of the listeners over TCP that are handed over; 127.0.0.1 if there are none.
abbrev pub host_if : Bool → Host → Option Host
host_if true host = Some host
host_if false host = None

-- HANDED-6
abbrev pub new_host : List Host → Said → Option Host
new_host hosts (Inet said) =
    host_if (said.is_tcp && (said.listens && not (has_host said.address.host hosts))) said.address.host
new_host hosts (Unix path listens) = None
new_host hosts Other = None

abbrev pub is_path : List ℕ → Option (Bor (List ℕ)) → Bool
is_path path None = false
is_path path (Some wanted) = bytes_eq path wanted.now

-- HANDED-3: A local socket that is handed over is taken if it listens, and its path is that of `--local`.
abbrev pub local_role : Wanted → List ℕ → Bool → Result Role Mismatch
local_role wanted path true = role_if (is_path path wanted.local) Local
local_role wanted path false = Err NotListening

abbrev pub role_of : Wanted → Said → Result Role Mismatch
role_of wanted (Inet said) = inet_role wanted said
role_of wanted (Unix path listens) = local_role wanted path.now listens
role_of wanted Other = Err Kind

abbrev pub is_same_role : Role → Role → Bool
is_same_role (Tcp a) (Tcp b) = is_same a b
is_same_role (Tcp a) (Udp b) = false
is_same_role (Tcp a) Local = false
is_same_role (Udp a) (Tcp b) = false
is_same_role (Udp a) (Udp b) = is_same a b
is_same_role (Udp a) Local = false
is_same_role Local (Tcp b) = false
is_same_role Local (Udp b) = false
is_same_role Local Local = true

abbrev pub has_role : Role → List Role → Bool
has_role wanted roles = list_any (λ role. is_same_role role wanted) roles

abbrev pub once : List Role → Result Role Mismatch → Result Role Mismatch
once taken (Err mismatch) = Err mismatch
once taken (Ok role) = if has_role role taken then Err Twice else Ok role

-- after those that were taken
-- HANDED-4: Of two sockets that are handed over for one address neither is served.
abbrev pub settle : List Role → Wanted → Said → Result Role Mismatch
settle taken wanted said = once taken (role_of wanted said)

-- what is said of one that is not taken
abbrev pub mismatch_text : Mismatch → List ℕ
mismatch_text Kind = codes "is none of TCP, UDP or a local listener"
mismatch_text NotListening = codes "does not listen (Accept= must be no)"
mismatch_text BothFamilies = codes "is of IPv4 and IPv6 (BindIPv6Only= must be ipv6-only)"
mismatch_text OtherPort = codes "has another port than --port"
mismatch_text Elsewhere = codes "is where no option listens (--bind, --loopback6, --local)"
mismatch_text Twice = codes "has the address of another one"

-- ---- who comes in at the local one

-- HANDED-5: Who comes by a local socket that was handed over is uid 0 if its file belongs to root or the daemon's own user, and
-- lets in root alone by its mode; else this machine's, with an owner that is unknown.
abbrev pub entrance_handed : ℕ → Option SeenFile → Entrance
entrance_handed own None = OpenSocket
entrance_handed own (Some file) =
    if is_trusted own file.uid && lets_in_root_alone file.mode then RootSocket else OpenSocket
