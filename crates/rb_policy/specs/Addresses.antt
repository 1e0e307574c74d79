-- The hosts that the daemon is given, which of them it binds, and what it announces and forwards from.
use Rattle.std.specs.Prelude.{ℕ, ◌==◌, if◌then◌else◌, Bool, true, false, not, ◌&&◌, ◌||◌, List, [], ◌∷◌, Option, Some, None}
use Rattle.std.specs.List.{list_any}
use Rattle.rb_address.specs.declared.host.Host.{Host}
use Rattle.rb_address.specs.declared.host.Host.TheVariants.{V4, V6}
use Rattle.rb_address.specs.Hosts.{is_any, is_same_host}

-- 0.0.0.0, which is every host of IPv4
abbrev pub every_inet : List ℕ
every_inet = 0 ∷ 0 ∷ 0 ∷ 0 ∷ []

-- 127.0.0.1
abbrev pub loopback : List ℕ
loopback = 127 ∷ 0 ∷ 0 ∷ 1 ∷ []

-- ::1
abbrev pub loopback6 : List ℕ
loopback6 = 0 ∷ 0 ∷ 0 ∷ 0 ∷ 0 ∷ 0 ∷ 0 ∷ 0 ∷ 0 ∷ 0 ∷ 0 ∷ 0 ∷ 0 ∷ 0 ∷ 0 ∷ 1 ∷ []

-- ---- which of them are bound

abbrev pub is_any6 : Host → Bool
is_any6 (V4 octets) = false
is_any6 (V6 octets) = is_any (V6 octets)

abbrev pub is_same : Host → Host → Bool
is_same a b = is_same_host a b

abbrev pub has_host : Host → List Host → Bool
has_host wanted hosts = list_any (λ host. is_same host wanted) hosts

-- BIND-1: `::` is every host of both families: it gets sockets of IPv6 alone, and 0.0.0.0 is bound beside it.
abbrev pub has_every_host : List Host → Bool
has_every_host hosts = list_any is_any6 hosts

-- BIND-1
abbrev pub binds_every_inet : List Host → Bool
binds_every_inet hosts = has_every_host hosts && not (has_host (V4 every_inet) hosts)

-- BIND-4: Beside 0.0.0.0 there is a UDP socket at 127.0.0.1, and beside `::` one at ::1 too.
abbrev pub has_every_inet : List Host → Bool
has_every_inet hosts = has_every_host hosts || has_host (V4 every_inet) hosts

-- BIND-2: `--loopback6` also binds `::1`, unless it is given already, or `::` is.
abbrev pub binds_loopback6 : List Host → Bool → Bool
binds_loopback6 hosts wanted = wanted && not (has_every_host hosts) && not (has_host (V6 loopback6) hosts)

-- ---- the first of each family

abbrev pub first_inet : List Host → Option (List ℕ)
first_inet [] = None
first_inet (V4 octets ∷ rest) = Some octets
first_inet (V6 octets ∷ rest) = first_inet rest

abbrev pub first_inet6 : List Host → Option (List ℕ)
first_inet6 [] = None
first_inet6 (V4 octets ∷ rest) = first_inet6 rest
first_inet6 (V6 octets ∷ rest) = Some octets

-- what a family has, or else this, if that is needed
abbrev pub or_else : Option (List ℕ) → Bool → List ℕ → Option (List ℕ)
or_else (Some first) wanted octets = Some first
or_else None true octets = Some octets
or_else None false octets = None

-- the first host of IPv4, or 0.0.0.0 if :: is bound
abbrev pub served_inet : List Host → Option (List ℕ)
served_inet hosts = or_else (first_inet hosts) (has_every_host hosts) every_inet

-- the first host of IPv6, or ::1 if that is asked for
abbrev pub served_inet6 : List Host → Bool → Option (List ℕ)
served_inet6 hosts wanted = or_else (first_inet6 hosts) wanted loopback6

-- ---- what is announced, and forwarded from

-- of a family that is served the host that is given, or else its first
abbrev pub announced_for : Option (List ℕ) → Option (List ℕ) → Option (List ℕ)
announced_for None given = None
announced_for (Some first) None = Some first
announced_for (Some first) (Some given) = Some given

-- ANNOUNCE-1: A family is served if a host of it is listened on, and both are if `::` is. What is
-- announced of one that is served is the host that is given, or the first that is listened on; of
-- another one nothing.
abbrev pub announced_inet : Option (List ℕ) → List Host → Option (List ℕ)
announced_inet given hosts = announced_for (served_inet hosts) given

-- ANNOUNCE-1
abbrev pub announced_inet6 : Option (List ℕ) → List Host → Bool → Option (List ℕ)
announced_inet6 given hosts wanted = announced_for (served_inet6 hosts wanted) given

abbrev pub inet_or_loopback : Option (List ℕ) → Host
inet_or_loopback (Some octets) = V4 octets
inet_or_loopback None = V4 loopback

-- BIND-3: Calls are forwarded to a target from the first host of its family that is listened on; to
-- one of IPv4 from 127.0.0.1 if there is none. With `--forwards 0` no socket is opened for them.
abbrev pub forwards_inet : List Host → ℕ → Option Host
forwards_inet hosts most = if most == 0 then None else Some (inet_or_loopback (served_inet hosts))

abbrev pub inet6_host : Option (List ℕ) → Option Host
inet6_host (Some octets) = Some (V6 octets)
inet6_host None = None

-- BIND-3
abbrev pub forwards_inet6 : List Host → Bool → ℕ → Option Host
forwards_inet6 hosts wanted most = if most == 0 then None else inet6_host (served_inet6 hosts wanted)
