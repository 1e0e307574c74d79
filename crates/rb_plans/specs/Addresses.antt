-- The addresses of a host: which are asked, and what is said of them.
use Rattle.std.specs.Prelude.{ℕ, nat_lt, Bool, true, false, ◌&&◌, if◌then◌else◌, List, [], ◌∷◌, codes, Option, Some, None, Result, Err}
use Rattle.std.specs.Str.{bytes_eq}
use Rattle.std.specs.declared.net.ip_addr.IpAddr.{IpAddr}
use Rattle.std.specs.Net.Addr.{is_ipv4, is_ipv6}
use Rattle.rb_address.specs.declared.host.Family.{Family}
use Rattle.rb_address.specs.declared.host.Family.TheVariants.{Inet, Inet6}
use Rattle.rb_address.specs.Netids.{family_of_netid}
use Rattle.rb_words.specs.declared.plan.Way.{Way}
use Rattle.rb_words.specs.declared.plan.Way.TheVariants as ways
use Rattle.rb_show.specs.declared.fault.InfoFault.TheVariants.{Memory}
use Rattle.rb_show.specs.declared.show.Shown.{Shown}
use Rattle.rb_plans.specs.declared.ending.Notices.{Notices}
use Rattle.rb_plans.specs.declared.fault.Fault.{Fault}
use Rattle.rb_plans.specs.declared.fault.Fault.TheVariants.{Info, NoConnection, NoSocket, NoReply, NoHost, NoAddress, TooManyRoutes}

-- the family of the addresses that are asked where a program is; none if every address is asked
-- ADDRESS-1: Of a netid of one family the addresses of that family are asked; a host that has only
-- others has no address of the netid.
abbrev pub family_of : Way → Option Family
family_of (ways.Getaddr netid) = family_of_netid netid
family_of (ways.Getport transport) = None
family_of (ways.Port transport port) = None
family_of (ways.Address netid address) = None

-- an address is asked if those of its family are, or if every address is
-- ADDRESS-1
abbrev pub is_asked : Option Family → IpAddr → Bool
is_asked (Some Inet) ip = is_ipv4 ip
is_asked (Some Inet6) ip = is_ipv6 ip
is_asked None ip = true

-- why none of this many addresses of a host is asked: it has none, or none of the family
-- ADDRESS-1
abbrev pub none_asked : Option Family → ℕ → Fault
none_asked (Some family) count = if nat_lt 0 count then NoAddress family else NoHost
none_asked None count = NoHost

-- the path at which rpcbinds listen
abbrev pub default_path : List ℕ
default_path = codes "/run/rpcbind.sock"

-- nobody was at a socket
abbrev pub is_no_socket : Result Shown Fault → Bool
is_no_socket (Err NoSocket) = true
is_no_socket answer = false

-- 127.0.0.1 is asked in place of the socket of this path, which gave this
-- ADDRESS-3: 127.0.0.1 is asked in place of /run/rpcbind.sock alone, if nobody is there.
abbrev pub falls_back : List ℕ → Result Shown Fault → Bool
falls_back path answer = bytes_eq path default_path && is_no_socket answer

-- ADDRESS-2: The next address of a host is asked if nobody answered, but for COURSE-10.
abbrev pub is_unanswered : Result Shown Fault → Bool
is_unanswered (Err NoConnection) = true
is_unanswered (Err NoSocket) = true
is_unanswered (Err NoReply) = true
is_unanswered answer = false

-- The addresses of a host that are asked, if each gives this: all up to the first that answers.
abbrev pub asked_of : (IpAddr → Result Shown Fault) → List IpAddr → List IpAddr
asked_of gives [] = []
asked_of gives (address ∷ more) = address ∷ (if is_unanswered (gives address) then asked_of gives more else [])

-- somebody answered; if memory was refused, that is not known
-- ADDRESS-4
abbrev pub has_answered : Result Shown Fault → Bool
has_answered (Err NoConnection) = false
has_answered (Err NoSocket) = false
has_answered (Err NoReply) = false
has_answered (Err NoHost) = false
has_answered (Err (NoAddress family)) = false
has_answered (Err TooManyRoutes) = false
has_answered (Err (Info Memory)) = false
has_answered answer = true

-- ADDRESS-4: An address is said to have answered if it is one of several and did.
abbrev pub answered_at : IpAddr → ℕ → Result Shown Fault → Option IpAddr
answered_at address count answer = if nat_lt 1 count && has_answered answer then Some address else None

abbrev pub notices_at : IpAddr → ℕ → Result Shown Fault → Bool → Notices
notices_at address count answer is_old = record { answered = answered_at address count answer; is_old = is_old }
