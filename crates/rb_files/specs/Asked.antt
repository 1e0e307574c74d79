-- Where the program of a kept row is asked, and what is known of it by what came.
use Rattle.std.specs.Prelude.{ℕ, ◌==◌, Bool, true, false, if◌then◌else◌, List, Option, Some, None, option_map, Result, Ok, Err}
use Rattle.std.specs.declared.io.Error.{Error}
use Rattle.std.specs.declared.io.ErrorKind.{ErrorKind}
use Rattle.std.specs.declared.io.ErrorKind.TheVariants as kinds
use Rattle.std.specs.IoError.{error_kind}
use Rattle.rb_address.specs.declared.host.Host.{Host}
use Rattle.rb_address.specs.declared.host.Host.TheVariants as hosts
use Rattle.rb_address.specs.declared.netid.Netid.{Netid}
use Rattle.rb_address.specs.declared.netid.Netid.TheVariants.{Tcp, Udp, Tcp6, Udp6, Local}
use Rattle.rb_address.specs.declared.netid.Transport.{Transport}
use Rattle.rb_address.specs.declared.netid.Transport.TheVariants as transports
use Rattle.rb_address.specs.Hosts.{plain_host}
use Rattle.rb_uaddr.specs.declared.address.Uaddr.{Uaddr}
use Rattle.rb_uaddr.specs.declared.address.Uaddr.TheVariants.{V4, V6}
use Rattle.rb_uaddr.specs.Uaddr.{parse_ipv4, parse_ipv6}
use Rattle.rb_registry.specs.declared.row.Row.{Row}
use Rattle.rb_policy.specs.Checked.{checked_at}
use Rattle.rb_files.specs.declared.target.Target.{Target}
use Rattle.rb_files.specs.declared.check.Found.{Found}
use Rattle.rb_files.specs.declared.check.Found.TheVariants.{NotKnown, Silent, NobodyThere, Answered}

-- ---- where

-- over this transport, at the host and the port of an address, if there is one and its host is asked
abbrev pub target_on : List Host → List Host → Transport → Host → ℕ → Option Target
target_on bound announced transport host port =
    option_map (λ at. record { transport = transport; host = at; port = port }) (checked_at bound announced (plain_host host))

abbrev pub target_at : List Host → List Host → Transport → Option Uaddr → Option Target
target_at bound announced transport None = None
target_at bound announced transport (Some (V4 octets port)) = target_on bound announced transport (hosts.V4 octets) port
target_at bound announced transport (Some (V6 octets port)) = target_on bound announced transport (hosts.V6 octets) port

abbrev pub target_by : List Host → List Host → Netid → List ℕ → Option Target
target_by bound announced Tcp addr = target_at bound announced transports.Tcp (parse_ipv4 addr)
target_by bound announced Udp addr = target_at bound announced transports.Udp (parse_ipv4 addr)
target_by bound announced Tcp6 addr = target_at bound announced transports.Tcp (parse_ipv6 addr)
target_by bound announced Udp6 addr = target_at bound announced transports.Udp (parse_ipv6 addr)
target_by bound announced Local addr = None

-- KEEPCHECK-1
abbrev pub target_of : List Host → List Host → Row → Option Target
target_of bound announced row = target_by bound announced row.netid row.addr

-- ---- what is known

-- by an error: that nobody listens, if the system says so; none if it says to wait
abbrev pub found_by : ErrorKind → Option Found
found_by kinds.ConnectionRefused = Some NobodyThere
found_by kinds.WouldBlock = None
found_by kinds.Interrupted = None
found_by _ = Some NotKnown

-- by how many bytes came, or by an error: nothing is known by an end
abbrev pub found_after : Result ℕ Error → Option Found
found_after (Ok count) = if count == 0 then Some NotKnown else Some Answered
found_after (Err error) = found_by (error_kind error)

-- whether the row is left out
-- KEEPCHECK-2
abbrev pub is_nobody : Found → Bool
is_nobody NotKnown = false
is_nobody Silent = true
is_nobody NobodyThere = true
is_nobody Answered = false
