-- What an error of the system means, by its kind.
use Rattle.std.specs.Prelude.{ℕ, ◌≡◌, Bool, true, false, List}
use Rattle.std.specs.Str.{bytes_eq}
use Rattle.std.specs.declared.io.ErrorKind.{ErrorKind}
use Rattle.std.specs.declared.io.ErrorKind.TheVariants as kinds
use Rattle.rb_show.specs.declared.fault.InfoFault.TheVariants.{Memory}
use Rattle.rb_plans.specs.declared.fault.Fault.{Fault}
use Rattle.rb_plans.specs.declared.fault.Fault.TheVariants.{Info, NoConnection, NoSocket, NoReply, NoHost}
use Rattle.rb_plans.specs.Addresses.{default_path}

-- UNANSWERED-4: A call is made in memory; that it is not made says that memory was refused.
abbrev pub IsWantOfMemory : Fault → Type 0
IsWantOfMemory fault = fault ≡ Info Memory

-- UNANSWERED-1: A look-up that was refused memory says so, and any other that gives no address that
-- there is no such host.
abbrev pub look_up_fault : ErrorKind → Fault
look_up_fault kinds.OutOfMemory = Info Memory
look_up_fault kind = NoHost

-- there is no connection to a host
-- UNANSWERED-3
abbrev pub host_fault : ErrorKind → Fault
host_fault kinds.OutOfMemory = Info Memory
host_fault kind = NoConnection

-- a socket that may not be opened: the one at which rpcbinds listen counts as absent
abbrev pub closed_fault : Bool → Fault
closed_fault true = NoSocket
closed_fault false = NoConnection

-- UNANSWERED-2: Nobody is at a socket if no file is at its path, if nobody listens on it, or if it is
-- /run/rpcbind.sock and may not be opened; any other that may not be opened is another fault.
abbrev pub socket_fault : List ℕ → ErrorKind → Fault
socket_fault path kinds.NotFound = NoSocket
socket_fault path kinds.ConnectionRefused = NoSocket
socket_fault path kinds.PermissionDenied = closed_fault (bytes_eq path default_path)
socket_fault path kind = host_fault kind

-- no byte of a reply came; that nobody listens may be the answer to a datagram
-- UNANSWERED-3: If a host is not connected or sends no byte of a reply, nobody answered, unless
-- memory was refused.
abbrev pub reply_fault : ErrorKind → Fault
reply_fault kinds.ConnectionRefused = NoConnection
reply_fault kinds.OutOfMemory = Info Memory
reply_fault kind = NoReply
