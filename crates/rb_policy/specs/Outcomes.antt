-- What came of a socket call, and what is done next.
use Rattle.std.specs.Prelude.{ℕ, ℤ, pos, Option, Some, Result, Ok, Err, Bool, true, false, ◌||◌, ◌==◌, if◌then◌else◌}
use Rattle.std.specs.declared.io.ErrorKind.{ErrorKind}
use Rattle.std.specs.declared.io.ErrorKind.TheVariants as kinds
use Rattle.std.specs.declared.io.Error.{Error}
use Rattle.std.specs.IoError.{error_kind, raw_os_error}
use Rattle.rb_policy.specs.declared.outcome.SocketResult.{SocketResult}
use Rattle.rb_policy.specs.declared.outcome.SocketResult.TheVariants.{Done, Ended, WouldBlock, Interrupted, PeerFailed, NoRoom, Failed}
use Rattle.rb_policy.specs.declared.outcome.Next.{Next}
use Rattle.rb_policy.specs.declared.outcome.Next.TheVariants.{GoOn, AwaitEvent, AwaitTurn, Close}

-- what is done after an accept (accept(2))
-- ACCEPT-1: After an accept comes the next. If no connection waits, an event shows when one does;
-- if no descriptor or memory is left, or the listener fails, what waits stays, and each turn tries
-- again after its wait.
abbrev pub after_accept : SocketResult → Next
after_accept Done = GoOn
after_accept Ended = GoOn
after_accept WouldBlock = AwaitEvent
after_accept Interrupted = GoOn
after_accept PeerFailed = GoOn
after_accept NoRoom = AwaitTurn
after_accept Failed = AwaitTurn

-- READ-1: A read that finds the end of what a peer sends closes its connection, but not while that
-- waits for a forwarded call.
abbrev pub after_read : SocketResult → Bool → Next
after_read Done waits = GoOn
after_read Ended true = AwaitEvent
after_read Ended false = Close
after_read WouldBlock waits = AwaitEvent
after_read Interrupted waits = GoOn
after_read PeerFailed waits = Close
after_read NoRoom waits = Close
after_read Failed waits = Close

-- what is done after a write to a connection
-- WRITE-1: A write that takes nothing, or a fault of a connection, closes it.
abbrev pub after_write : SocketResult → Next
after_write Done = GoOn
after_write Ended = Close
after_write WouldBlock = AwaitEvent
after_write Interrupted = GoOn
after_write PeerFailed = Close
after_write NoRoom = Close
after_write Failed = Close

-- RECEIVE-1: A receive that fails loses one datagram.
abbrev pub after_receive : SocketResult → Next
after_receive Done = GoOn
after_receive Ended = GoOn
after_receive WouldBlock = AwaitEvent
after_receive Interrupted = GoOn
after_receive PeerFailed = GoOn
after_receive NoRoom = GoOn
after_receive Failed = GoOn

-- what an error of Linux means that has no kind of its own in std: EMFILE, ENFILE and ENOBUFS mean lack of room, and
-- ENONET, EPROTO, ENOPROTOOPT and EHOSTDOWN are told by accept(2) of one connection
abbrev pub outcome_of_number : Option ℤ → SocketResult
outcome_of_number (Some (pos n)) =
    if n == 24 || n == 23 || n == 105 then NoRoom
    else (if n == 64 || n == 71 || n == 92 || n == 112 then PeerFailed else Failed)
outcome_of_number _ = Failed

-- what an error means, by its kind, and else by its number
-- ACCEPT-2: EMFILE, ENFILE, ENOBUFS and ENOMEM are lack of room; errors of the network that
-- accept(2) reports are one connection's; every other error is the listener's.
abbrev pub outcome_of : ErrorKind → Option ℤ → SocketResult
outcome_of kinds.WouldBlock number = WouldBlock
outcome_of kinds.Interrupted number = Interrupted
outcome_of kinds.OutOfMemory number = NoRoom
outcome_of kinds.ConnectionAborted number = PeerFailed
outcome_of kinds.ConnectionReset number = PeerFailed
outcome_of kinds.TimedOut number = PeerFailed
outcome_of kinds.NetworkDown number = PeerFailed
outcome_of kinds.NetworkUnreachable number = PeerFailed
outcome_of kinds.HostUnreachable number = PeerFailed
outcome_of kinds.PermissionDenied number = PeerFailed
outcome_of kinds.Unsupported number = PeerFailed
outcome_of _ number = outcome_of_number number

-- what came of a read or a write: a count of 0 is an end
abbrev pub outcome_of_count : Result ℕ Error → SocketResult
outcome_of_count (Ok n) = if n == 0 then Ended else Done
outcome_of_count (Err error) = outcome_of (error_kind error) (raw_os_error error)
