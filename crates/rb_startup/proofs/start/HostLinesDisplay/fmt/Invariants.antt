-- What was written so far are the lines of the hosts so far.
use Rattle.std.proofs.Common.{take}
use Rattle.std.specs.Fmt.{HasWritten, IsPlainFormatter}
use Rattle.std.specs.List.{flat_map}
use Rattle.rb_startup.specs.Starts.{host_line}
use Rattle.rb_startup.proofs.start.HostLinesDisplay.fmt.Given as goal

abbrev pub invariant-loop-host : goal.invariant-loop-host
invariant-loop-host g l =
    IsPlainFormatter l.initial.f
    → HasWritten g.W.Write.write_str_gives l.initial.f (flat_map (host_line l.port) (take l.host-index l.hosts)) l.f
