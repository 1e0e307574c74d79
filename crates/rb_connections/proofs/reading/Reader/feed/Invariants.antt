use Rattle.std.proofs.Common.{◌≤◌, ◌-◌, ◌+◌, length, take}
use Rattle.rb_xdr.specs.Meter.{PaysAtMost}
use Rattle.rb_connections.proofs.Feeding.{IsBehind}
use Rattle.rb_connections.proofs.reading.Reader.feed.Given as goal

abbrev pub invariant-runs : goal.invariant-runs
invariant-runs l = record {
  within : l.count ≤ length l.piece;
  behind : IsBehind l.fn.self l.fn.kept l.self.marks l.intake l.kept (take l.count l.piece);
  paid : PaysAtMost l.fn.meter l.meter (l.count + 1);
}

abbrev pub decreases-runs : goal.decreases-runs
decreases-runs l = length l.piece - l.count
