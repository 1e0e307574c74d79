use Rattle.std.specs.Prelude.{All}
use Rattle.std.specs.Map.{values_of}
use Rattle.std.proofs.Common.{◌≡◌, ◌*◌, length}
use Rattle.rb_xdr.specs.Pool.{HasDistinctKeys}
use Rattle.rb_xdr.specs.Meter.{PaysAtMost}
use Rattle.rb_connections.specs.Slots.{AreSpare}
use Rattle.rb_connections.proofs.connections.make_spare.Given as goal

abbrev pub invariant-loop-i : goal.invariant-loop-i
invariant-loop-i l = record {
  distinct : HasDistinctKeys l.spare.entries;
  count : length l.spare.entries ≡ l._i;
  cap : l.spare.cap ≡ l.conns;
  tie : l.spare.tie ≡ l.fn.meter.tie;
  buffers : All (AreSpare l.fn.meter.tie) (values_of l.spare.entries);
  cost : PaysAtMost l.fn.meter l.meter (3 * l._i);
}
