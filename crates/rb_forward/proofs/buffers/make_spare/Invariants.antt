use Rattle.std.proofs.Common.{◌≡◌, ◌*◌, length}
use Rattle.std.specs.Prelude.{All}
use Rattle.std.specs.Map.{values_of}
use Rattle.rb_xdr.specs.Pool.{HasDistinctKeys}
use Rattle.rb_xdr.specs.Meter.{PaysAtMost}
use Rattle.rb_forward.specs.Table.{IsSpare}
use Rattle.rb_forward.proofs.buffers.make_spare.Given as goal

abbrev pub invariant-loop-i : goal.invariant-loop-i
invariant-loop-i l = record {
  distinct : HasDistinctKeys l.spare.entries;
  count : length l.spare.entries ≡ l._i;
  cap : l.spare.cap ≡ l.cap;
  tie : l.spare.tie ≡ l.fn.meter.tie;
  buffers : All (IsSpare l.fn.meter.tie) (values_of l.spare.entries);
  cost : PaysAtMost l.fn.meter l.meter (2 * l._i);
}
