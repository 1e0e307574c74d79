use Rattle.std.proofs.Common.{◌≡◌, ◌+◌, ◌*◌, ◌≤◌, ◌++◌, length, take}
use Rattle.rb_xdr.specs.Meter.{Pays}
use Rattle.rb_xdr.specs.Xdr.{words}
use Rattle.rb_rpc.proofs.integers.put_numbers.Given as goal

-- the numbers so far are put, and paid for
abbrev pub invariant-loop-number : goal.invariant-loop-number
invariant-loop-number l = record {
  put : l.out ≡ record l.fn.out { bytes = l.fn.out.bytes ++ words (take l.number-index l.numbers) };
  room : length l.fn.out.bytes + 4 * length l.numbers ≤ l.fn.out.cap;
  tie : l.fn.meter.tie ≡ l.fn.out.tie;
  paid : Pays l.fn.meter l.meter (1 + 4 * l.number-index);
}
