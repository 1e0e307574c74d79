use Rattle.std.proofs.Common.{get_or, arith}
use Rattle.rb_xdr.proofs.Words.{length-number}
use Rattle.rb_rpc.proofs.Numbers.{put_more, room_more, pays_more}
use Rattle.rb_rpc.proofs.integers.put_numbers.Goals as goal

pub write-requires-clause-room : goal.write-requires-clause-room
write-requires-clause-room c = room_more c.args.out.now c.loop-number.out c.args.numbers.now c.loop-number.number-index _ c.loop-number-test.true c.loop-number.invariant.put c.loop-number.invariant.room

pub loop-number-preserved : goal.loop-number-preserved
loop-number-preserved c = record {
  put = put_more c.args.out.now c.loop-number.out c.write.new.out c.args.numbers.now c.loop-number.number-index c.loop-number-test.true c.loop-number.invariant.put c.write.ensures.written;
  room = c.loop-number.invariant.room;
  tie = c.loop-number.invariant.tie;
  paid = pays_more c.args.meter.now c.loop-number.meter c.write.new.meter _ _ _ c.loop-number.invariant.paid c.write.ensures.cost (omega (arith, length-number (get_or c.args.numbers.now c.loop-number.number-index 0)));
}
