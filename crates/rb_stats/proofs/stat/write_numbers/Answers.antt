use Rattle.std.proofs.Common.{[], arith, length-append}
use Rattle.rb_xdr.specs.Xdr.{number, words}
use Rattle.rb_stats.proofs.Writing.{item_fits}
use Rattle.rb_stats.proofs.stat.write_numbers.Goals as goal

pub write-requires-clause-room : goal.write-requires-clause-room
write-requires-clause-room c =
    item_fits number c.args.numbers.now c.loop-number.number-index c.args.out.now c.loop-number.out c.args.meter.now c.loop-number.meter c.loop-number.invariant 0 c.loop-number-test.true []
    (omega (arith, c.requires.room, length-append (words c.args.numbers.now) []))
