use Rattle.std.proofs.Common.{length, get_or, true, false, ap, arith, length-append}
use Rattle.rb_xdr.specs.Xdr.{boolean, linked_list}
use Rattle.rb_xdr.specs.Kept.{Kept}
use Rattle.rb_stats.specs.Statistics.{item_spelling}
use Rattle.rb_stats.proofs.Writing.{behind_true, item_fits}
use Rattle.rb_stats.proofs.Sizes.{blank}
use Rattle.rb_stats.proofs.stat.write_list.Goals as goal

pub write-requires-clause-room : goal.write-requires-clause-room
unfolding linked_list
write-requires-clause-room c =
    let fits = item_fits (behind_true item_spelling) c.args.items.now c.loop-item.item-index c.args.out.now c.loop-item.out c.args.meter.now c.loop-item.meter c.loop-item.invariant blank c.loop-item-test.true (boolean false) c.requires.room in
    omega (arith, fits, length-append (boolean true) (item_spelling (get_or c.args.items.now c.loop-item.item-index blank)))

pub write-requires-in-loop-item-clause-room : goal.write-requires-in-loop-item-clause-room
unfolding linked_list
write-requires-in-loop-item-clause-room c =
    let fits = item_fits (behind_true item_spelling) c.args.items.now c.loop-item.item-index c.args.out.now c.loop-item.out c.args.meter.now c.loop-item.meter c.loop-item.invariant blank c.loop-item-test.true (boolean false) c.requires.room in
    let bytes = ap (λ (k : Kept). length k.bytes) c.write.ensures.written in
    let cap = ap (λ (k : Kept). k.cap) c.write.ensures.written in
    omega (arith, fits, bytes, cap, length-append c.loop-item.out.bytes (boolean true), length-append (boolean true) (item_spelling (get_or c.args.items.now c.loop-item.item-index blank)))
