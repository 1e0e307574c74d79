use Rattle.std.proofs.Common.{length, List, false, arith, ap, length-append}
use Rattle.std.specs.List.{flat_map}
use Rattle.std.proofs.lemmas.List.{take_all}
use Rattle.rb_xdr.specs.Xdr.{boolean, linked_list}
use Rattle.rb_stats.specs.declared.item.Item.{Item}
use Rattle.rb_stats.specs.Statistics.{item_spelling}
use Rattle.rb_stats.proofs.Writing.{behind_true}
use Rattle.rb_stats.proofs.Sizes.{blank, length-false, listed_more}
use Rattle.rb_stats.proofs.stat.list_size.Goals as goal

pub loop-item-preserved : goal.loop-item-preserved
loop-item-preserved c =
    let more = listed_more c.args.items.now c.loop-item.item-index blank c.loop-item-test.true in
    record {
      size = omega (arith, c.loop-item.invariant.size, c.size.ensures.size, more);
      most = omega (arith, c.loop-item.invariant.most, c.size.ensures.most);
    }

pub returns-clause-size : goal.returns-clause-size
unfolding linked_list
returns-clause-size c =
    let all = take_all c.loop-item.item-index c.args.items.now c.loop-item-test.false in
    omega (
      arith,
      c.loop-item.invariant.size,
      ap (λ (items : List Item). length (flat_map (behind_true item_spelling) items)) all,
      length-append (flat_map (behind_true item_spelling) c.args.items.now) (boolean false),
      length-false,
    )
