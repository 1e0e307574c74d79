use Rattle.std.proofs.Common.{arith, sym, ◌∙◌}
use Rattle.rb_keep.proofs.Parts.{one-less, none-left, ends-there}
use Rattle.rb_keep.proofs.reading.whole_part.Goals.{then-feed-test+else-text-end-ne10, else-feed-test}
use Rattle.rb_keep.proofs.reading.whole_part.Goals as goal

pub feed-preserved : goal.feed-preserved
feed-preserved c =
    let some = c.feed-test.true in
    let within = c.feed.invariant.0 in
    (omega (arith, within), one-less c.args.text.now c.feed.end some within c.if-text-end-ne10.true ∙ c.feed.invariant.1)

pub returns : goal.returns
returns c =
    elim c.feed-test.branch [
      | then-feed-test+else-text-end-ne10 w ↦ sym (ends-there c.args.text.now c.feed.end w.feed-test.true c.feed.invariant.0 w.if-text-end-ne10.false) ∙ c.feed.invariant.1
      | else-feed-test w ↦ sym (none-left c.args.text.now c.feed.end w.feed-test.false) ∙ c.feed.invariant.1
    ]
