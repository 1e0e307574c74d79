use Rattle.std.proofs.Common.{arith, ◌∙◌, ◌-◌, sym}
use Rattle.rb_replay.proofs.Comparing.{at_feed, at_other, at_start}
use Rattle.rb_replay.proofs.checking.whole_len.Goals as goal

pub returns-then-text-len-eq10 : goal.returns-then-text-len-eq10
returns-then-text-len-eq10 c =
    at_feed c.args.text.now (c.loop-len.len - 1) c.loop-len.len (omega (arith, c.loop-len-test.true)) c.if-text-len-eq10.true ∙ sym c.loop-len.invariant.same

pub loop-len-preserved : goal.loop-len-preserved
loop-len-preserved c = record {
  within = omega (arith, c.loop-len.invariant.within);
  same = c.loop-len.invariant.same ∙ at_other c.args.text.now (c.loop-len.len - 1) c.loop-len.len (omega (arith, c.loop-len-test.true)) c.if-text-len-eq10.false;
}

pub returns : goal.returns
returns c = at_start c.args.text.now c.loop-len.len (omega (arith, c.loop-len-test.false)) ∙ sym c.loop-len.invariant.same
