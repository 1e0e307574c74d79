use Rattle.std.proofs.Common.{rules, ◌==◌, arith, length}
use Rattle.std.proofs.lemmas.List.FromFn.{length-enumerate_from}
use Rattle.std.proofs.lemmas.Iterator.Consumers.{YieldsList-turn, YieldsList-end, YieldsList-at, YieldsList-from_enumerate}
use Rattle.std.proofs.lemmas.Iterator.Splits.{YieldsList-from_slice_split}
use Rattle.rb_lines.specs.Lines.{lines_of}
use Rattle.rb_lines.proofs.Reading.{IsAt-from_enumerate}
use Rattle.rb_keep.proofs.Turns.{turn, fault_at, ends}
use Rattle.rb_keep.proofs.reading.read_lines.Goals as goal

pub loop-i-preserved : goal.loop-i-preserved
unfolding lines_of
loop-i-preserved c =
    let here = YieldsList-turn (YieldsList-at c.into_iter-i-iterator.ensures.into_iter_gives (YieldsList-from_enumerate (YieldsList-at c.enumerate-i-items.ensures.source (YieldsList-from_slice_split _ (λ b. b == 10) c.args.text.now c.split.ensures.rest c.split.ensures.done c.split.ensures.closure (λ x b q k. search rules))) c.enumerate-i-items.ensures.count)) c.loop-i.yielded _ c.loop-i.yielded_by _ _ (c.in-Some.i, c.in-Some.line) c.in-Some.is c.next.ensures.steps in
    turn c.loop-i.rows.items c.take_line.new.rows.items c.loop-i.yielded (lines_of c.args.text.now) c.in-Some.i c.in-Some.line _
    (IsAt-from_enumerate (lines_of c.args.text.now) (length c.loop-i.yielded) c.in-Some.i c.in-Some.line.now here) c.in_default.ensures c.loop-i.invariant

pub returns : goal.returns
unfolding lines_of
returns c =
    let all = YieldsList-end (YieldsList-at c.into_iter-i-iterator.ensures.into_iter_gives (YieldsList-from_enumerate (YieldsList-at c.enumerate-i-items.ensures.source (YieldsList-from_slice_split _ (λ b. b == 10) c.args.text.now c.split.ensures.rest c.split.ensures.done c.split.ensures.closure (λ x b q k. search rules))) c.enumerate-i-items.ensures.count)) c.loop-i.yielded _ c.loop-i.yielded_by _ _ c.in-None.is c.next.ensures.steps in
    ends c.loop-i.rows.items (length c.loop-i.yielded) (lines_of c.args.text.now) _ (omega (arith, all.1, length-enumerate_from 0 (lines_of c.args.text.now))) c.loop-i.invariant

pub returns-in-Err : goal.returns-in-Err
unfolding lines_of
returns-in-Err c =
    let here = YieldsList-turn (YieldsList-at c.into_iter-i-iterator.ensures.into_iter_gives (YieldsList-from_enumerate (YieldsList-at c.enumerate-i-items.ensures.source (YieldsList-from_slice_split _ (λ b. b == 10) c.args.text.now c.split.ensures.rest c.split.ensures.done c.split.ensures.closure (λ x b q k. search rules))) c.enumerate-i-items.ensures.count)) c.loop-i.yielded _ c.loop-i.yielded_by _ _ (c.in-Some.i, c.in-Some.line) c.in-Some.is c.next.ensures.steps in
    fault_at c.loop-i.rows.items (length c.loop-i.yielded) c.in-Some.i (lines_of c.args.text.now) c.in-Some.line.now c.in-Err.fault _
    (IsAt-from_enumerate (lines_of c.args.text.now) (length c.loop-i.yielded) c.in-Some.i c.in-Some.line.now here) c.in-Err.ensures c.loop-i.invariant
