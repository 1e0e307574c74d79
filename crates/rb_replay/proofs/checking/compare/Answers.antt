use Rattle.std.proofs.Common.{rules, ◌==◌, arith, length}
use Rattle.std.proofs.lemmas.List.FromFn.{length-enumerate_from}
use Rattle.std.proofs.lemmas.Iterator.Consumers.{YieldsList-turn, YieldsList-end, YieldsList-at, YieldsList-from_enumerate}
use Rattle.std.proofs.lemmas.Iterator.Splits.{YieldsList-from_slice_split}
use Rattle.rb_model.specs.Plain.{outputs_of}
use Rattle.rb_lines.specs.Lines.{lines_of}
use Rattle.rb_lines.specs.OutputLines.{output_lines}
use Rattle.rb_lines.proofs.Reading.{IsAt-from_enumerate}
use Rattle.rb_replay.proofs.Comparing.{line_done, all_found, agrees, unlike, wrong_at, on_ok, if_err}
use Rattle.rb_replay.proofs.checking.compare.Goals as goal

pub loop-i-preserved : goal.loop-i-preserved
unfolding lines_of
loop-i-preserved c =
    let here = YieldsList-turn (YieldsList-at c.into_iter-i-iterator.ensures.into_iter_gives (YieldsList-from_enumerate (YieldsList-at c.enumerate-i-items.ensures.source (YieldsList-from_slice_split _ (λ b. b == 10) c.args.text.now c.split.ensures.rest c.split.ensures.done c.split.ensures.closure (λ x b q k. search rules))) c.enumerate-i-items.ensures.count)) c.loop-i.yielded _ c.loop-i.yielded_by _ _ (c.in-Some.i, c.in-Some.line) c.in-Some.is c.next.ensures.steps in
    record {
      few = c.in_default.ensures.few;
      agree = line_done (output_lines (outputs_of c.args.outputs.now)) c.loop-i.yielded (lines_of c.args.text.now) c.in-Some.i c.in-Some.line _ _
          (IsAt-from_enumerate (lines_of c.args.text.now) (length c.loop-i.yielded) c.in-Some.i c.in-Some.line.now here) c.in_default.ensures.ok c.loop-i.invariant.agree;
    }

pub returns-clause-ok : goal.returns-clause-ok
unfolding lines_of
returns-clause-ok c =
    let all = YieldsList-end (YieldsList-at c.into_iter-i-iterator.ensures.into_iter_gives (YieldsList-from_enumerate (YieldsList-at c.enumerate-i-items.ensures.source (YieldsList-from_slice_split _ (λ b. b == 10) c.args.text.now c.split.ensures.rest c.split.ensures.done c.split.ensures.closure (λ x b q k. search rules))) c.enumerate-i-items.ensures.count)) c.loop-i.yielded _ c.loop-i.yielded_by _ _ c.in-None.is c.next.ensures.steps in
    let found = all_found c.args.text.now c.args.outputs.now (length c.loop-i.yielded) c.loop-i.next (omega (arith, all.1, length-enumerate_from 0 (lines_of c.args.text.now))) c.loop-i.invariant.agree in
    on_ok _ _ c.end_of.result (λ done. agrees c.args.text.now c.args.outputs.now c.loop-i.next found c.loop-i.invariant.few done.0 done.1) c.end_of.ensures.ok

pub returns-clause-err : goal.returns-clause-err
unfolding lines_of
returns-clause-err c =
    let all = YieldsList-end (YieldsList-at c.into_iter-i-iterator.ensures.into_iter_gives (YieldsList-from_enumerate (YieldsList-at c.enumerate-i-items.ensures.source (YieldsList-from_slice_split _ (λ b. b == 10) c.args.text.now c.split.ensures.rest c.split.ensures.done c.split.ensures.closure (λ x b q k. search rules))) c.enumerate-i-items.ensures.count)) c.loop-i.yielded _ c.loop-i.yielded_by _ _ c.in-None.is c.next.ensures.steps in
    let found = all_found c.args.text.now c.args.outputs.now (length c.loop-i.yielded) c.loop-i.next (omega (arith, all.1, length-enumerate_from 0 (lines_of c.args.text.now))) c.loop-i.invariant.agree in
    if_err _ _ c.end_of.result (λ fault. unlike c.args.text.now c.args.outputs.now c.loop-i.next fault found c.loop-i.invariant.few) c.end_of.ensures.err

pub returns-in-Err-clause-err : goal.returns-in-Err-clause-err
unfolding lines_of
returns-in-Err-clause-err c =
    let here = YieldsList-turn (YieldsList-at c.into_iter-i-iterator.ensures.into_iter_gives (YieldsList-from_enumerate (YieldsList-at c.enumerate-i-items.ensures.source (YieldsList-from_slice_split _ (λ b. b == 10) c.args.text.now c.split.ensures.rest c.split.ensures.done c.split.ensures.closure (λ x b q k. search rules))) c.enumerate-i-items.ensures.count)) c.loop-i.yielded _ c.loop-i.yielded_by _ _ (c.in-Some.i, c.in-Some.line) c.in-Some.is c.next.ensures.steps in
    wrong_at c.args.text.now c.args.outputs.now (length c.loop-i.yielded) c.in-Some.i c.loop-i.next c.in-Some.line.now c.in-Err.fault
    (IsAt-from_enumerate (lines_of c.args.text.now) (length c.loop-i.yielded) c.in-Some.i c.in-Some.line.now here) c.loop-i.invariant.agree c.in-Err.ensures.err
