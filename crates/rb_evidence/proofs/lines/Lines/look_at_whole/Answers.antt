use Rattle.rb_evidence.proofs.WalkLaws.{one_passed}
use Rattle.rb_evidence.proofs.lines.Lines.look_at_whole.Goals as goal

pub lines-preserved : goal.lines-preserved
lines-preserved c =
    let (line, cut, seen) = c.look_at_next.ensures.yes c.lines-test.true in
    one_passed _ _ _ line _ _ _ c.lines.invariant cut seen
