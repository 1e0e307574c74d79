use Rattle.std.proofs.Common.{rules}
use Rattle.std.proofs.KnownBytes.{Appends-trans}
use Rattle.rb_plans.specs.Ending.{notice_lines, answer_lines}
use Rattle.rb_plans.proofs.ending.conclude.Goals as goal

pub returns-clause-ends : goal.returns-clause-ends
returns-clause-ends g c = record {
  status = search rules;
  said = λ told.
      Appends-trans _ (g.E.Write.contents c.is_noticed-is_noticed.new.faults) _ (notice_lines c.args.notices) (answer_lines c.args.answer)
      (c.is_noticed-is_noticed.ensures.said (c.behind.ensures.noticed told)) (c.end_answer-ending.ensures.said (c.behind.ensures.told told));
}
