use Rattle.rb_plans.specs.Ending.{answered_line, old_line}
use Rattle.rb_plans.proofs.Written.{both}
use Rattle.rb_plans.proofs.ending.write_notices.Goals as goal

pub returns-clause-said : goal.returns-clause-said
returns-clause-said g c = both c.write_old.result _ (g.E.Write.contents c.write_answered.new.faults) _ (answered_line c.args.notices.answered) (old_line c.args.notices.is_old) c.in_ok-write_answered.ensures.said c.write_old.ensures.said
