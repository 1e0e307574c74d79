use Rattle.rb_plans.specs.Ending.{fault_line, detail_line}
use Rattle.rb_plans.proofs.Written.{both}
use Rattle.rb_plans.proofs.ending.write_fault.Goals as goal

pub returns : goal.returns
returns g c = both c.write_detail.result _ (g.E.Write.contents c.write_line.new.faults) _ (fault_line c.args.fault) (detail_line c.args.fault) c.in_ok-write_line.ensures c.write_detail.ensures
