use Rattle.rb_plans.proofs.Versions.{each_is_called}
use Rattle.rb_plans.proofs.laws.courses_are_whole.Goals as goal

pub returns : goal.returns
returns c = each_is_called
