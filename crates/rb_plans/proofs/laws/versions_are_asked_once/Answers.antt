use Rattle.rb_plans.proofs.Several.{several_stay, faults_are_last, ends_are_last}
use Rattle.rb_plans.proofs.laws.versions_are_asked_once.Goals as goal

pub returns : goal.returns
returns c = record { stay = several_stay; faults = faults_are_last; ends = ends_are_last }
