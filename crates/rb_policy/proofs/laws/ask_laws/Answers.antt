use Rattle.rb_policy.proofs.AskLaws.{changes_wait, parts_are_not_whole}
use Rattle.rb_policy.proofs.ShareLaws.{slices_are_a_quarter}
use Rattle.rb_policy.proofs.laws.ask_laws.Goals as goal

pub returns-clause-wait : goal.returns-clause-wait
returns-clause-wait c = changes_wait

pub returns-clause-parts : goal.returns-clause-parts
returns-clause-parts c = parts_are_not_whole

pub returns-clause-quarter : goal.returns-clause-quarter
returns-clause-quarter c = slices_are_a_quarter
