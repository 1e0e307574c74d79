use Rattle.rb_evidence.proofs.WalkLaws.{cut_lines_are_one, walks_see_the_whole}
use Rattle.rb_evidence.proofs.laws.walk_laws.Goals as goal

pub returns-clause-lines : goal.returns-clause-lines
returns-clause-lines c = cut_lines_are_one

pub returns-clause-whole : goal.returns-clause-whole
returns-clause-whole c = walks_see_the_whole
