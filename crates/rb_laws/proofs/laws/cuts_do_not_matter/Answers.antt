use Rattle.rb_laws.proofs.Cuts.{cut}
use Rattle.rb_laws.proofs.laws.cuts_do_not_matter.Goals as goal

pub returns : goal.returns
returns c = cut
