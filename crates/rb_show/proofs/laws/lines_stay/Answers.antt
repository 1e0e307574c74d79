use Rattle.rb_show.proofs.GrowingLines.{lines_stay}
use Rattle.rb_show.proofs.laws.lines_stay.Goals as goal

pub returns : goal.returns
returns c = lines_stay
