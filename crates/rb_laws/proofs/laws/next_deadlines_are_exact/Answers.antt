use Rattle.rb_laws.proofs.NextDeadlines.{next_deadlines_are_exact}
use Rattle.rb_laws.proofs.laws.next_deadlines_are_exact.Goals as goal

pub returns : goal.returns
returns c = next_deadlines_are_exact
