use Rattle.rb_laws.proofs.Refusals.{kept}
use Rattle.rb_laws.proofs.laws.refused_events_change_nothing.Goals as goal

pub returns : goal.returns
returns c = kept
