use Rattle.rb_laws.proofs.Ledgers.{ledgers_are_well_kept}
use Rattle.rb_laws.proofs.laws.ledgers_are_well_kept.Goals as goal

pub returns : goal.returns
returns c = ledgers_are_well_kept
