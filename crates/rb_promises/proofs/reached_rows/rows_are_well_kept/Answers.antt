use Rattle.rb_promises.proofs.KeptWell.{rows_are_well_kept}
use Rattle.rb_promises.proofs.reached_rows.rows_are_well_kept.Goals as goal

pub returns : goal.returns
returns c = rows_are_well_kept
