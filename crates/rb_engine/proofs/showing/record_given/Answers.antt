use Rattle.std.proofs.Common.{[], ◌∷◌}
use Rattle.rb_lines.proofs.Tapes.{records_more}
use Rattle.rb_engine.proofs.showing.record_given.Goals as goal

pub returns : goal.returns
returns c = records_more (_ ∷ []) (_ ∷ []) _ _ _ c.«record».ensures c.record-2.ensures
