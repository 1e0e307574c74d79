use Rattle.rb_promises.proofs.PieceEnds.{pieces_end_at_records}
use Rattle.rb_promises.proofs.pieces.pieces_end_at_records.Goals as goal

pub returns : goal.returns
returns c = pieces_end_at_records
