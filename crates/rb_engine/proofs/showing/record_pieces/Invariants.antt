use Rattle.std.proofs.Common.{◌≡◌}
use Rattle.std.specs.Slice.Iter.{chunks_rest, chunks_size}
use Rattle.rb_model.specs.Connections.{longest_fragment}
use Rattle.rb_engine.proofs.Pieces.{RecordsSome}
use Rattle.rb_engine.proofs.showing.record_pieces.Given as goal

abbrev pub invariant-loop-piece : goal.invariant-loop-piece
invariant-loop-piece l = record {
  size : chunks_size l.piece-iterator ≡ longest_fragment;
  some : RecordsSome l.now l.id l.first l.given (chunks_rest l.piece-iterator) l.fn.tape l.tape;
}
