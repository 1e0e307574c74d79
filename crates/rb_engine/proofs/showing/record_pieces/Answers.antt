use Rattle.std.proofs.Common.{◌≡◌, List, ℕ, take, drop, min, length, sym, ap, subst, ◌∙◌}
use Rattle.std.proofs.lemmas.List.{take_min, drop_min}
use Rattle.std.specs.declared.slice.Chunks.{Chunks}
use Rattle.std.specs.Slice.Iter.{chunks_rest, chunks_size}
use Rattle.rb_model.specs.Connections.{longest_fragment}
use Rattle.rb_lines.specs.Tapes.{Records}
use Rattle.rb_engine.specs.Recording.{given_entries}
use Rattle.rb_engine.proofs.Pieces.{RecordsSome, records_first, records_next, records_all}
use Rattle.rb_engine.proofs.showing.record_pieces.Goals as goal

pub loop-piece-init : goal.loop-piece-init
unfolding longest_fragment
loop-piece-init c =
    let front : c.split_at.result.0.now ≡ take c.args.first c.args.given.now = c.split_at.ensures.front ∙ ap (λ (k : ℕ). take k c.args.given.now) c.min.ensures ∙ take_min c.args.first c.args.given.now in
    let back : c.split_at.result.1.now ≡ drop c.args.first c.args.given.now = c.split_at.ensures.back ∙ ap (λ (k : ℕ). drop k c.args.given.now) c.min.ensures ∙ drop_min c.args.first c.args.given.now in
    let left : drop c.args.first c.args.given.now ≡ chunks_rest c.into_iter-piece-iterator.result = sym back ∙ sym c.chunks-piece-items.ensures.rest ∙ ap (λ (s : Chunks ℕ). chunks_rest s) (sym c.into_iter-piece-iterator.ensures.into_iter_gives) in
    record {
      size = ap (λ (s : Chunks ℕ). chunks_size s) c.into_iter-piece-iterator.ensures.into_iter_gives ∙ c.chunks-piece-items.ensures.size;
      some = subst (λ (xs : List ℕ). RecordsSome c.args.now c.args.id c.args.first c.args.given.now xs c.args.tape.now c.record_given.new.tape) left
          (records_first c.args.now c.args.id c.args.first c.args.given.now c.args.tape.now c.record_given.new.tape c.requires.first c.requires.some
          (subst (λ (xs : List ℕ). Records (given_entries c.args.now c.args.id xs) c.args.tape.now c.record_given.new.tape) front c.record_given.ensures));
    }

pub loop-piece-preserved : goal.loop-piece-preserved
loop-piece-preserved c =
    let step = c.in-Some.ensures.steps in
    record {
      size = step.0 ∙ c.loop-piece.invariant.size;
      some = records_next c.args.now c.args.id c.args.first c.args.given.now (chunks_rest c.loop-piece.piece-iterator) c.in-Some.piece.now (chunks_rest c.next.new.self) c.args.tape.now c.loop-piece.tape c.record_given-in-loop-piece.new.tape
          c.loop-piece.invariant.some step.1.0 (step.1.1 ∙ ap (λ (k : ℕ). min k (length (chunks_rest c.loop-piece.piece-iterator))) c.loop-piece.invariant.size) step.1.2 c.record_given-in-loop-piece.ensures;
    }

pub returns : goal.returns
returns c =
    records_all c.args.now c.args.id c.args.first c.args.given.now (chunks_rest c.loop-piece.piece-iterator) c.args.tape.now c.loop-piece.tape c.loop-piece.invariant.some c.in-None.ensures.steps.1.0
