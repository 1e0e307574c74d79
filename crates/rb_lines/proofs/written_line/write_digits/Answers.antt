use Rattle.std.proofs.Common.{◌≡◌}
use Rattle.rb_lines.proofs.Digits.{piece_more, nothing_left}
use Rattle.rb_lines.proofs.written_line.write_digits.Goals as goal
use Rattle.hex.specs.Hex.{encode_lower}

pub loop-rest-preserved : goal.loop-rest-preserved
loop-rest-preserved g c = λ after tail.
    let text : c.encode_to_slice.new.output ≡ encode_lower c.split_at.result.0.now = rw c.unwrap.ensures at c.encode_to_slice.ensures.written in
    c.loop-rest.invariant after
    (piece_more _ _ after c.min.result c.loop-rest.rest.now c.encode_to_slice.new.output (rw c.split_at.ensures.front at text) c.in_ok-write_all.ensures.bytes
    (rw c.split_at.ensures.back at tail))

pub returns : goal.returns
returns g c = c.loop-rest.invariant _ (nothing_left _ c.loop-rest.rest.now c.loop-rest-test.ensures)
