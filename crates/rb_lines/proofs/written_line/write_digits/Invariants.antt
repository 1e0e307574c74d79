use Rattle.std.specs.Io.KnownBytes.{Appends}
use Rattle.std.proofs.Common.{ℕ, length, List, Option}
use Rattle.rb_lines.proofs.written_line.write_digits.Given as goal
use Rattle.hex.specs.Hex.{encode_lower}

-- what is written with the rest of the bytes is written with all of them
abbrev pub invariant-loop-rest : goal.invariant-loop-rest
invariant-loop-rest g l = (after : Option (List ℕ)) → Appends (g.W.Write.contents l.writer) after (encode_lower l.rest)
    → Appends (g.W.Write.contents l.fn.writer) after (encode_lower l.bytes)

abbrev pub decreases-loop-rest : goal.decreases-loop-rest
decreases-loop-rest g l = length l.rest
