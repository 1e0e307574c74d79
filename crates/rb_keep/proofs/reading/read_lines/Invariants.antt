use Rattle.std.proofs.Common.{◌≡◌, ◌+◌, [], drop, length, Ok}
use Rattle.rb_lines.specs.Lines.{lines_of}
use Rattle.rb_keep.specs.Reading.{rows_from}
use Rattle.rb_keep.proofs.reading.read_lines.Given as goal

abbrev pub invariant-loop-i : goal.invariant-loop-i
invariant-loop-i l = rows_from (length l.yielded + 1) (drop (length l.yielded) (lines_of l.text)) (Ok l.rows.items) ≡ rows_from 1 (lines_of l.text) (Ok [])
