use Rattle.std.proofs.Common.{◌≡◌, ◌+◌, drop, length}
use Rattle.rb_model.specs.Plain.{events_of}
use Rattle.rb_lines.specs.Lines.{events_from, lines_of, with_front}
use Rattle.rb_lines.proofs.lines.read_lines.Given as goal

abbrev pub invariant-loop-i : goal.invariant-loop-i
invariant-loop-i l = with_front (events_of l.events.items) (events_from (length l.yielded + 1) (drop (length l.yielded) (lines_of l.text))) ≡ events_from 1 (lines_of l.text)
