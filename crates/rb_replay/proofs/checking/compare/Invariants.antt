use Rattle.std.specs.List.{flat_map}
use Rattle.std.proofs.Common.{◌≡◌, ◌≤◌, take, length}
use Rattle.rb_model.specs.Plain.{outputs_of}
use Rattle.rb_lines.specs.Lines.{lines_of}
use Rattle.rb_lines.specs.OutputLines.{output_line_in, output_lines}
use Rattle.rb_replay.proofs.checking.compare.Given as goal

abbrev pub invariant-loop-i : goal.invariant-loop-i
invariant-loop-i l = record {
  few : l.next ≤ length l.outputs;
  agree : flat_map output_line_in (take (length l.yielded) (lines_of l.text)) ≡ take l.next (output_lines (outputs_of l.outputs));
}
