use Rattle.std.specs.Io.KnownBytes.{Appends}
use Rattle.std.proofs.Common.{take}
use Rattle.rb_model.specs.Plain.{outputs_of}
use Rattle.rb_lines.specs.Printing.{report_of}
use Rattle.rb_lines.proofs.printing.print_outputs.Given as goal

abbrev pub invariant-loop-output : goal.invariant-loop-output
invariant-loop-output g l = Appends (g.W.Write.contents l.fn.writer) (g.W.Write.contents l.writer) (report_of (outputs_of (take l.output-index l.outputs)))
