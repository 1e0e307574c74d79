use Rattle.std.proofs.KnownBytes.{Appends-nil}
use Rattle.rb_lines.specs.Printing.{report_of}
use Rattle.rb_lines.proofs.Prints.{line_more}
use Rattle.rb_lines.proofs.printing.print_outputs.Goals as goal

pub loop-output-init : goal.loop-output-init
unfolding report_of
loop-output-init g c = Appends-nil _

pub loop-output-preserved : goal.loop-output-preserved
loop-output-preserved g c = line_more _ _ _ c.args.outputs.now c.loop-output.output-index c.output-item.result c.loop-output-test.true c.output-item.is c.loop-output.invariant c.in_ok-print_output.ensures
