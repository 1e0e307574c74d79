-- The lines so far, and those that are left, are those of the text.
use Rattle.std.proofs.Common.{◌≡◌, length}
use Rattle.rb_evidence.specs.Table.{lines_of}
use Rattle.rb_policy.specs.Machine.{named}
use Rattle.rb_sockets.specs.Machine.{after_lines}
use Rattle.rb_sockets.proofs.machine.Search.take.Given as goal

abbrev pub invariant-loop-line : goal.invariant-loop-line
invariant-loop-line l = after_lines l.listing (named l.name) l.self (lines_of l.rest) ≡ after_lines l.listing (named l.name) l.fn.self (lines_of l.text)

abbrev pub decreases-loop-line : goal.decreases-loop-line
decreases-loop-line l = length l.rest
