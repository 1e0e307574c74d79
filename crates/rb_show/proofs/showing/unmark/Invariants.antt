-- The data among the bytes so far was kept, and no record ended.
use Rattle.std.proofs.Common.{take}
use Rattle.rb_show.proofs.Showings.{Kept}
use Rattle.rb_show.proofs.showing.unmark.Given as goal

abbrev pub invariant-loop-byte : goal.invariant-loop-byte
invariant-loop-byte l = Kept l.initial.marks l.marks (take l.byte-index l.bytes) l.initial.held.items l.held.items
