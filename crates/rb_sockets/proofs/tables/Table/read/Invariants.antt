use Rattle.rb_sockets.specs.Tables.{GoesOn}
use Rattle.rb_sockets.proofs.tables.Table.read.Given as goal

-- what came so far was looked at
abbrev pub invariant-loop : goal.invariant-loop
invariant-loop g l = GoesOn l.fn.self.lines l.self.lines l.fn.sights l.sights
