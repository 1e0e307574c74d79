use Rattle.std.proofs.Common.{arith}
use Rattle.rb_forward.specs.Forwards.{no_forwards}
use Rattle.rb_forward.proofs.Runs.{run-counts, run-rising, run-order}
use Rattle.rb_forward.proofs.laws.each_entry_ends_once.Goals as goal

pub returns-clause-once : goal.returns-clause-once
returns-clause-once c = λ cap first_xid events number. let l = run-counts cap first_xid no_forwards events number in omega (arith, l)

pub returns-clause-numbers : goal.returns-clause-numbers
returns-clause-numbers c = λ cap first_xid events. run-rising cap first_xid no_forwards events

pub returns-clause-in_order : goal.returns-clause-in_order
returns-clause-in_order c = λ cap first_xid events. run-order cap first_xid no_forwards events (omega arith)
