use Rattle.std.specs.Borrow.{Bor}
use Rattle.rb_registry.specs.declared.row.Row.{Row}
use Rattle.rb_answers.proofs.Lists.{left}
use Rattle.rb_answers.proofs.Filling.{Looking}
use Rattle.rb_answers.proofs.list_reply.ListReply.fill_with.Given as goal

abbrev pub invariant-rows : goal.invariant-rows
invariant-rows l = Looking (λ (row : Bor Row). row.now) l.sought l.registry l.fn.self l.self l.most l.base l.fn.out l.out l.fn.meter l.meter l.found

abbrev pub decreases-rows : goal.decreases-rows
decreases-rows l = left l.registry l.self.stamp l.self.cursor
