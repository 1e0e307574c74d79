use Rattle.std.proofs.Common.{◌≡◌, ◌≤◌}
use Rattle.std.specs.Prelude.{None}
use Rattle.std.specs.Borrow.{Bor}
use Rattle.rb_registry.specs.declared.slot.Slot.{Slot}
use Rattle.rb_answers.proofs.Lists.{left}
use Rattle.rb_answers.proofs.Filling.{Looking, with_made, paid_later}
use Rattle.rb_answers.proofs.list_reply.ListReply.fill_mappings.Given as goal

-- the buffer and the meter as they are once the mappings are put there
abbrev pub invariant-rows : goal.invariant-rows
invariant-rows l = record {
  looking : Looking (λ (mapped : Bor Slot). mapped.now.row) None l.registry l.fn.self (record l.fn.self { cursor = l.cursor }) l.most l.base l.fn.out (with_made l.out l.made l.count) l.fn.meter (paid_later l.meter l.count) l.found;
  within : l.count ≤ l.base;
  stays : l.self ≡ l.fn.self;
}

abbrev pub decreases-rows : goal.decreases-rows
decreases-rows l = left l.registry l.stamp l.cursor
