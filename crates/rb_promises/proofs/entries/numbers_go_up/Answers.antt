use Rattle.rb_promises.proofs.Orders.{entries_are_in_order, first_entries_are_least}
use Rattle.rb_promises.proofs.entries.numbers_go_up.Goals as goal

pub returns-clause-in_order : goal.returns-clause-in_order
returns-clause-in_order c = entries_are_in_order

pub returns-clause-least : goal.returns-clause-least
returns-clause-least c = first_entries_are_least
