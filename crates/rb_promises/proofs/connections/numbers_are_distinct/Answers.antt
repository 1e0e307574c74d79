use Rattle.rb_promises.proofs.Orders.{connections_are_in_order, first_connections_are_least, numbers_are_distinct}
use Rattle.rb_promises.proofs.connections.numbers_are_distinct.Goals as goal

pub returns-clause-in_order : goal.returns-clause-in_order
returns-clause-in_order c = connections_are_in_order

pub returns-clause-least : goal.returns-clause-least
returns-clause-least c = first_connections_are_least

pub returns-clause-distinct : goal.returns-clause-distinct
returns-clause-distinct c = numbers_are_distinct
