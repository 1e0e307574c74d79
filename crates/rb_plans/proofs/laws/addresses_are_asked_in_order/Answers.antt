use Rattle.rb_plans.proofs.AddressesInOrder.{up_to, all}
use Rattle.rb_plans.proofs.laws.addresses_are_asked_in_order.Goals as goal

pub returns : goal.returns
returns c = record { first = up_to; none = all }
