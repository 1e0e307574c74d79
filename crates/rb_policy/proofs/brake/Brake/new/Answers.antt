use Rattle.rb_policy.proofs.Brakes.{new_stands}
use Rattle.rb_policy.proofs.brake.Brake.new.Goals as goal

pub returns-clause-stands : goal.returns-clause-stands
returns-clause-stands c = new_stands c.args.key c.args.rate c.in_ok-new.field-0 c.in_ok-new-2.field-0 c.in_ok-new.ensures c.in_ok-new-2.ensures
