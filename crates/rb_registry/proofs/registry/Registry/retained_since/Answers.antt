use Rattle.rb_registry.proofs.Tables.{least_is}
use Rattle.rb_registry.proofs.registry.Registry.retained_since.Goals as goal

pub returns-clause-least : goal.returns-clause-least
returns-clause-least c = rw (← c.self.view_is, c.least_removal.ensures.least) (least_is _)
