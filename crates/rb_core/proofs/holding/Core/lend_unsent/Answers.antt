use Rattle.std.proofs.Common.{subst}
use Rattle.rb_forward.specs.Table.{plain_unsent}
use Rattle.rb_model.specs.Step.{unsent_call}
use Rattle.rb_connections.specs.Slots.{Shows}
use Rattle.rb_core.specs.contracts.holding.Core.{the_view}
use Rattle.rb_core.specs.StandsFor.{CoreView, StandsFor}
use Rattle.rb_core.proofs.Steps.{unsent_shown}
use Rattle.rb_core.proofs.holding.Core.lend_unsent.Goals as goal

pub returns-clause-unsent : goal.returns-clause-unsent
returns-clause-unsent c =
    subst (λ (held : CoreView). Shows StandsFor unsent_call held (plain_unsent c.unsent.result)) c.self.view_is
    (unsent_shown (the_view c.self.inside) (plain_unsent c.unsent.result) c.unsent.ensures.unsent)
