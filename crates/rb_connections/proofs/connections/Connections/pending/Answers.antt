use Rattle.std.proofs.Common.{Ok, ap, sym, ◌∙◌}
use Rattle.rb_model.specs.Connections.{live_connection}
use Rattle.rb_model.specs.Step.{pending_on}
use Rattle.rb_connections.specs.Slots.{is_wanted}
use Rattle.rb_connections.proofs.connections.Connections.pending.Goals as goal

pub returns-in_default-clause-lent : goal.returns-in_default-clause-lent
unfolding is_wanted live_connection
returns-in_default-clause-lent c = λ registry o h. ap pending_on (c.in_default.ensures.found registry o h)

pub returns-clause-lent : goal.returns-clause-lent
unfolding is_wanted live_connection
returns-clause-lent c = λ registry o h.
    let f = c.in-Some.ensures.found registry o h in
    ap pending_on f.found ∙ ap Ok (sym (c.pending.ensures.pending registry f.connection f.stands))
