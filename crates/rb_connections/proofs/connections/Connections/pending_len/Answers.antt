use Rattle.std.proofs.Common.{Ok, ap, sym, ◌∙◌}
use Rattle.rb_model.specs.Connections.{live_connection}
use Rattle.rb_model.specs.Step.{pending_on}
use Rattle.rb_connections.specs.Giving.{pending_count}
use Rattle.rb_connections.specs.Slots.{is_wanted}
use Rattle.rb_connections.proofs.connections.Connections.pending_len.Goals as goal

pub returns-in_default-clause-len : goal.returns-in_default-clause-len
unfolding is_wanted live_connection
returns-in_default-clause-len c = λ registry o h. sym (ap (λ x. pending_count (pending_on x)) (c.in_default.ensures.found registry o h))

pub returns-clause-len : goal.returns-clause-len
unfolding is_wanted live_connection
returns-clause-len c = λ registry o h.
    let f = c.in-Some.ensures.found registry o h in
    ap Ok (c.pending_len.ensures.len registry f.connection f.stands) ∙ sym (ap (λ x. pending_count (pending_on x)) f.found)
