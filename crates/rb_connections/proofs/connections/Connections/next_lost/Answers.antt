use Rattle.std.specs.Prelude.{option_map}
use Rattle.std.proofs.Common.{◌≡◌, ℕ, Some, None, sym, ap, ◌∙◌}
use Rattle.rb_model.specs.State.{Connection}
use Rattle.rb_model.specs.Connections.{next_lost_in_table}
use Rattle.rb_connections.specs.Slots.{is_wanted}
use Rattle.rb_connections.proofs.connections.Connections.next_lost.Goals as goal

pub returns-in-Some-clause-lost : goal.returns-in-Some-clause-lost
unfolding next_lost_in_table is_wanted
returns-in-Some-clause-lost c = λ registry o h.
    let f = c.in-Some.ensures.found registry o h in
    let e : next_lost_in_table o ≡ Some f.connection.number = ap (option_map (λ (x : Connection). x.number)) f.found in
    ap (λ (n : ℕ). Some n) f.stands.number ∙ sym e

pub returns-in-None-clause-lost : goal.returns-in-None-clause-lost
unfolding next_lost_in_table is_wanted
returns-in-None-clause-lost c = λ registry o h.
    let e : next_lost_in_table o ≡ None = ap (option_map (λ (x : Connection). x.number)) (c.in-None.ensures.found registry o h) in
    sym e
