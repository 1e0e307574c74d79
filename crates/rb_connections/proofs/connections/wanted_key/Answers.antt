use Rattle.std.proofs.Common.{rules, sym, ◌∙◌}
use Rattle.rb_connections.specs.Slots.{is_wanted_slot, wanted_slot}
use Rattle.rb_connections.proofs.ByHint.{first_by_hint}
use Rattle.rb_connections.proofs.connections.wanted_key.Goals as goal

pub returns-in-Some-clause-key : goal.returns-in-Some-clause-key
unfolding wanted_slot
returns-in-Some-clause-key c =
    sym (first_by_hint c.args.wanted c.args.slots.now.entries c.key-hint.result c.in-Some.slot.now c.requires.numbers (sym c.in-Some.ensures.value)
    (sym c.is_by_number.ensures ∙ c.if-is_by_number.true) (sym c.is_wanted.ensures ∙ c.if-is_wanted.true))

pub returns-in_default-clause-key : goal.returns-in_default-clause-key
unfolding wanted_slot
returns-in_default-clause-key c = c.find_key.ensures.key (is_wanted_slot c.args.wanted) (λ slot answer returns. search rules)
