use Rattle.std.specs.Borrow.{Bor}
use Rattle.rb_registry.specs.declared.slot.Slot.{Slot}
use Rattle.rb_answers.proofs.Searching.{walked_row, walked_costs, walked_most}
use Rattle.rb_answers.proofs.rows.next_mapped.Goals as goal

pub returns-clause-row : goal.returns-clause-row
returns-clause-row c =
    walked_row (λ (mapped : Bor Slot). mapped.now.row) c.args.registry.now c.args.stamp c.args.cursor c.next_mapped.result c.next_mapped.ensures.row c.next_mapped.ensures.place c.next_mapped.ensures.passed c.next_mapped.ensures.within

pub returns-clause-cost : goal.returns-clause-cost
returns-clause-cost c = walked_most c.args.registry.now c.args.cursor c.args.meter.now c.next_mapped.new.meter c.next_mapped.ensures.cost

pub returns-clause-cost_row : goal.returns-clause-cost_row
returns-clause-cost_row c = walked_costs c.args.registry.now c.args.cursor c.next_mapped.result c.args.meter.now c.next_mapped.new.meter c.next_mapped.ensures.cost_row
