use Rattle.std.specs.Borrow.{Bor}
use Rattle.rb_registry.specs.declared.row.Row.{Row}
use Rattle.rb_answers.proofs.Searching.{walked_row, walked_costs, walked_most, found_costs, found_most}
use Rattle.rb_answers.proofs.rows.next_row.Goals as goal

pub returns-in-Some-clause-cost : goal.returns-in-Some-clause-cost
returns-in-Some-clause-cost c =
    rw c.in-Some.is (found_most c.args.registry.now c.in-Some.version c.args.cursor c.args.meter.now c.next_of.new.meter c.next_of.ensures.cost)

pub returns-in-Some-clause-cost_row : goal.returns-in-Some-clause-cost_row
returns-in-Some-clause-cost_row c =
    rw c.in-Some.is (found_costs c.args.registry.now c.in-Some.version c.args.cursor c.next_of.result c.args.meter.now c.next_of.new.meter c.next_of.ensures.row c.next_of.ensures.cost)

pub returns-in-None-clause-row : goal.returns-in-None-clause-row
returns-in-None-clause-row c =
    rw c.in-None.is (walked_row (λ (row : Bor Row). row.now) c.args.registry.now c.args.stamp c.args.cursor c.next_row.result c.next_row.ensures.row c.next_row.ensures.place c.next_row.ensures.passed c.next_row.ensures.within)

pub returns-in-None-clause-cost : goal.returns-in-None-clause-cost
returns-in-None-clause-cost c = rw c.in-None.is (walked_most c.args.registry.now c.args.cursor c.args.meter.now c.next_row.new.meter c.next_row.ensures.cost)

pub returns-in-None-clause-cost_row : goal.returns-in-None-clause-cost_row
returns-in-None-clause-cost_row c =
    rw c.in-None.is (walked_costs c.args.registry.now c.args.cursor c.next_row.result c.args.meter.now c.next_row.new.meter c.next_row.ensures.cost_row)
