use Rattle.rb_laws.proofs.OutsiderCosts.{events_cost_few, datagrams_cost_few, lists_cost_by_rows}
use Rattle.rb_laws.proofs.OutsiderRuns.{outsiders_pay_ahead}
use Rattle.rb_laws.proofs.laws.outsiders_cost_few.Goals as goal

pub returns-clause-events : goal.returns-clause-events
returns-clause-events c = events_cost_few

pub returns-clause-datagrams : goal.returns-clause-datagrams
returns-clause-datagrams c = datagrams_cost_few

pub returns-clause-lists : goal.returns-clause-lists
returns-clause-lists c = lists_cost_by_rows

pub returns-clause-runs : goal.returns-clause-runs
returns-clause-runs c = outsiders_pay_ahead
