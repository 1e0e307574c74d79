use Rattle.rb_stats.proofs.Histories.{fresh}
use Rattle.rb_stats.proofs.stats.Stats.new.Goals as goal

pub returns-clause-made : goal.returns-clause-made
returns-clause-made c = fresh c.new.result c.new-2.result c.new-3.result c.in_ok-new.field-0.all c.in_ok-new.field-0.memory c.in_ok-new.field-0.tie c.new.ensures c.new-2.ensures c.new-3.ensures c.in_ok-new.ensures.empty
