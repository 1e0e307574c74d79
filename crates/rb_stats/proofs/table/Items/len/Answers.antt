use Rattle.std.proofs.Common.{arith}
use Rattle.rb_stats.proofs.Entries.{most_items}
use Rattle.rb_stats.proofs.table.Items.len.Goals as goal

pub returns-clause-within : goal.returns-clause-within
returns-clause-within c = omega (arith, most_items c.self.inside.items c.self.invariant.0, c.self.invariant.1)
