use Rattle.std.proofs.Common.{arith}
use Rattle.rb_stats.specs.Statistics.{item_spelling}
use Rattle.rb_stats.proofs.Sizes.{length-lookup, length-forward}
use Rattle.rb_stats.proofs.item.Item.size.Goals as goal

pub returns-in-None-clause-size : goal.returns-in-None-clause-size
unfolding item_spelling
returns-in-None-clause-size c = rw c.in-None.is (omega (arith, length-lookup c.args.self.now, c.text_size-netid.ensures.size))

pub returns-in-Some-clause-size : goal.returns-in-Some-clause-size
unfolding item_spelling
returns-in-Some-clause-size c = rw c.in-Some.is (omega (arith, length-forward c.in-Some.field-0 c.args.self.now, c.text_size-netid.ensures.size))
