use Rattle.rb_stats.specs.Statistics.{item_spelling}
use Rattle.rb_stats.proofs.Writing.{Writing, behind_true}
use Rattle.rb_stats.proofs.stat.write_list.Given as goal

abbrev pub invariant-loop-item : goal.invariant-loop-item
invariant-loop-item l = Writing (behind_true item_spelling) l.items l.item-index l.fn.out l.out l.fn.meter l.meter
