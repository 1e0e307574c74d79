use Rattle.std.proofs.Common.{◌≡◌, ◌+◌, ◌*◌, ◌≤◌, length, take}
use Rattle.std.specs.List.{flat_map}
use Rattle.rb_stats.specs.Statistics.{item_spelling}
use Rattle.rb_stats.proofs.Writing.{behind_true}
use Rattle.rb_stats.proofs.stat.list_size.Given as goal

abbrev pub invariant-loop-item : goal.invariant-loop-item
invariant-loop-item l = record {
  size : l.size ≡ 4 + length (flat_map (behind_true item_spelling) (take l.item-index l.items));
  most : l.size ≤ 4 + 40 * l.item-index;
}
