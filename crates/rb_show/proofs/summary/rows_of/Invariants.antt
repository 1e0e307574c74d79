-- The items so far are rows.
use Rattle.std.proofs.Common.{◌≡◌, take}
use Rattle.rb_show.specs.Summary.{shown_rows, items_shown}
use Rattle.rb_show.proofs.summary.rows_of.Given as goal

abbrev pub invariant-loop-item : goal.invariant-loop-item
invariant-loop-item g l = shown_rows l.rows.items ≡ items_shown g.T.AsRow.stands_for (take l.item-index l.items)
