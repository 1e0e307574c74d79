-- The netids of the rows so far are there.
use Rattle.std.proofs.Common.{◌≡◌, [], take}
use Rattle.std.specs.List.{fold}
use Rattle.rb_show.specs.Summary.{add_netid, shown_rows, borrowed_texts}
use Rattle.rb_show.proofs.summary.netids_of.Given as goal

abbrev pub invariant-loop-row : goal.invariant-loop-row
invariant-loop-row l = borrowed_texts l.netids.items ≡ fold (add_netid l.prog) [] (shown_rows (take l.row-index l.rows))
