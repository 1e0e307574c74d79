-- The versions of the rows so far are there.
use Rattle.std.proofs.Common.{◌≡◌, [], take}
use Rattle.std.specs.List.{fold}
use Rattle.rb_show.specs.Summary.{add_version, shown_rows}
use Rattle.rb_show.proofs.summary.versions_of.Given as goal

abbrev pub invariant-loop-row : goal.invariant-loop-row
invariant-loop-row l = l.versions.items ≡ fold (add_version l.prog) [] (shown_rows (take l.row-index l.rows))
