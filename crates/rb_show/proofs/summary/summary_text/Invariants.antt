-- The lines of the programs so far are there.
use Rattle.std.proofs.Common.{◌≡◌, ◌++◌, take}
use Rattle.std.specs.List.{flat_map}
use Rattle.std.specs.String.{string_bytes}
use Rattle.rb_show.specs.Summary.{shown_rows, summary_heading, summary_line}
use Rattle.rb_show.proofs.summary.summary_text.Given as goal

abbrev pub invariant-loop-prog : goal.invariant-loop-prog
invariant-loop-prog l = string_bytes l.text ≡ summary_heading ++ flat_map (summary_line l.form (shown_rows l.rows)) (take l.prog-index l.prog-items)
