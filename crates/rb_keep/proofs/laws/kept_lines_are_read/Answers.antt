use Rattle.rb_keep.proofs.KeptLaws.{lines_keep_their_rows, lines_remove_their_rows, lines_of_rows_keep_them}
use Rattle.rb_keep.proofs.TextLaws.{reads_the_rows}
use Rattle.rb_keep.proofs.laws.kept_lines_are_read.Goals as goal

pub returns-clause-lines : goal.returns-clause-lines
returns-clause-lines c = lines_keep_their_rows

pub returns-clause-removals : goal.returns-clause-removals
returns-clause-removals c = lines_remove_their_rows

pub returns-clause-rows : goal.returns-clause-rows
returns-clause-rows c = lines_of_rows_keep_them

pub returns-clause-text : goal.returns-clause-text
returns-clause-text c = reads_the_rows
