use Rattle.std.specs.Prelude.{⊤}
use Rattle.rb_lines.proofs.OnLiterals.{rb_lines_on_literals}
use Rattle.rb_arguments.proofs.OnLiterals.{rb_arguments_on_literals}
use Rattle.rb_answers.proofs.OnLiterals.{rb_answers_on_literals}
use Rattle.rb_registry.specs.Rows.{is_on, is_row, find_exact}
use Rattle.rb_registry.specs.Index.{rank}
use Rattle.rb_address.specs.Netids.{is_netid}
use Rattle.rb_keep.specs.Reading.{is_this_machine, row_asked, row_set, row_unset, kept_row, gone_row, kept_line, without, rows_from, whole_part, read}

-- What is unfolded to compute the definitions of this crate, and of those below, on literals.
unfoldable pub rb_keep_on_literals : ⊤
unfolding rb_lines_on_literals rb_arguments_on_literals rb_answers_on_literals
    is_netid is_on is_row find_exact rank is_this_machine row_asked row_set row_unset kept_row gone_row kept_line without rows_from whole_part read
rb_keep_on_literals = tt
