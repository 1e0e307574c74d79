-- What is written of what was recorded.
use Rattle.std.specs.Prelude.{◌≡◌, ℕ, List, Option}
use Rattle.rb_lines.specs.Printing.{Writes}
use Rattle.rb_lines.specs.Tapes.{Tape, unwritten, all_written}

-- The writer got all that it had not got of the tape, and nothing else, if what it holds is known.
-- TAPE-1
pub record WritesRecord {W : Type 0} (contents : W → Option (List ℕ)) (old new : W) (before after : Tape) : Type 0 where
  pub written : Writes contents old new (unwritten before)
  pub all : after ≡ all_written before
