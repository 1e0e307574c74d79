-- What is looked at in one of the kernel's tables, as it comes in slices.
use Rattle.std.specs.Prelude.{◌≡◌, ℕ, ◌==◌, Bool, true, false, List, ◌++◌, Option}
use Rattle.rb_evidence.specs.declared.sight.Sight.{Sight}
use Rattle.rb_evidence.specs.Table.{IsWithout}
use Rattle.rb_evidence.specs.Walks.{after_line_of_all, after_lines_of_all, IsWalk, IsReadBehind, HasWalked}
use Rattle.rb_sockets.specs.declared.tables.Slice.{Slice}
use Rattle.rb_sockets.specs.declared.tables.Slice.TheVariants.{More, End}

-- at the end of the table its last line is looked at, and before it each line that is whole
-- EVIDENCE-5
abbrev pub LooksAt : Bool → List ℕ → List ℕ → List (Option Sight) → List (Option Sight) → Type 0
LooksAt true read left before after = after ≡ after_line_of_all read before
LooksAt false read left before after = HasWalked read left before after

-- This many bytes came behind what was left, 0 at the end of the table, and were looked at for all that are looked for.
pub record HasReadOnce (count : ℕ) (old new : List ℕ) (before after : List (Option Sight)) : Type 0 where
  pub read : List ℕ
  pub came : IsReadBehind old read count
  pub looks : LooksAt (count == 0) read new before after

-- The walk goes on: bytes came, and lines were looked at.
pub record GoesOn (old new : List ℕ) (before after : List (Option Sight)) : Type 0 where
  pub slice : List ℕ
  pub lines : List (List ℕ)
  pub seen : after ≡ after_lines_of_all lines before
  pub walk : (rest : List ℕ) (more : List (List ℕ)) → IsWalk new rest more → IsWalk old (slice ++ rest) (lines ++ more)
  pub left : IsWithout 10 old → IsWithout 10 new

-- The walk is over: these were the last bytes, and each line was looked at.
pub record HasEnded (old : List ℕ) (before after : List (Option Sight)) : Type 0 where
  pub slice : List ℕ
  pub lines : List (List ℕ)
  pub seen : after ≡ after_lines_of_all lines before
  pub walk : IsWithout 10 old → IsWalk old slice lines

-- what a slice of the table was
-- EVIDENCE-5
abbrev pub HasReadSlice : Slice → List ℕ → List ℕ → List (Option Sight) → List (Option Sight) → Type 0
HasReadSlice More old new before after = GoesOn old new before after
HasReadSlice End old new before after = HasEnded old before after
