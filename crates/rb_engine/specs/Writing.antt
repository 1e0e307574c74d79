-- What is written of a core.
use Rattle.std.specs.Prelude.{◌≡◌, ℕ, ◌+◌, ◌==◌, false, if◌then◌else◌, List, [], Option}
use Rattle.rb_xdr.specs.Ordered.{looks}
use Rattle.rb_registry.specs.declared.row.Row.{Row}
use Rattle.rb_registry.specs.Rows.{rpcb_prog}
use Rattle.rb_model.specs.State.{State}
use Rattle.rb_model.specs.Step.{IsReached}
use Rattle.rb_lines.specs.Printing.{Writes}
use Rattle.rb_core.specs.StandsFor.{CoreView, StandsFor}
use Rattle.rb_core.specs.Looks.{rows_held}
use Rattle.rb_keep.specs.Kept.{row_line, kept_text, change_text, owners_after}

-- What a writer holds has grown by what is kept of each state that a run reaches and that the core stands for.
-- KEEP-3
abbrev pub WritesKept : CoreView → {W : Type 0} → (W → Option (List ℕ)) → W → W → Type 0
WritesKept core contents old new = (s : State) → StandsFor core s → IsReached s → Writes contents old new (kept_text s)

-- the line of a row that was set: none of the daemon's own, which are of the portmapper's program
abbrev pub line_where_set : ℕ → Row → List ℕ
line_where_set now row = if row.prog == rpcb_prog then [] else row_line now row

-- It has grown by the lines of what changed of a version of a program, which is not the portmapper's, since these were the
-- owners of the rows, in each state that the core stands for.
-- KEEP-12
abbrev pub WritesChange : CoreView → ℕ → ℕ → List (ℕ × ℕ) → {W : Type 0} → (W → Option (List ℕ)) → W → W → Type 0
WritesChange core prog vers owners contents old new =
    (s : State) → StandsFor core s → (prog == rpcb_prog) ≡ false → Writes contents old new (change_text s prog vers owners)

-- These are the owners after it.
abbrev pub NotesOwners : CoreView → ℕ → ℕ → List (ℕ × ℕ) → List (ℕ × ℕ) → Type 0
NotesOwners core prog vers old new =
    (s : State) → StandsFor core s → (prog == rpcb_prog) ≡ false → new ≡ owners_after s prog vers old

-- what it costs to look up one row
abbrev pub row_look : CoreView → ℕ
row_look core = looks (rows_held core).limit + 1
