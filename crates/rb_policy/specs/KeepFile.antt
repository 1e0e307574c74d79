-- What is done about a file at the path where rows are kept, as the daemon starts.
use Rattle.std.specs.Prelude.{ℕ, ◌==◌, Bool, not, ◌||◌, if◌then◌else◌, bit_and}
use Rattle.rb_policy.specs.declared.keep_file.Writers.{Writers}
use Rattle.rb_policy.specs.declared.keep_file.KeepState.{KeepState}
use Rattle.rb_policy.specs.declared.keep_file.KeepState.TheVariants.{Absent, Plain, Other}
use Rattle.rb_policy.specs.declared.keep_file.Distrust.TheVariants.{NoPlainFile, OtherOwner, OthersMayWrite}
use Rattle.rb_policy.specs.declared.keep_file.KeepAction.{KeepAction}
use Rattle.rb_policy.specs.declared.keep_file.KeepAction.TheVariants.{Begin, Read, GiveUp}

-- root is trusted, and the daemon's own user
abbrev pub is_trusted : ℕ → ℕ → Bool
is_trusted own owner = owner == 0 || owner == own

-- whether the mode lets the file's group or others write to it
abbrev pub others_may_write : ℕ → Bool
others_may_write mode = not (bit_and mode 0o022 == 0)

-- a plain file is read if its owner is trusted and nobody else may write to it
-- FILE-2
abbrev pub action_on_file : ℕ → Writers → KeepAction
action_on_file own file =
    if not (is_trusted own file.owner) then GiveUp (OtherOwner file.owner)
    else (if others_may_write file.mode then GiveUp (OthersMayWrite file.mode) else Read)

-- FILE-2: A file of kept rows is read if it is a plain one that belongs to root or to the daemon's
-- own user, and neither its group nor others may write to it; if nothing is at the path the daemon
-- begins with no rows. In each other case the file stays, and the daemon does not start.
abbrev pub keep_action : ℕ → KeepState → KeepAction
keep_action own Absent = Begin
keep_action own (Plain file) = action_on_file own file
keep_action own Other = GiveUp NoPlainFile
