-- What is at a path, by what the system shows of a file there.
use Rattle.std.specs.Prelude.{◌≡◌, ℕ, bit_and, Bool, ◌&&◌, ◌==◌}
use Rattle.std.specs.declared.fs.attrs.FileType.{FileType}
use Rattle.std.specs.Fs.{IsFile}
use Rattle.rb_policy.specs.declared.record_file.RecordState.{RecordState}
use Rattle.rb_policy.specs.declared.record_file.RecordState.TheVariants as records
use Rattle.rb_policy.specs.declared.keep_file.KeepState.{KeepState}
use Rattle.rb_policy.specs.declared.keep_file.KeepState.TheVariants as keeps
use Rattle.rb_files.specs.declared.identity.Identity.{Identity}

-- A file is plain or of another kind, and is there.
-- FILE-3
abbrev pub IsRecordState : FileType → RecordState → Type 0
IsRecordState kind records.Absent = ⊥
IsRecordState kind records.Plain = IsFile kind
IsRecordState kind records.Other = ¬ IsFile kind

-- FILE-3: What is at a path is a plain file, or one of another kind: a link is not followed. Of the
-- mode of a plain one the twelve bits of permission count.
abbrev pub IsKeepState : FileType → ℕ → KeepState → Type 0
IsKeepState kind mode keeps.Absent = ⊥
IsKeepState kind mode (keeps.Plain writers) = IsFile kind × (writers.mode ≡ bit_and mode 0o7777)
IsKeepState kind mode keeps.Other = ¬ IsFile kind

-- a file is known by its device and its number there
-- FILE-5
abbrev pub is_same_file : Identity → Identity → Bool
is_same_file a b = a.device == b.device && a.inode == b.inode
