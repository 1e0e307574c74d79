-- What stands in front of a line of standard error where the journal reads it (sd-daemon(3)).
use Rattle.std.specs.Prelude.{ℕ, ◌^◌, Bool, false, ◌&&◌, List, codes, Option, Some, None}
use Rattle.rb_address.specs.Reading.{cut, number_below}
use Rattle.rb_policy.specs.Handed.{is_number}
use Rattle.rb_startup.specs.declared.leveled.Level.{Level}
use Rattle.rb_startup.specs.declared.leveled.Level.TheVariants.{Error, Warning, Notice, Info}

-- LEVEL-1: In the journal a line that says why the program ends has priority 3, what is not as it
-- should be 4, what is worth knowing of a start 5, and a line of the log 6.
abbrev pub mark_of : Level → List ℕ
mark_of Error = codes "<3>"
mark_of Warning = codes "<4>"
mark_of Notice = codes "<5>"
mark_of Info = codes "<6>"

abbrev pub are_numbers : ℕ → ℕ → Option (List ℕ × List ℕ) → Bool
are_numbers device inode None = false
are_numbers device inode (Some parts) =
    is_number device (number_below (2 ^ 64) parts.0) && is_number inode (number_below (2 ^ 64) parts.1)

-- the text of JOURNAL_STREAM
-- LEVEL-2: Lines of standard error have marks if JOURNAL_STREAM names its device and inode, and else none.
abbrev pub names_file : ℕ → ℕ → List ℕ → Bool
names_file device inode text = are_numbers device inode (cut 58 text)
