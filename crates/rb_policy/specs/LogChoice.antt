-- What a log has lines of, and of which kind they are.
use Rattle.std.specs.Prelude.{Option, Some, None}
use Rattle.rb_registry.specs.declared.reasons.Refusal.{Refusal}
use Rattle.rb_registry.specs.declared.reasons.Refusal.TheVariants.{NothingToRemove}
use Rattle.rb_policy.specs.declared.log_lines.LogKind.{LogKind}
use Rattle.rb_policy.specs.declared.log_lines.LogKind.TheVariants as kinds
use Rattle.rb_policy.specs.declared.log_choice.Logged.{Logged}
use Rattle.rb_policy.specs.declared.log_choice.Logged.TheVariants.{Nothing, Changes, All as Everything}
use Rattle.rb_policy.specs.declared.log_choice.Happening.{Happening}
use Rattle.rb_policy.specs.declared.log_choice.Happening.TheVariants.{Change, RefusedCall, GivenUp}

-- LOG-7: Changes that were refused are lines of their own kind, as are refused calls and connections
-- that are given up; each kind has its own count in a second.
abbrev pub change_kind : Option Refusal → LogKind
change_kind None = kinds.Accepted
change_kind (Some refusal) = kinds.Refused

-- LOG-7
abbrev pub kind_of_all : Happening → LogKind
kind_of_all (Change refusal) = change_kind refusal
kind_of_all RefusedCall = kinds.Calls
kind_of_all GivenUp = kinds.GivenUp

-- LOG-8: `--log changes` tells of each SET and UNSET, accepted or refused, but for an UNSET that had
-- nothing to remove, and of nothing else; `--log all` of each, of refused calls and of connections
-- that are given up; without `--log` nothing is told.
abbrev pub kind_of_changes : Happening → Option LogKind
kind_of_changes (Change (Some NothingToRemove)) = None
kind_of_changes (Change refusal) = Some (change_kind refusal)
kind_of_changes RefusedCall = None
kind_of_changes GivenUp = None

-- LOG-8
abbrev pub kind_told : Logged → Happening → Option LogKind
kind_told Nothing happening = None
kind_told Changes happening = kind_of_changes happening
kind_told Everything happening = Some (kind_of_all happening)
