-- The rows of a list one after another: by a walk over all rows, or by searches for those of one version.
use Rattle.std.specs.Prelude.{◌≡◌, ◌≤◌, ℕ, ◌+◌, ◌-◌, ◌*◌, List, ◌∷◌, length, filter, Option, Some, None, IfSome}
use Rattle.rb_registry.specs.declared.row.Row.{Row}
use Rattle.rb_registry.specs.Rows.{is_of_version}
use Rattle.rb_registry.specs.Registry.{Registry, rows_at, rows_passed, slots_of}
use Rattle.rb_registry.specs.Cursors.{StandsIn, slots_left}
use Rattle.rb_registry.specs.declared.versions.Version.{Version}
use Rattle.rb_registry.specs.Versions.{rows_after, version_cost, next_cost, most_next, IsFoundIn, VersionsAreFew}
use Rattle.rb_answers.specs.declared.answers.Listing.{Listing}
use Rattle.rb_answers.specs.ListReplies.{rows_behind}
use Rattle.rb_answers.specs.Results.{is_shown}

-- The version that is searched for: the list shows its rows alone, as they are now, and to find them costs no more than
-- a walk over all rows.
pub record IsVersionOf (list : Listing) (kept : Registry) (stamp : ℕ) (version : Version) : Type 0 where
  pub shows : (row : Row) → is_shown list row ≡ is_of_version version.prog version.vers row
  pub now : stamp ≡ kept.stamp
  pub found : IsFoundIn kept version
  pub long : version_cost kept + most_next ≤ 2 * length (slots_of kept)
  pub few : VersionsAreFew kept

-- if one is
abbrev pub IsSought : Listing → Registry → ℕ → Option Version → Type 0
IsSought list kept stamp sought = IfSome sought (λ version. IsVersionOf list kept stamp version)

-- the rows after the cursor, or those of the version that is searched for
abbrev pub rows_left : Option Version → Registry → ℕ → Option ℕ → List Row
rows_left None kept stamp cursor = rows_behind kept stamp cursor
rows_left (Some version) kept stamp cursor = filter (is_of_version version.prog version.vers) (rows_behind kept stamp cursor)

-- what it costs to find a version
abbrev pub sought_cost : Option Version → Registry → ℕ
sought_cost None kept = 0
sought_cost (Some version) kept = version_cost kept

-- and to come to the rows and to the end: 2 steps for each row of a walk, or of a version what each of five costs at most
abbrev pub walk_cost : Option Version → Registry → ℕ
walk_cost None kept = 2 * length (slots_of kept)
walk_cost (Some version) kept = most_next

-- to those after the cursor
unfoldable pub steps_left : Option Version → Registry → Option ℕ → ℕ
steps_left None kept cursor = 2 * slots_left kept cursor
steps_left (Some version) kept cursor = next_cost * length (rows_after version kept cursor) + (next_cost - 1)

-- this row comes next, and the cursor passes it
pub record PassesRow (sought : Option Version) (kept : Registry) (stamp : ℕ) (cursor : Option ℕ) (row : Row) (next : Option ℕ) : Type 0 where
  pub place : StandsIn kept stamp next
  pub first : rows_left sought kept stamp cursor ≡ row ∷ rows_left sought kept stamp next
  pub passed : rows_passed kept stamp cursor + 1 ≤ rows_passed kept stamp next
  pub within : rows_passed kept stamp next ≤ length (rows_at kept stamp)
