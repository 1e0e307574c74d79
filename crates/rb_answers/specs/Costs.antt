-- What notes, statistics that are shown or begin anew, new forwarded calls, and lists of rows cost.
use Rattle.std.specs.Prelude.{ℕ, ◌+◌, ◌-◌, ◌*◌, length, Option}
use Rattle.rb_xdr.specs.Kept.{Kept}
use Rattle.rb_registry.specs.Registry.{Registry, slots_of}
use Rattle.rb_registry.specs.declared.versions.Version.{Version}
use Rattle.rb_stats.specs.Stats.{most_keys}
use Rattle.rb_forward.specs.Costs.{start_cost}
use Rattle.rb_answers.specs.ListReplies.{part_room}
use Rattle.rb_answers.specs.Searching.{walk_cost}

-- a walk over the keys of the statistics, which notes a look-up
abbrev pub note_cost : ℕ
note_cost = 2 * most_keys

-- a new entry of forwarded calls, whose call has this many bytes of arguments
abbrev pub forward_cost : ℕ → ℕ
forward_cost args = start_cost args

-- a walk over the keys for each version, which shows them
abbrev pub statistics_cost : ℕ
statistics_cost = 6 * most_keys

-- each key of the statistics is removed, and none is left
-- STAT-7
abbrev pub zero_cost : ℕ
zero_cost = 2 * most_keys + 1

-- a walk over the rows, live or retained, or those of a version, and one step for each byte that was put
abbrev pub write_cost : Option Version → Registry → Kept → Kept → ℕ
write_cost sought kept old new = walk_cost sought kept + 2 + (length new.bytes - length old.bytes)

-- a walk over the rows, and what is written in the room of a part
abbrev pub part_cost : Registry → ℕ
part_cost kept = 2 * length (slots_of kept) + part_room + 6

-- a walk over the rows, and what is written
abbrev pub fill_cost : Registry → Kept → ℕ
fill_cost kept out = 2 * length (slots_of kept) + length out.bytes + 5
