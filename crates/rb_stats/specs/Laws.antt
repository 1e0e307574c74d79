-- Laws of statistics.
use Rattle.std.specs.Prelude.{◌≡◌, ◌≤◌, Bool, List, ◌++◌, length}
use Rattle.rb_stats.specs.declared.key.Version.{Version}
use Rattle.rb_stats.specs.Stats.{Stats, StandsForHistory, key_count}
use Rattle.rb_stats.specs.Statistics.{Note, number_of, greatest_int, greatest_list, stat, statistics}

-- A count that is the greatest int stays, whatever follows.
abbrev pub GreatestStays : Type 0 → Type 0
GreatestStays A = (test : A → Bool) (xs more : List A) → number_of test xs ≡ greatest_int → number_of test (xs ++ more) ≡ greatest_int

-- Each list has at most 32 items.
abbrev pub ListsAreShort : Type 0
ListsAreShort = (version : Version) (notes : List Note) → (length (stat version notes).addrinfo ≤ greatest_list) × (length (stat version notes).rmtinfo ≤ greatest_list)

-- What stands for a history has at most 192 keys.
abbrev pub KeysAreFew : Type 0
KeysAreFew = (kept : Stats) (notes : List Note) → StandsForHistory kept notes → key_count kept ≤ 192

-- Whatever was called, the statistics have at most 3 · (60 + 8 + 32 · 32 + 32 · 40) bytes, which are fewer than 9,000.
abbrev pub StatisticsAreShort : Type 0
StatisticsAreShort = (notes : List Note) → length (statistics notes) ≤ 7116
