-- The items of each version as they will be written.
use Rattle.std.specs.Prelude.{◌≡◌, ℕ, ◌+◌}
use Rattle.rb_stats.specs.declared.counts.Counts.{Counts}
use Rattle.rb_stats.specs.declared.stat.Lists.{Lists}
use Rattle.rb_stats.specs.declared.stat.AllLists.{AllLists}
use Rattle.rb_stats.specs.Statistics.{Stat}
use Rattle.rb_stats.specs.Stats.{Stats}
use Rattle.rb_stats.specs.Table.{stat_of, stat_size}

abbrev pub size_of : Lists → ℕ
size_of lists = stat_size lists.addrinfo.items lists.rmtinfo.items

abbrev pub lists_size : AllLists → ℕ
lists_size lists = size_of lists.two + size_of lists.three + size_of lists.four

-- rpcb_stat of a version with them
abbrev pub stat_with : Counts → Lists → Stat
stat_with counts lists = stat_of counts lists.addrinfo.items lists.rmtinfo.items

pub record IsListOf (s : Stat) (lists : Lists) : Type 0 where
  pub addrinfo : lists.addrinfo.items ≡ s.addrinfo
  pub rmtinfo : lists.rmtinfo.items ≡ s.rmtinfo

pub record AreListsOf (kept : Stats) (lists : AllLists) : Type 0 where
  pub two : IsListOf kept.two lists.two
  pub three : IsListOf kept.three lists.three
  pub four : IsListOf kept.four lists.four
