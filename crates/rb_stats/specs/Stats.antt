-- What a contract sees of `Stats`, and what it stands for.
use Rattle.std.specs.Prelude.{◌≡◌, ℕ, ◌+◌, List, length}
use Rattle.rb_stats.specs.declared.key.Version.TheVariants.{Two, Three, Four}
use Rattle.rb_stats.specs.Statistics.{Note, Stat, stat}

-- rpcb_stat of each version, the memory that the table of items holds (as of a `Pool`), and the number of the meter
-- that counts the calls
pub record Stats : Type 0 where
  pub two : Stat
  pub three : Stat
  pub four : Stat
  pub memory : ℕ × ℕ
  pub tie : ℕ

-- the memory and the meter stay
pub record SameFrame (old new : Stats) : Type 0 where
  pub memory : new.memory ≡ old.memory
  pub tie : new.tie ≡ old.tie

-- Statistics that keep this stand for these calls.
-- STAT-7: When statistics begin anew, nothing was called, and no key is left.
pub record StandsForHistory (kept : Stats) (notes : List Note) : Type 0 where
  pub two : kept.two ≡ stat Two notes
  pub three : kept.three ≡ stat Three notes
  pub four : kept.four ≡ stat Four notes

-- the number of items of a version
abbrev pub stat_len : Stat → ℕ
stat_len s = length s.addrinfo + length s.rmtinfo

-- the number of all keys
-- HELD-2: Each key of a list counts as 48 bytes.
abbrev pub key_count : Stats → ℕ
key_count kept = stat_len kept.two + stat_len kept.three + stat_len kept.four

-- two lists of 32 keys for each of three versions
abbrev pub most_keys : ℕ
most_keys = 192
