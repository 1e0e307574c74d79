-- When a turn comes for the log alone.
use Rattle.std.specs.Prelude.{ℕ, Option}
use Rattle.rb_log.specs.declared.log.Log.{Log}
use Rattle.rb_log.specs.LogRates.{next_line_of}

-- the first moment from which it tells of lines that were left out, of whatever kind
-- LOG-5
abbrev pub next_line : Log → Option ℕ
next_line log = next_line_of log.accepted log.refused log.calls log.given_up
