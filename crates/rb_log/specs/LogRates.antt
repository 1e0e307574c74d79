-- When lines that were left out are told, by the rates of all kinds.
use Rattle.std.specs.Prelude.{ℕ, Option}
use Rattle.rb_forward.specs.Deadlines.{sooner_of}
use Rattle.rb_policy.specs.declared.log_rate.LogRate.{LogRate}
use Rattle.rb_policy.specs.LogRate.{next_log_line}

abbrev pub next_line_of : LogRate → LogRate → LogRate → LogRate → Option ℕ
next_line_of accepted refused calls given_up =
    sooner_of (sooner_of (next_log_line accepted) (next_log_line refused))
    (sooner_of (next_log_line calls) (next_log_line given_up))
