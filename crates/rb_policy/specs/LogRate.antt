-- How many lines of a kind a log gets in a second.
use Rattle.std.specs.Prelude.{ℕ, ◌+◌, ◌/◌, nat_le, Bool, Option, Some, None}
use Rattle.rb_address.specs.declared.who.Owner.TheVariants.{Unknown}
use Rattle.rb_address.specs.declared.who.Source.{Source}
use Rattle.rb_address.specs.declared.who.Source.TheVariants.{Inet, Local}
use Rattle.rb_address.specs.declared.who.Trust.{Trust}
use Rattle.rb_address.specs.declared.who.Trust.TheVariants as trusts
use Rattle.rb_forward.specs.Deadlines.{sooner_of}
use Rattle.rb_policy.specs.declared.caller_rate.LogCaller.{LogCaller}
use Rattle.rb_policy.specs.declared.caller_rate.LogCaller.TheVariants as callers
use Rattle.rb_policy.specs.declared.caller_rate.CallerRate.{CallerRate}
use Rattle.rb_policy.specs.declared.caller_rate.LeftOut.{LeftOut}
use Rattle.rb_policy.specs.declared.log_lines.LogKind.{LogKind}
use Rattle.rb_policy.specs.declared.log_lines.LogKind.TheVariants.{Accepted, Refused, Calls, GivenUp}
use Rattle.rb_policy.specs.declared.log_rate.LogRate.{LogRate}
use Rattle.rb_policy.specs.CallerRates.{rate_new, rate_after, tells, rate_told, next_line}

-- ---- whose lines they are

abbrev pub caller_at : Source → LogCaller
caller_at (Inet peer) = callers.Host peer.host
caller_at Local = callers.Owner Unknown

-- LOG-1
abbrev pub caller_of : Trust → Source → LogCaller
caller_of (trusts.Local owner) source = callers.Owner owner
caller_of trusts.Claims source = caller_at source
caller_of trusts.Stranger source = caller_at source

-- ---- callers of this machine, and others

-- LOG-1
abbrev pub new_log : LogRate
new_log = record { owners = rate_new; hosts = rate_new }

-- LOG-4
abbrev pub rate_for : LogRate → LogCaller → CallerRate
rate_for log (callers.Owner owner) = log.owners
rate_for log (callers.Host host) = log.hosts

abbrev pub log_after : LogRate → ℕ → LogCaller → Bool → LogRate
log_after log now (callers.Owner owner) has_room = record log { owners = rate_after log.owners now (callers.Owner owner) has_room }
log_after log now (callers.Host host) has_room = record log { hosts = rate_after log.hosts now (callers.Host host) has_room }

abbrev pub or_of_hosts : LogRate → ℕ → Option LeftOut → Option LeftOut
or_of_hosts log now (Some left_out) = Some left_out
or_of_hosts log now None = tells log.hosts now

-- LOG-5
abbrev pub log_tells : LogRate → ℕ → Option LeftOut
log_tells log now = or_of_hosts log now (tells log.owners now)

abbrev pub told_then : LogRate → ℕ → Option LeftOut → LogRate
told_then log now (Some left_out) = record log { owners = rate_told log.owners now }
told_then log now None = record { owners = rate_told log.owners now; hosts = rate_told log.hosts now }

-- LOG-5
abbrev pub log_told : LogRate → ℕ → LogRate
log_told log now = told_then log now (tells log.owners now)

-- LOG-5
abbrev pub next_log_line : LogRate → Option ℕ
next_log_line log = sooner_of (next_line log.owners) (next_line log.hosts)

-- ---- the room of a turn

-- the most bytes of the lines that a turn adds
abbrev pub log_room : ℕ
log_room = 28160

-- the most bytes of a line, its line break among them
abbrev pub longest_line : ℕ
longest_line = 320

abbrev pub room_of : LogKind → ℕ
room_of Accepted = log_room
room_of Refused = log_room / 2
room_of Calls = log_room / 2
room_of GivenUp = log_room / 2

-- LOG-6: The lines of a turn have room for 28,160 bytes, those of accepted changes in all of it and others in its first half.
-- A line for which there is no room counts as left out.
abbrev pub has_log_room : LogKind → ℕ → Bool
has_log_room kind used = nat_le (used + longest_line) (room_of kind)
