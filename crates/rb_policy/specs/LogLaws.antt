-- What follows of how many lines of a kind a log gets in a second.
use Rattle.std.specs.Prelude.{◌≡◌, ◌<◌, ◌≤◌, ◌+◌, ◌-◌, ◌*◌, ◌^◌, ℕ, Bool, true, false, ◌&&◌, ◌||◌, List, [], ◌∷◌, length, if◌then◌else◌, Some, None}
use Rattle.std.specs.List.{AllByRecursion}
use Rattle.rb_address.specs.declared.host.Host.{Host}
use Rattle.rb_address.specs.declared.who.Owner.{Owner}
use Rattle.rb_policy.specs.declared.caller_rate.LogCaller.{LogCaller}
use Rattle.rb_policy.specs.declared.caller_rate.LogCaller.TheVariants as callers
use Rattle.rb_policy.specs.declared.caller_rate.Count.{Count}
use Rattle.rb_policy.specs.declared.caller_rate.CallerRate.{CallerRate}
use Rattle.rb_policy.specs.declared.log_rate.LogRate.{LogRate}
use Rattle.rb_policy.specs.CallerRates.{lines_a_second, own_counts, second_of, is_same_caller, Places, count_of, has_place, left_out_of, rate_new, gets_line, rate_by, rate_after, first_place, first_left_out, tells, next_line}
use Rattle.rb_policy.specs.LogRate.{log_after}

-- a line that is asked for: its moment, whose it is, and whether there is room for it
pub record LineAsked : Type 0 where
  pub moment : ℕ
  pub caller : LogCaller
  pub has_room : Bool

-- what is known after lines were asked for one after another
abbrev pub rate_then : CallerRate → List LineAsked → CallerRate
rate_then rate [] = rate
rate_then rate (line ∷ more) = rate_then (rate_after rate line.moment line.caller line.has_room) more

abbrev pub gets_it : CallerRate → LineAsked → Bool
gets_it rate line = gets_line rate line.moment line.caller line.has_room

-- how many of them the log gets
abbrev pub lines_got : CallerRate → List LineAsked → ℕ
lines_got rate [] = 0
lines_got rate (line ∷ more) =
    (if gets_it rate line then 1 else 0) + lines_got (rate_after rate line.moment line.caller line.has_room) more

-- how many of a caller's
abbrev pub lines_of : LogCaller → CallerRate → List LineAsked → ℕ
lines_of caller rate [] = 0
lines_of caller rate (line ∷ more) =
    (if is_same_caller line.caller caller && gets_it rate line then 1 else 0)
    + lines_of caller (rate_after rate line.moment line.caller line.has_room) more

-- Whatever was asked for before, of lines that are asked for in one second the log gets at most 20 of one caller.
-- LOG-1
abbrev pub FewOfASecond : Type 0
FewOfASecond =
    (before asked : List LineAsked) (second : ℕ) (caller : LogCaller)
    → AllByRecursion (λ line. second_of line.moment ≡ second) asked
    → lines_of caller (rate_then rate_new before) asked ≤ lines_a_second

-- Of all callers that are known by owners it gets at most 180, and as many of all that are known by hosts.
-- LOG-4
abbrev pub FewInAll : Type 0
FewInAll =
    (before asked : List LineAsked) (second : ℕ) → AllByRecursion (λ line. second_of line.moment ≡ second) asked
    → lines_got (rate_then rate_new before) asked ≤ lines_a_second * (own_counts + 1)

-- Each line that the log does not get is counted.
-- LOG-5
abbrev pub NoneIsLost : Type 0
NoneIsLost =
    (asked : List LineAsked) → length asked < 2 ^ 64
    → lines_got rate_new asked + left_out_of (rate_then rate_new asked) ≡ length asked

-- whether a caller has a count of its own
abbrev pub has_own : LogCaller → Places → Bool
has_own caller [] = false
has_own caller (None ∷ more) = false
has_own caller (Some one ∷ more) = is_same_caller one.caller caller || has_own caller more

abbrev pub count_for : CallerRate → LogCaller → Count
count_for rate caller = count_of caller rate.others rate.places

-- A caller for whom there is a place has a count of its own from its first line on, and what others ask for in that second
-- leaves that as it is.
-- LOG-4
pub record OwnCountsAreApart : Type 0 where
  pub first : (rate : CallerRate) (caller : LogCaller) (has_room : Bool) → has_place caller rate.places ≡ true
      → has_own caller (rate_by rate caller has_room).places ≡ true
  pub others : (rate : CallerRate) (caller : LogCaller) (asked : List LineAsked) → has_own caller rate.places ≡ true
      → AllByRecursion (λ line. (second_of line.moment ≡ rate.second) × (is_same_caller line.caller caller ≡ false)) asked
      → count_for (rate_then rate asked) caller ≡ count_for rate caller

-- Lines by hosts change nothing of what owners get, nor the other way.
-- LOG-4
pub record OwnersAndHostsAreApart : Type 0 where
  pub hosts : (log : LogRate) (now : ℕ) (host : Host) (has_room : Bool) → (log_after log now (callers.Host host) has_room).owners ≡ log.owners
  pub owners : (log : LogRate) (now : ℕ) (owner : Owner) (has_room : Bool) → (log_after log now (callers.Owner owner) has_room).hosts ≡ log.hosts

-- How many were left out is told from their moment on, and not before it.
-- LOG-5
abbrev pub TheyAreToldThen : Type 0
TheyAreToldThen =
    (rate : CallerRate) (at now : ℕ) → next_line rate ≡ Some at → rate.second ≤ second_of now → now < 2 ^ 64 - 1
    → (at ≤ now → tells rate now ≡ first_left_out rate (first_place rate)) × (now < at → tells rate now ≡ None)
