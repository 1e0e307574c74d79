-- How many lines callers get in a second: each of the first few by a count of his own, and all others by one.
use Rattle.std.specs.Prelude.{ℕ, ◌+◌, ◌-◌, ◌*◌, ◌^◌, ◌/◌, ◌==◌, nat_lt, min, Bool, true, false, ◌&&◌, ◌||◌, if◌then◌else◌, Option, Some, None, List, [], ◌∷◌, replicate, sum_by, position, slice_index_or, slice_set}
use Rattle.rb_address.specs.Hosts.{is_same_host}
use Rattle.rb_address.specs.Callers.{is_same_owner}
use Rattle.rb_policy.specs.declared.caller_rate.LogCaller.{LogCaller}
use Rattle.rb_policy.specs.declared.caller_rate.LogCaller.TheVariants as callers
use Rattle.rb_policy.specs.declared.caller_rate.Count.{Count}
use Rattle.rb_policy.specs.declared.caller_rate.CallerCount.{CallerCount}
use Rattle.rb_policy.specs.declared.caller_rate.CallerRate.{CallerRate}
use Rattle.rb_policy.specs.declared.caller_rate.LeftOut.{LeftOut}
use Rattle.rb_policy.specs.Recents.{one_second}

-- the most lines of one caller in a second
abbrev pub lines_a_second : ℕ
lines_a_second = 20

-- how many callers have a count of their own in a second
abbrev pub own_counts : ℕ
own_counts = 8

abbrev pub second_of : ℕ → ℕ
second_of now = now / one_second

-- the greatest number that is counted to
abbrev pub greatest : ℕ
greatest = 2 ^ 64 - 1

-- ---- one caller

abbrev pub is_same_caller : LogCaller → LogCaller → Bool
is_same_caller (callers.Owner a) (callers.Owner b) = is_same_owner a b
is_same_caller (callers.Host a) (callers.Host b) = is_same_host a b
is_same_caller (callers.Owner a) (callers.Host b) = false
is_same_caller (callers.Host a) (callers.Owner b) = false

abbrev pub no_lines : Count
no_lines = record { written = 0; left_out = 0 }

-- LOG-1: Of each kind of lines, accepted changes, refused changes, refused calls and connections that are given up, the log
-- gets at most 20 of one caller in each whole second of the daemon's clock, as far as a turn has room for them. Callers of
-- this machine count by their owner, others by their host.
abbrev pub gets : Count → Bool → Bool
gets count has_room = has_room && nat_lt count.written lines_a_second

-- one more is written, or left out; the greatest count stays
abbrev pub counted : Count → Bool → Count
counted count has_room =
    if gets count has_room then record count { written = count.written + 1 }
    else record count { left_out = min (count.left_out + 1) greatest }

-- ---- callers

-- Places for counts: each is free, or has a caller's. They are taken from the first on.
abbrev pub Places : Type 0
Places = List (Option CallerCount)

-- whether a caller counts at a place: if it is his, or free
abbrev pub fits : LogCaller → Option CallerCount → Bool
fits caller None = true
fits caller (Some one) = is_same_caller one.caller caller

abbrev pub count_in : Option CallerCount → Count
count_in None = no_lines
count_in (Some one) = one.count

-- LOG-4: The first eight owners of a second, and the first eight hosts, have counts of their own. All owners that come later
-- in it share one count, and so do all hosts.
abbrev pub count_of : LogCaller → Count → Places → Count
count_of caller others [] = others
count_of caller others (place ∷ more) = if fits caller place then count_in place else count_of caller others more

-- the places after a caller's count has become another one
abbrev pub with_count : LogCaller → Count → Places → Places
with_count caller count [] = []
with_count caller count (place ∷ more) =
    if fits caller place then Some (record { caller = caller; count = count }) ∷ more
    else place ∷ with_count caller count more

-- whether a caller has a place, or gets one
abbrev pub has_place : LogCaller → Places → Bool
has_place caller [] = false
has_place caller (place ∷ more) = fits caller place || has_place caller more

-- ---- lines that were left out

abbrev pub left_out_in : Option CallerCount → ℕ
left_out_in place = (count_in place).left_out

-- how many were left out of all callers
abbrev pub left_out_of : CallerRate → ℕ
left_out_of rate = min (rate.others.left_out + sum_by left_out_in rate.places) greatest

-- ---- one line that is asked for

abbrev pub rate_new : CallerRate
rate_new = record { second = 0; places = replicate own_counts None; others = no_lines }

-- what is known at a moment: in another second than that of the last line, none is written
abbrev pub rate_at : CallerRate → ℕ → CallerRate
rate_at rate now =
    if second_of now == rate.second then rate
    else record {
      second = second_of now;
      places = replicate own_counts None;
      others = record { written = 0; left_out = left_out_of rate };
    }

-- whether the log gets a line of this caller, if there is room for it
-- LOG-1
abbrev pub gets_line : CallerRate → ℕ → LogCaller → Bool → Bool
gets_line rate now caller has_room =
    let at : CallerRate = rate_at rate now in gets (count_of caller at.others at.places) has_room

-- what is known then
abbrev pub rate_by : CallerRate → LogCaller → Bool → CallerRate
rate_by rate caller has_room =
    let count : Count = counted (count_of caller rate.others rate.places) has_room in
    if has_place caller rate.places then record rate { places = with_count caller count rate.places }
    else record rate { others = count }

-- LOG-1
abbrev pub rate_after : CallerRate → ℕ → LogCaller → Bool → CallerRate
rate_after rate now caller has_room = rate_by (rate_at rate now) caller has_room

-- ---- how many were left out

abbrev pub has_left_out : Option CallerCount → Bool
has_left_out place = nat_lt 0 (left_out_in place)

-- the place of the first caller of whom some were left out
abbrev pub first_place : CallerRate → Option ℕ
first_place rate = position has_left_out rate.places

-- how many were left out, of the caller at a place, or of all without a count of their own
abbrev pub left_out_at : Option CallerCount → Option LeftOut
left_out_at None = None
left_out_at (Some one) = Some (record { caller = Some one.caller; count = one.count.left_out })

abbrev pub first_left_out : CallerRate → Option ℕ → Option LeftOut
first_left_out rate (Some place) = left_out_at (slice_index_or rate.places place None)
first_left_out rate None =
    if rate.others.left_out == 0 then None else Some (record { caller = None; count = rate.others.left_out })

-- LOG-5: How many lines were left out is told in a later second, from the end of theirs on: of each caller that has a count of
-- its own by a line that names it, and of all others by one.
abbrev pub tells : CallerRate → ℕ → Option LeftOut
tells rate now = if second_of now == rate.second then None else first_left_out rate (first_place rate)

-- what is known once that is told
abbrev pub told_at : Option CallerCount → Option CallerCount
told_at None = None
told_at (Some one) = Some (record one { count = record one.count { left_out = 0 } })

abbrev pub first_told : CallerRate → Option ℕ → CallerRate
first_told rate (Some place) = record rate { places = slice_set rate.places place (told_at (slice_index_or rate.places place None)) }
first_told rate None = record rate { others = record rate.others { left_out = 0 } }

-- LOG-5
abbrev pub rate_told : CallerRate → ℕ → CallerRate
rate_told rate now = if second_of now == rate.second then rate else first_told rate (first_place rate)

-- the moment from which they are told, if some were left out: the end of their second, or the greatest one
-- LOG-5
abbrev pub next_line : CallerRate → Option ℕ
next_line rate =
    if left_out_of rate == 0 then None else Some (min ((rate.second + 1) * one_second) greatest)
