-- When what is due ends: not before all was read that came in time.
use Rattle.std.specs.Prelude.{ℕ, ◌+◌, nat_lt, nat_le, Bool, not, ◌&&◌, ◌||◌, if◌then◌else◌}

-- DUE-2: A turn is behind if it did not look for events after it read its moment, if its look
-- showed as many sockets as it can show, or if it leaves something for the next.
abbrev pub is_behind : Bool → ℕ → ℕ → Bool → Bool
is_behind fresh shown most left = not fresh || nat_le most shown || left

-- how many turns in a row put off what is due, at most
abbrev pub most_put_off : ℕ
most_put_off = 64

-- whether a turn puts off what is due, if this many in a row before it did
-- DUE-3: A turn that is behind puts off what is due, and the next does not wait; at most 64 turns
-- in a row do so.
abbrev pub puts_off : ℕ → Bool → Bool → Bool
puts_off turns due behind = due && behind && nat_lt turns most_put_off

-- DUE-1: What is due in a turn ends in it, unless the turn puts it off.
abbrev pub ends : ℕ → Bool → Bool → Bool
ends turns due behind = due && not (puts_off turns due behind)

-- how many in a row have put it off then
-- DUE-3
abbrev pub put_off_after : ℕ → Bool → Bool → ℕ
put_off_after turns due behind = if puts_off turns due behind then turns + 1 else 0
