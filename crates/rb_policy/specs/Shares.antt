-- How much of the time the kernel's tables are read, while other work waits. Moments are in milliseconds.
use Rattle.std.specs.Prelude.{◌≡◌, ◌≤◌, ℕ, ◌+◌, ◌-◌, ◌*◌, ◌^◌, nat_le, min, Bool, true, false, ◌||◌, Option, Some, None}

-- A turn from `at` to `now` read a slice: other work goes first for three times as long.
-- SHARE-1: While other work waits, the turns that read a slice of the kernel's tables are a quarter of the time at most; while none waits, each turn reads one.
abbrev pub rest_after : ℕ → ℕ → ℕ
rest_after at now = min (now + min ((now - at) * 3) (2 ^ 64 - 1)) (2 ^ 64 - 1)

-- as a turn begins, the last one of which read a slice at a moment, or none
abbrev pub rests_until : ℕ → Option ℕ → ℕ → ℕ
rests_until now (Some at) before = rest_after at now
rests_until now None before = before

abbrev pub may_read : ℕ → Bool → ℕ → Bool
may_read now is_idle rests = is_idle || nat_le rests now

-- when the last turn read a slice, if it did, by whether this one does
abbrev pub read_at : ℕ → Bool → Option ℕ → Option ℕ
read_at now true before = Some now
read_at now false before = before

-- From such a turn's begin to the next one, if other work waits, are at least four times as many milliseconds as it took.
-- SHARE-1
abbrev pub SlicesAreAQuarter : Type 0
SlicesAreAQuarter =
    (at now next : ℕ) → at ≤ now → rest_after at now ≤ 2 ^ 64 - 2 → may_read next false (rest_after at now) ≡ true
    → (now - at) * 4 ≤ next - at
