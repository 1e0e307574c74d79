-- What a contract sees of an `Ordered`.
use Rattle.std.specs.Prelude.{◌≤◌, ℕ, zero, suc, ◌+◌, ◌-◌, ◌/◌, ◌^◌, nat_le, Bool, if◌then◌else◌, List, [], ◌∷◌, length, Option, Some, None, unwrap_or}

-- the numbers in rising order, each with its key, how many there may be, and the number of the meter that counts the
-- calls
pub record Ordered : Type 0 where
  pub entries : List (ℕ × ℕ)
  pub cap : ℕ
  pub tie : ℕ

-- the numbers rise, from that one on
abbrev pub IsRisingFrom : ℕ → List (ℕ × ℕ) → Type 0
IsRisingFrom low [] = Unit {0}
IsRisingFrom low (e ∷ rest) = (low ≤ e.0) × IsRisingFrom (e.0 + 1) rest

-- and none stands twice
abbrev pub IsRising : List (ℕ × ℕ) → Type 0
IsRising entries = IsRisingFrom 0 entries

-- how many of them are at most that number
abbrev pub count_upto : ℕ → List (ℕ × ℕ) → ℕ
count_upto number [] = 0
count_upto number (e ∷ rest) = if nat_le e.0 number then count_upto number rest + 1 else 0

-- the last of them that is at most that number, with its key
-- SEARCH-1: Numbers in rising order are searched by halves, to the end each time: a step for each
-- look, at most k + 1 among 2^k numbers. A number that is put among them or taken from them moves
-- each greater one, a step for each, and one for itself.
abbrev pub last_upto : ℕ → List (ℕ × ℕ) → Option (ℕ × ℕ)
last_upto number [] = None
last_upto number (e ∷ rest) = if nat_le e.0 number then Some (unwrap_or (last_upto number rest) e) else None

-- a number more, in its place
abbrev pub with_number : List (ℕ × ℕ) → ℕ → ℕ → List (ℕ × ℕ)
with_number [] number key = (number, key) ∷ []
with_number (e ∷ rest) number key =
    if nat_le e.0 number then e ∷ with_number rest number key else (number, key) ∷ e ∷ rest

-- the table with it
abbrev pub with_more : Ordered → ℕ → ℕ → Ordered
with_more table number key = record table { entries = with_number table.entries number key }

-- ---- costs

-- how often a number can be halved, rounded up, until it is 1, and once more: the looks of a search among this many
abbrev pub halvings : ℕ → ℕ → ℕ
halvings zero count = 0
halvings (suc most) count = if nat_le count 1 then count else halvings most (count - count / 2) + 1

-- SEARCH-1
unfoldable pub looks : ℕ → ℕ
looks count = halvings count count

-- A search among at most 2^k numbers takes k + 1 looks at most.
abbrev pub LooksAreFew : Type 0
LooksAreFew = (count power : ℕ) → count ≤ 2 ^ power → looks count ≤ power + 1

-- how many move when a number is put in its place or taken from it, and 1 for itself
-- SEARCH-1
abbrev pub moves : ℕ → List (ℕ × ℕ) → ℕ
moves number entries = length entries - count_upto number entries + 1

-- a search, and what moves
abbrev pub insert_cost : ℕ → List (ℕ × ℕ) → ℕ
insert_cost number entries = looks (length entries) + moves number entries

-- a search and, if the number was there, what moves
abbrev pub remove_cost : ℕ → List (ℕ × ℕ) → Bool → ℕ
remove_cost number entries there = looks (length entries) + (if there then moves number entries else 0)
