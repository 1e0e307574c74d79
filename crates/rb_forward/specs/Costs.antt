-- What calls cost at most, in counted steps.
use Rattle.std.specs.Prelude.{ℕ, ◌+◌, ◌*◌}

-- a look for one of this many entries
abbrev pub find_cost : ℕ → ℕ
find_cost entries = 2 * entries + 2

-- a new entry whose arguments have this many bytes: the look for a place, a spare buffer, and the call's head
abbrev pub start_cost : ℕ → ℕ
start_cost args = args + 45

-- an entry of this many is looked for and taken out, and its buffer emptied and kept
abbrev pub end_cost : ℕ → ℕ
end_cost entries = find_cost entries + 4

-- an entry of this many is looked for, and its buffer emptied
abbrev pub sent_cost : ℕ → ℕ
sent_cost entries = find_cost entries + 3

-- an entry of this many is looked for, and this many bytes are lent
abbrev pub unsent_cost : ℕ → ℕ → ℕ
unsent_cost entries bytes = find_cost entries + 2 + bytes
