-- Which paths the local socket may have, in the words of a line.
use Rattle.std.specs.Prelude.{ℕ, ◌==◌, nat_le, not, Bool, ◌&&◌, List, length}
use Rattle.std.specs.List.{list_all}

-- no control character, and no quote: so that the path can stand in quotes in a line
abbrev pub is_quotable : ℕ → Bool
is_quotable b = nat_le 32 b && not (b == 39)

-- a path of 1 to 107 such bytes
abbrev pub is_path : List ℕ → Bool
is_path text = not (length text == 0) && nat_le (length text) 107 && list_all is_quotable text
