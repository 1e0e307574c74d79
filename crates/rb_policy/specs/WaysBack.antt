-- On which sockets the calls came that came over UDP, were forwarded and have not ended; and what follows.
use Rattle.std.specs.Prelude.{◌≡◌, ◌≢◌, ◌<◌, ℕ, List, [], ◌∷◌, ◌++◌, length, find, filter, nat_lt, Bool, not, ◌==◌, if◌then◌else◌, Option, Some, None}
use Rattle.std.specs.Option.{option_map}
use Rattle.rb_policy.specs.declared.ways_back.Way.{Way}

-- at most this many, in the order in which they were noted
pub record Ways : Type 0 where
  pub most : ℕ
  pub all : List Way

-- one more, if there is room
abbrev pub noted : Ways → ℕ → ℕ → Ways
noted ways number socket =
    if nat_lt (length ways.all) ways.most then record { most = ways.most; all = ways.all ++ record { number = number; socket = socket } ∷ [] }
    else ways

abbrev pub is_of : ℕ → Way → Bool
is_of number way = way.number == number

-- the socket of the first that has this number
-- WAYBACK-1
abbrev pub socket_of : ℕ → List Way → Option ℕ
socket_of number all = option_map (λ w. w.socket) (find (is_of number) all)

-- those that have another number
abbrev pub without : ℕ → Ways → Ways
without number ways = record { most = ways.most; all = filter (λ w. not (is_of number w)) ways.all }

-- ---- what follows

-- WAYBACK-1: The end of a forwarded call that came over UDP goes out on the socket on which the
-- call came, which is noted by the call's number.
abbrev pub EndsGoBack : Type 0
EndsGoBack =
    (ways : Ways) (number socket : ℕ) → length ways.all < ways.most → socket_of number ways.all ≡ None
    → socket_of number (noted ways number socket).all ≡ Some socket

-- What is noted of other calls, and their ends, change nothing of that.
-- WAYBACK-1
abbrev pub OthersStay : Type 0
OthersStay =
    (ways : Ways) (number other socket : ℕ) → number ≢ other
    → (socket_of other (noted ways number socket).all ≡ socket_of other ways.all)
    × (socket_of other (without number ways).all ≡ socket_of other ways.all)
