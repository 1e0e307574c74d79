-- The moments of what was served last, of one place and of all places of a table.
use Rattle.std.specs.Prelude.{◌≡◌, ℕ, ◌+◌, ◌-◌, ◌≤◌, nat_lt, nat_le, Bool, false, ◌||◌, List, [], ◌∷◌, ◌++◌, length, drop, slice_set, slice_index_or}

-- a second, in milliseconds
abbrev pub one_second : ℕ
one_second = 1000

-- the moments of the last that were served of one place, in their order, at most this many
pub record RecentMoments : Type 0 where
  pub most : ℕ
  pub moments : List ℕ

-- There is memory for the most.
pub record IsRecent (moments : List ℕ) (capacity most : ℕ) : Type 0 where
  pub within : length moments ≤ most
  pub memory : most ≤ capacity

-- the last of a list, this many of them
abbrev pub last_of : ℕ → List ℕ → List ℕ
last_of most moments = drop (length moments - most) moments

-- whether the first of these is a second old
abbrev pub is_first_old : List ℕ → ℕ → Bool
is_first_old [] now = false
is_first_old (moment ∷ more) now = nat_le (moment + one_second) now

-- whether one more may be served at a moment
abbrev pub has_room : RecentMoments → ℕ → Bool
has_room recent now = nat_lt (length recent.moments) recent.most || is_first_old recent.moments now

-- what is kept when one more was served
abbrev pub noted : RecentMoments → ℕ → RecentMoments
noted recent now = record { most = recent.most; moments = last_of recent.most (recent.moments ++ now ∷ []) }

abbrev pub nothing_of : ℕ → RecentMoments
nothing_of most = record { most = most; moments = [] }

-- One more was served of a place of a table, at this moment.
abbrev pub NotesAt : ℕ → ℕ → List RecentMoments → List RecentMoments → Type 0
NotesAt place now old new = (d : RecentMoments) → new ≡ slice_set old place (noted (slice_index_or old place d) now)
