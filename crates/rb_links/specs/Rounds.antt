-- What a turn does with the connection that an event shows.
use Rattle.std.specs.Prelude.{◌≡◌, ◌≢◌, ◌<◌, ◌≤◌, ⊤, ℕ, true, false, List, [], ◌∷◌, length, slice_get, ◌⊎◌}
use Rattle.rb_policy.specs.Turns.{last_round}
use Rattle.rb_policy.specs.Rounds.{IsServedIn, IsLeft}
use Rattle.rb_links.specs.declared.places.Places.{Places}
use Rattle.rb_links.specs.Served.{is_opened_at}
use Rattle.rb_arrivals.specs.declared.shown.Shown.{Shown}
use Rattle.rb_arrivals.specs.declared.shown.Shown.TheVariants.{Connection, Forwards, Calls, Listener}

-- The turn of this number has served the connection at a place.
abbrev pub IsServedAt : ℕ → ℕ → Places → Type 0
IsServedAt turn key places = key < length places.rounds.served.items → IsServedIn turn key places.rounds.served.items

-- One is opened there, and the turn has not served it.
pub record IsFirstAt (turn key : ℕ) (places : Places) : Type 0 where
  pub opened : is_opened_at key places ≡ true
  pub first : IsServedIn turn key places.rounds.served.items → ⊥

-- The turn has served it, if one is opened there.
abbrev pub IsAgainAt : ℕ → ℕ → Places → Type 0
IsAgainAt turn key places = is_opened_at key places ≡ true → IsServedAt turn key places

-- The turn of this number has served the connection at a place, or it is left for a later one, or none is opened there.
-- TURN-6: An event of a connection is served in the turn that sees it, unless the connection is left for the last round of
-- this turn or a later one, which does not wait.
abbrev pub IsTakenUp : ℕ → ℕ → Places → Type 0
IsTakenUp turn key places =
    key < length places.rounds.served.items
    → IsServedIn turn key places.rounds.served.items ⊎ IsLeft key places.rounds.left.items ⊎ (is_opened_at key places ≡ false)

-- So is the connection that an event shows, if it shows one.
abbrev pub TakesUp : Shown → ℕ → Places → Type 0
TakesUp (Connection key) turn places = IsTakenUp turn key places
TakesUp (Forwards family) turn places = ⊤
TakesUp (Calls number) turn places = ⊤
TakesUp (Listener number) turn places = ⊤

-- none of these
abbrev pub IsNoneOf : List ℕ → ℕ → Type 0
IsNoneOf [] key = ⊤
IsNoneOf (one ∷ more) key = (key ≢ one) × IsNoneOf more key

-- It is as many connections as a last round serves, or fewer, that count as served and did not before.
-- TURN-3
pub record ServesFew (old new : List ℕ) : Type 0 where
  pub keys : List ℕ
  pub few : length keys ≤ last_round
  pub others : (key : ℕ) → IsNoneOf keys key → slice_get new key ≡ slice_get old key
