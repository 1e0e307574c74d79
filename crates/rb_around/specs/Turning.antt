-- Which connections a turn serves.
use Rattle.std.specs.Prelude.{◌≡◌, ℕ, List, [], ◌∷◌}
use Rattle.rb_policy.specs.Rounds.{StayBut}
use Rattle.rb_links.specs.declared.places.Places.{Places}
use Rattle.rb_around.specs.declared.held.HeldLink.{HeldLink}

-- No connection counts as served that did not before.
pub record ServesNone (old new : Places) : Type 0 where
  pub served : new.rounds.served ≡ old.rounds.served
  pub count : new.rounds.count ≡ old.rounds.count

-- None but the connection at this place may have changed, and none counts as served that did not before.
pub record ServesOnly (key : ℕ) (old new : Places) : Type 0 where
  pub none : ServesNone old new
  pub others : StayBut key old.links.items new.links.items

-- So it is, and the rest holds from there on.
pub record ServesFirst (key : ℕ) (old : Places) (rest : Places → Type 0) : Type 0 where
  pub mid : Places
  pub before : ServesOnly key old mid
  pub after : rest mid

-- Each of these has gone on, in their order, and no other.
-- KEEP-18
unfoldable pub ServesEach : List HeldLink → Places → Places → Type 0
ServesEach [] old new = new ≡ old
ServesEach (held ∷ more) old new = ServesFirst held.key old (λ mid. ServesEach more mid new)
