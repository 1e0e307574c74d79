-- Whose the bytes are that a place has: it has the number under which its connection was opened.
use Rattle.std.specs.Prelude.{◌≡◌, ℕ, List, ◌++◌, drop, slice_get, Option}
use Rattle.std.specs.Option.{option_and_then}
use Rattle.rb_arrivals.specs.declared.arrival.Arrival.{Arrival}
use Rattle.rb_links.specs.declared.link.Link.{Link}
use Rattle.rb_links.specs.Shown.{arrival_in}
use Rattle.rb_links.specs.declared.places.Places.{Places}

-- What was read and not taken, and what is on its way, are as they were.
pub record HasItsBytes (old new : Link) : Type 0 where
  pub inbox : new.inbox ≡ old.inbox
  pub outbox : new.outbox ≡ old.outbox

-- without some of the first bytes
abbrev pub IsRest : List ℕ → List ℕ → Type 0
IsRest old new = (n : ℕ) × (new ≡ drop n old)

-- with more bytes behind them
abbrev pub HasMore : List ℕ → List ℕ → Type 0
HasMore old new = (more : List ℕ) × (new ≡ old ++ more)

-- the number of the connection at a place, if there is one and it is opened
abbrev pub number_at : Places → ℕ → Option ℕ
number_at places key = option_and_then (λ link. link.id) (slice_get places.links.items key)

-- how whoever is at a place came in, as far as is known
abbrev pub arrival_at : Places → ℕ → Option Arrival
arrival_at places key = option_and_then arrival_in (slice_get places.links.items key)
