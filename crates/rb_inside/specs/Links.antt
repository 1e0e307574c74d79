-- What goes between the place of a connection and the core, which knows the connection by its number.
use Rattle.std.specs.Prelude.{◌≡◌, ℕ, drop, Some, Result, Ok}
use Rattle.rb_model.specs.declared.types.CoreFault.{CoreFault}
use Rattle.rb_model.specs.declared.types.Exchanged.{Exchanged}
use Rattle.rb_model.specs.declared.types.Given.{Given}
use Rattle.rb_model.specs.Exchanges.{taken_in}
use Rattle.rb_model.specs.Step.{open_connection, close_connection}
use Rattle.rb_core.specs.Events.{length_taken}
use Rattle.rb_arrivals.specs.declared.arrival.Arrival.{Arrival}
use Rattle.rb_arrivals.specs.Arrivals.{who_of}
use Rattle.rb_links.specs.declared.link.Link.{Link}
use Rattle.rb_links.specs.declared.places.Places.{Places}
use Rattle.rb_links.specs.Numbers.{number_at, arrival_at}
use Rattle.rb_engine.specs.declared.engine.Engine.{Engine}
use Rattle.rb_arrivals.specs.PlainCallers.{plain_who}
use Rattle.rb_engine.specs.Moves.{Moves, ActsNow}
use Rattle.rb_inside.specs.Outboxes.{FillsOutbox, WritesToOutbox}

-- LINK-1: What is read from a connection is handed in under its own number, each byte once, in order; and what the core gives
-- on that number stands in its outbox, in order.
-- INBOX-1
pub record HandsInOn (id : ℕ) (old new : Link) (before after : Engine) : Type 0 where
  pub result : Result Exchanged CoreFault
  pub fills : FillsOutbox id old.inbox before after old.outbox new.outbox result
  pub inbox : new.inbox ≡ drop (length_taken (taken_in result)) old.inbox
  pub number : new.id ≡ old.id

-- under the number that the place has
-- LINK-1
abbrev pub HandsIn : Link → Link → Engine → Engine → Type 0
HandsIn old new before after = (id : ℕ) → old.id ≡ Some id → HandsInOn id old new before after

-- What this connection owes was given, as far as there was room, and stands in the outbox.
-- LINK-1
pub record TakesOverOn (id : ℕ) (old new : Link) (before after : Engine) : Type 0 where
  pub result : Result Given CoreFault
  pub writes : WritesToOutbox id before after old.outbox new.outbox result
  pub inbox : new.inbox ≡ old.inbox
  pub number : new.id ≡ old.id

abbrev pub TakesOver : Link → Link → Engine → Engine → Type 0
TakesOver old new before after = (id : ℕ) → old.id ≡ Some id → TakesOverOn id old new before after

-- The connection at a place was opened, as one of whoever came in there, and the place has its number.
-- LINK-2: A place has the number under which its connection was opened, as one of whoever came in there.
-- TRUST-14
pub record OpensAt (key : ℕ) (before after : Engine) (old new : Places) : Type 0 where
  pub arrival : Arrival
  pub came : arrival_at old key ≡ Some arrival
  pub id : ℕ
  pub acts : ActsNow (λ s now. open_connection s now (plain_who (who_of arrival))) before after (Ok id)
  pub number : number_at new key ≡ Some id

-- The connection that has the number of a place was closed.
-- LINK-2 CLOSE-1
pub record ClosesAt (key id : ℕ) (before after : Engine) (old : Places) : Type 0 where
  pub number : number_at old key ≡ Some id
  pub acts : Moves (λ s now. (close_connection s id).1) before after

-- It was closed, and another one opened in its place.
-- LINK-2
pub record OpensAgain (key : ℕ) (before after : Engine) (old new : Places) : Type 0 where
  pub arrival : Arrival
  pub came : arrival_at old key ≡ Some arrival
  pub closed : ℕ
  pub was : number_at old key ≡ Some closed
  pub id : ℕ
  pub acts : ActsNow (λ s now. open_connection (close_connection s closed).1 now (plain_who (who_of arrival))) before after (Ok id)
  pub is : number_at new key ≡ Some id
