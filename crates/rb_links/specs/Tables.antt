-- What walks through the kernel's tables look for at each place, and what is noted there.
use Rattle.std.specs.Prelude.{◌≡◌, ℕ, Bool, List, slice_get, Option, Some, None, option_and_then}
use Rattle.rb_address.specs.declared.host.Family.{Family}
use Rattle.rb_evidence.specs.declared.sight.Sight.{Sight}
use Rattle.rb_arrivals.specs.declared.visitor.Visitor.{Visitor}
use Rattle.rb_links.specs.declared.link.Link.{Link}
use Rattle.rb_links.specs.declared.places.Places.{Places}
use Rattle.rb_links.specs.Shown.{IsSoughtBy, HasSeen, IsShown}
use Rattle.rb_links.specs.Holding.{BeginsAnew}
use Rattle.rb_policy.specs.declared.origin.Origin.{Origin}

-- what a walk looks for at a place, if it does
abbrev pub sight_at : Places → ℕ → Option Sight
sight_at places key = option_and_then (λ sight. sight) (slice_get places.sights.items key)

-- The connection at a place is whose it was when it was accepted.
-- TABLES-9: What the kernel's tables show of a connection is of the two ends of its own socket, as it was accepted; nothing
-- that they showed of one that is closed is left.
pub record IsSeated (visitor : Visitor) (origin : Origin) (moment : ℕ) (link : Link) : Type 0 where
  pub visitor_is : link.visitor ≡ Some visitor
  pub number : link.id ≡ None
  pub origin_is : link.origin ≡ origin
  pub since : link.since ≡ moment
  pub begins : BeginsAnew link

abbrev pub IsSeatedAt : ℕ → Visitor → Origin → ℕ → Places → Type 0
IsSeatedAt key visitor origin moment places =
    (link : Link) → slice_get places.links.items key ≡ Some link → IsSeated visitor origin moment link

-- It goes on as whoever the tables show.
-- TRUST-14
pub record IsShownAt (key moment : ℕ) (old new : Places) : Type 0 where
  pub before : Link
  pub was : slice_get old.links.items key ≡ Some before
  pub after : Link
  pub is : slice_get new.links.items key ≡ Some after
  pub shown : IsShown moment before after

-- What is looked for at a place are the two ends of the connection that has it.
-- TABLES-2
abbrev pub IsSoughtAt : ℕ → Family → List Link → List (Option Sight) → Type 0
IsSoughtAt key table links sights =
    (link : Link) → slice_get links key ≡ Some link
    → (sight : Sight) → slice_get sights key ≡ Some (Some sight)
    → IsSoughtBy table link sight

abbrev pub AreSoughtIn : Family → List Link → List (Option Sight) → Type 0
AreSoughtIn table links sights = (key : ℕ) → IsSoughtAt key table links sights

abbrev pub AreSought : Family → Places → Type 0
AreSought table places = AreSoughtIn table places.links.items places.sights.items

-- TABLES-3
abbrev pub HasSeenAt : ℕ → Bool → List (Option Sight) → List Link → List Link → Type 0
HasSeenAt key is_whole sights old new =
    (link : Link) → slice_get old key ≡ Some link
    → (sight : Sight) → slice_get sights key ≡ Some (Some sight)
    → (after : Link) × (slice_get new key ≡ Some after) × HasSeen is_whole sight link after

abbrev pub HaveSeenIn : Bool → List (Option Sight) → List Link → List Link → Type 0
HaveSeenIn is_whole sights old new = (key : ℕ) → HasSeenAt key is_whole sights old new

abbrev pub HaveSeen : Bool → Places → Places → Type 0
HaveSeen is_whole old new = HaveSeenIn is_whole old.sights.items old.links.items new.links.items
