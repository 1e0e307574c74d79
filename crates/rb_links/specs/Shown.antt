-- Whose the connection at a place is, and what the kernel's tables show of its own two ends.
use Rattle.std.specs.Prelude.{◌≡◌, ◌+◌, ◌==◌, ◌⊎◌, ℕ, min, nat_lt, Bool, true, false, not, ◌&&◌, ◌||◌, if◌then◌else◌, Option, Some, None, option_map}
use Rattle.std.specs.Option.{is_some}
use Rattle.rb_address.specs.declared.host.Family.{Family}
use Rattle.rb_address.specs.Hosts.{family_of}
use Rattle.rb_evidence.specs.Walks.{uid_seen}
use Rattle.rb_evidence.specs.declared.sight.Sight.{Sight}
use Rattle.rb_policy.specs.declared.asks.Held.{Held}
use Rattle.rb_policy.specs.declared.asks.Held.TheVariants.{Nothing, Part, Whole}
use Rattle.rb_policy.specs.declared.evidence.Evidence.{Evidence}
use Rattle.rb_policy.specs.declared.evidence.Evidence.TheVariants.{NotFound}
use Rattle.rb_policy.specs.declared.origin.Origin.{Origin}
use Rattle.rb_policy.specs.declared.origin.Origin.TheVariants.{New}
use Rattle.rb_policy.specs.Evidence.{IsSightIn, looks_in, evidence_of, looks_again, shown_after}
use Rattle.rb_policy.specs.Origins.{origin_of}
use Rattle.rb_arrivals.specs.declared.arrival.Arrival.{Arrival}
use Rattle.rb_arrivals.specs.declared.arrival.Ends.{Ends}
use Rattle.rb_arrivals.specs.declared.visitor.Visitor.{Visitor}
use Rattle.rb_arrivals.specs.declared.visitor.Visitor.TheVariants.{Known, Unknown}
use Rattle.rb_arrivals.specs.Arrivals.{arrival_of, first_arrival, who_of}
use Rattle.rb_links.specs.declared.link.Link.{Link}
use Rattle.rb_links.specs.declared.link.Sought.{Sought}

-- how whoever is there came in, as far as is known
abbrev pub arrival_in : Link → Option Arrival
arrival_in link = option_map first_arrival link.visitor

abbrev pub ends_if_unknown : Option Visitor → Option Ends
ends_if_unknown (Some (Unknown ends)) = Some ends
ends_if_unknown (Some (Known arrival)) = None
ends_if_unknown None = None

-- its two ends, if it is not known whose it is
abbrev pub unknown_ends : Link → Option Ends
unknown_ends link = ends_if_unknown link.visitor

-- ---- what the kernel's tables are to show

abbrev pub is_held : Held → Bool
is_held Nothing = false
is_held Part = true
is_held Whole = true

-- they are to show whose it is, and were not asked yet
abbrev pub not_asked : Sought
not_asked = record { passes = 0; known = NotFound }

abbrev pub is_new : Origin → Bool
is_new New = true
is_new origin = false

-- once they are to show whose all are that came since they were last asked
-- TABLES-8
abbrev pub when_asked : Link → Link
when_asked link =
    if is_some (unknown_ends link) && is_new link.origin && not (is_some link.sought) then record link { sought = Some not_asked } else link

abbrev pub is_before_passes : Option Sought → Bool
is_before_passes None = false
is_before_passes (Some sought) = sought.passes == 0

-- whether it waits for a pass that has not begun
abbrev pub awaits_pass : Link → Bool
awaits_pass link = is_before_passes link.sought

abbrev pub takes_part : Family → Option Ends → Option Sought → Bool
takes_part table (Some ends) (Some sought) = nat_lt 0 sought.passes && looks_in table (family_of ends.theirs.host) sought.known
takes_part table (Some ends) None = false
takes_part table None sought = false

-- whether a walk through the table of this family looks for it
-- TABLES-2
abbrev pub is_sought_in : Family → Link → Bool
is_sought_in table link = not link.has_ended && takes_part table (unknown_ends link) link.sought

-- ---- what they show

-- A walk through the table of this family looks for its two ends.
-- TABLES-2
pub record IsSoughtBy (table : Family) (link : Link) (sight : Sight) : Type 0 where
  pub ends : Ends
  pub own : unknown_ends link ≡ Some ends
  pub sought : IsSightIn table ends.theirs ends.ours.address sight

-- a pass begins, of which nothing is known yet
abbrev pub in_next_pass : Sought → Sought
in_next_pass sought = record { passes = min (sought.passes + 1) 255; known = NotFound }

-- what is known after a walk, if it takes part in the pass
abbrev pub after_walk : Bool → Sight → Sought → Sought
after_walk is_whole sight sought =
    if sought.passes == 0 then sought else record sought { known = evidence_of is_whole (uid_seen sight.seen) }

-- What a walk has seen of a connection, and of no other, is noted of it.
abbrev pub HasSeen : Bool → Sight → Link → Link → Type 0
HasSeen is_whole sight old new = new ≡ record old { sought = option_map (after_walk is_whole sight) old.sought }

-- Whoever is at its other end came in so, by what the passes showed of its two ends, and by whether it is connected still.
-- TABLES-5
pub record IsShownBy (is_connected : Bool) (link : Link) (arrival : Arrival) : Type 0 where
  pub ends : Ends
  pub own : unknown_ends link ≡ Some ends
  pub sought : Sought
  pub passed : link.sought ≡ Some sought
  pub evidence : Evidence
  pub shown : shown_after sought.passes sought.known is_connected link.has_ended ≡ Some evidence
  pub arrival_is : arrival ≡ arrival_of ends evidence

abbrev pub has_more_to_come : Bool → Option Ends → Option Sought → Bool
has_more_to_come has_ended (Some ends) (Some sought) = sought.passes == 0 || (looks_again sought.passes sought.known && not has_ended)
has_more_to_come has_ended (Some ends) None = true
has_more_to_come has_ended None sought = true

-- whether it takes part in no pass, or in one more than it did
-- TABLES-7
abbrev pub may_be_told_later : Link → Bool
may_be_told_later link = has_more_to_come link.has_ended (unknown_ends link) link.sought

-- it counts as whoever came in so
abbrev pub counted_as : Arrival → Link → Link
counted_as arrival link = record link { sought = None; origin = origin_of (who_of arrival).trust (who_of arrival).source }

-- It goes on as whoever is shown, from this moment on, and counts so.
-- TRUST-14
pub record IsShown (moment : ℕ) (old new : Link) : Type 0 where
  pub arrival : Arrival
  pub is_connected : Bool
  pub shown : IsShownBy is_connected old arrival
  pub waited : is_held old.held ≡ true
  pub after : new ≡ record (counted_as arrival old) { visitor = Some (Known arrival); held = Nothing; since = moment }

-- Nothing of its call is held back, and it counts as whoever is shown.
-- TABLES-8
pub record IsCounted (old new : Link) : Type 0 where
  pub arrival : Arrival
  pub is_connected : Bool
  pub shown : IsShownBy is_connected old arrival
  pub waited : is_held old.held ≡ false
  pub after : new ≡ counted_as arrival old

-- It stays as it is.
pub record IsToldLater (old new : Link) : Type 0 where
  pub later : may_be_told_later old ≡ true
  pub after : new ≡ old

abbrev pub StaysUnknown : Link → Link → Type 0
StaysUnknown old new = IsToldLater old new ⊎ IsCounted old new
