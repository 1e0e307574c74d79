-- Which connections are served, and what a call makes of the place that it names.
use Rattle.std.specs.Prelude.{◌≡◌, ◌<◌, ℕ, ◌+◌, ◌-◌, ◌^◌, min, length, Bool, true, false, not, ◌&&◌, if◌then◌else◌, List, map, position, slice_get, Option, Some, None, option_map, option_and_then}
use Rattle.std.specs.Option.{is_some}
use Rattle.std.specs.List.{list_any}
use Rattle.rb_forward.specs.Deadlines.{soonest_of}
use Rattle.rb_rpc.specs.declared.standing.Standing.TheVariants.{Owing}
use Rattle.rb_policy.specs.declared.door.Admission.{Admission}
use Rattle.rb_policy.specs.declared.door.Admission.TheVariants.{Take, GiveUp, Close}
use Rattle.rb_policy.specs.declared.door.Holder.{Holder}
use Rattle.rb_policy.specs.declared.turns.Round.{Round}
use Rattle.rb_policy.specs.Origins.{is_unawaited}
use Rattle.rb_policy.specs.Rounds.{StayBut, is_left_at, IsLeft}
use Rattle.rb_links.specs.declared.link.Link.{Link}
use Rattle.rb_links.specs.declared.places.Places.{Places}
use Rattle.rb_links.specs.Shown.{is_held, in_next_pass, awaits_pass, StaysUnknown}
use Rattle.rb_links.specs.Stands.{is_free, is_number, holder_of, stuck_of, round_in, IsOver}

abbrev pub link_at : Places → ℕ → Option Link
link_at places key = slice_get places.links.items key

-- the key of the place that the connection of this number has
abbrev pub key_at : ℕ → Places → Option ℕ
key_at id places = position (λ link. is_number id link.id) places.links.items

-- whether something holds of the connection at a place, if there is that place
abbrev pub holds_in : (Link → Bool) → Option Link → Bool
holds_in holds None = false
holds_in holds (Some link) = holds link

abbrev pub holds_at : (Link → Bool) → ℕ → Places → Bool
holds_at holds key places = holds_in holds (link_at places key)

-- ---- who is served

abbrev pub is_opened_at : ℕ → Places → Bool
is_opened_at key places = holds_at (λ link. is_some link.id) key places

-- the round of a turn in which the connection at a place is served, if there is that place
abbrev pub round_at : ℕ → Places → Option Round
round_at key places = option_map (round_in (is_left_at places.rounds.left.items key)) (link_at places key)

abbrev pub awaits_at : ℕ → Places → Bool
awaits_at key places = holds_at awaits_pass key places

abbrev pub is_sought_at : ℕ → Places → Bool
is_sought_at key places = holds_at (λ link. is_some link.sought) key places

abbrev pub is_taken_at : ℕ → Places → Bool
is_taken_at key places = holds_at (λ link. not (is_free link)) key places

-- the moment at which it is given up, if its socket takes nothing until then, and the first such moment of all
-- STUCK-1
abbrev pub stuck_at : ℕ → Places → Option ℕ
stuck_at key places = option_and_then stuck_of (link_at places key)

abbrev pub next_stuck : Places → Option ℕ
next_stuck places = if places.are_owed then soonest_of (map stuck_of places.links.items) else None

-- ---- what changes at a place

-- The connection at a place is left for a later round, if there is that place.
abbrev pub IsLeftAt : ℕ → Places → Type 0
IsLeftAt key places = key < length places.rounds.served.items → IsLeft key places.rounds.left.items

-- The connection at the place changes so, and no other.
pub record ChangesAt (key : ℕ) (change : Link → Link) (old new : Places) : Type 0 where
  pub here : link_at new key ≡ option_map change (link_at old key)
  pub others : StayBut key old.links.items new.links.items
  pub rest : new ≡ record old { links = new.links; rounds = new.rounds }

-- it goes on: its forwarded call has ended
abbrev pub woken : Link → Link
woken link = record link { standing = Owing }

pub record IsWoken (key : ℕ) (old new : Places) : Type 0 where
  pub left : IsLeftAt key new
  pub changed : ChangesAt key woken old new

abbrev pub when_ended : Link → Link
when_ended link = record link { has_ended = true }

abbrev pub unnumbered : Link → Link
unnumbered link = record link { id = None }

abbrev pub renumbered : ℕ → Link → Link
renumbered id link = record link { id = Some id }

abbrev pub in_pass : Link → Link
in_pass link = record link { sought = option_map in_next_pass link.sought }

-- how many places have connections, once one has this place, if it is one
abbrev pub taken_after : ℕ → Places → ℕ
taken_after key places = if is_some (link_at places key) then min (places.taken + 1) (2 ^ 64 - 1) else places.taken

-- No connection has the place from here on.
pub record IsOverAt (key : ℕ) (old new : Places) : Type 0 where
  pub taken : new.taken ≡ old.taken - 1
  pub forgotten : IsLeft key new.rounds.left.items → ⊥
  pub here : (link : Link) → link_at new key ≡ Some link → IsOver link
  pub others : StayBut key old.links.items new.links.items

-- It does not go on, though a pass has ended.
abbrev pub StaysUnknownAt : ℕ → Places → Places → Type 0
StaysUnknownAt key old new =
    (link : Link) → link_at old key ≡ Some link → (after : Link) × (link_at new key ≡ Some after) × StaysUnknown link after

-- ---- who is let in

-- What decides who is let in knows of each connection how it stands.
abbrev pub IsNotedAt : ℕ → List Link → List (Option Holder) → Type 0
IsNotedAt key links holders =
    (link : Link) → slice_get links key ≡ Some link
    → (holder : Option Holder) → slice_get holders key ≡ Some holder → holder ≡ holder_of link

abbrev pub AreNoted : List Link → List (Option Holder) → Type 0
AreNoted links holders = (key : ℕ) → IsNotedAt key links holders

abbrev pub nobody_waits : Option (Option Holder) → Bool
nobody_waits (Some (Some holder)) = is_unawaited holder.origin
nobody_waits (Some None) = false
nobody_waits None = false

-- whether nobody waits on the connection at a place, as of the last newcomer
abbrev pub is_unawaited_at : ℕ → Places → Bool
is_unawaited_at key places = nobody_waits (slice_get places.holders.items key)

-- DOOR-14
abbrev pub looks_for_ends : Admission → Places → Bool
looks_for_ends (GiveUp key) places = not (is_unawaited_at key places) && list_any (λ link. is_held link.held) places.links.items
looks_for_ends (Take key) places = false
looks_for_ends Close places = false
