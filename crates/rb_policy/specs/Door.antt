-- Who gets a place for a connection, and who is given up for it.
use Rattle.std.specs.Prelude.{◌≡◌, ℕ, true, false, nat_lt, Bool, not, ◌||◌, if◌then◌else◌, IsTrue, List, [], length, slice_get, count_by, position, Option, Some, None}
use Rattle.std.specs.declared.cmp.Ordering.{Ordering}
use Rattle.std.specs.declared.cmp.Ordering.TheVariants.{Less}
use Rattle.std.specs.Ordering.{nat_cmp, bool_cmp, on, then_cmp}
use Rattle.rb_forward.specs.Forwards.{later}
use Rattle.rb_rpc.specs.declared.standing.Standing.{Standing}
use Rattle.rb_rpc.specs.declared.standing.Standing.TheVariants.{Idle, Reading, Owing, Awaiting, Sends, Lost}
use Rattle.rb_policy.specs.declared.origin.Origin.{Origin}
use Rattle.rb_policy.specs.declared.door.Holder.{Holder}
use Rattle.rb_policy.specs.declared.door.Candidate.{Candidate}
use Rattle.rb_policy.specs.declared.door.Admission.{Admission}
use Rattle.rb_policy.specs.declared.door.Admission.TheVariants.{Take, GiveUp, Close}
use Rattle.rb_policy.specs.Origins.{is_same_origin, is_roots, is_unawaited, share_of, class_of, is_local, is_active, goes_by}

-- of the places for connections, each is free or has a holder
abbrev pub Places : Type 0
Places = List (Option Holder)

abbrev pub is_free : Option Holder → Bool
is_free None = true
is_free (Some holder) = false

-- ---- what is kept of a connection

-- A connection's progress is its opening, a record that ended, and bytes of a reply that its socket took. It is
-- Awaiting while its call is forwarded, Owing while its socket has not taken all that it is owed, Reading while its
-- first call, or the rest of one, is still to come, and otherwise Idle.

-- where it stands outside: what the core gave is owed until the socket has taken it
-- DOOR-6: A connection whose outbox holds bytes is Owing, though the core counts them as given,
-- unless its call is forwarded; one whose call must be sent counts as Awaiting.
-- DOOR-6
abbrev pub standing_by : Standing → Bool → Standing
standing_by Sends is_owed = Awaiting
standing_by Awaiting is_owed = Awaiting
standing_by Idle is_owed = if is_owed then Owing else Idle
standing_by Reading is_owed = if is_owed then Owing else Reading
standing_by Owing is_owed = Owing
standing_by Lost is_owed = if is_owed then Owing else Lost

-- DOOR-8: A connection whose call is held back until the kernel's tables show whose it is counts as Awaiting.
abbrev pub standing_outside : Standing → Bool → Bool → Standing
standing_outside Idle is_owed is_held = if is_held then Awaiting else standing_by Idle is_owed
standing_outside Reading is_owed is_held = if is_held then Awaiting else standing_by Reading is_owed
standing_outside told is_owed is_held = standing_by told is_owed

-- how long bytes that are owed may wait for the socket to take some, in milliseconds
abbrev pub owed_for : ℕ
owed_for = 30000

-- the moment from which it is given up if its socket has taken nothing since another one
-- STUCK-1: A connection is closed whose socket has taken nothing of what its outbox holds for
-- 30,000 ms.
abbrev pub stuck_at : ℕ → ℕ
stuck_at since = later since owed_for

-- ---- shares

abbrev pub is_held_by : Origin → Option Holder → Bool
is_held_by origin None = false
is_held_by origin (Some holder) = is_same_origin holder.origin origin

abbrev pub count_held_by : Places → Origin → ℕ
count_held_by places origin = count_by (is_held_by origin) places

-- whether an origin may hold one place more; root always may
-- DOOR-4
abbrev pub may_hold_more : Places → Origin → Bool
may_hold_more places origin = is_roots origin || nat_lt (count_held_by places origin) (share_of origin (length places))

-- whether an origin holds no more than its share; root never does
abbrev pub is_within_share : Places → Origin → Bool
is_within_share places origin = is_roots origin || not (nat_lt (share_of origin (length places)) (count_held_by places origin))

-- ---- who is given up

-- DOOR-3
abbrev pub rank : Standing → ℕ
rank Idle = 0
rank Lost = 0
rank Reading = 1
rank Owing = 2
rank Awaiting = 3
rank Sends = 3

-- the holder of a place, as it stands at a moment
abbrev pub candidate_of : Places → ℕ → ℕ → Holder → Candidate
candidate_of places now place holder = record {
  class = class_of holder.origin;
  is_within_share = is_within_share places holder.origin;
  is_local = is_local holder.origin;
  is_active = is_active holder.origin holder.since now;
  standing = holder.standing;
  goes_by = goes_by holder.origin holder.since;
  place = place;
}

-- The order in which holders are given up. Of two that differ in one of these, and in none before it, first goes: who
-- waits for no reply, and last root; who is over the share; who is of another host; who made no progress of late; who stands
-- earlier; who has made none for longer, or came later to wait for the tables; and who has the lower place.
-- DOOR-2: Of the connections that may be given up it is the one that no other goes before: of those that are equal by
-- DOOR-10, first goes one that counts among more than their share, then one that is not of this host.
-- DOOR-3: Of several connections that are equal by DOOR-2, first goes one without progress in the
-- last 1,000 ms; then Idle (and Lost) before Reading before Owing before Awaiting (and Sends); then
-- the one without progress for longest; then the one of the lower place.
abbrev pub by_precedence : Candidate → Candidate → Ordering
by_precedence =
    then_cmp (then_cmp (then_cmp (then_cmp (then_cmp (then_cmp
    (on (λ s. s.class) nat_cmp)
    (on (λ s. s.is_within_share) bool_cmp))
    (on (λ s. s.is_local) bool_cmp))
    (on (λ s. s.is_active) bool_cmp))
    (on (λ s. rank s.standing) nat_cmp))
    (on (λ s. s.goes_by) nat_cmp))
    (on (λ s. s.place) nat_cmp)

abbrev pub GoesBefore : Candidate → Candidate → Type 0
GoesBefore a b = by_precedence a b ≡ Less

-- A connection may be given up for a newcomer: any, if the newcomer's origin may hold one place more, and else one of the
-- same origin, or one on which nobody waits.
-- DOOR-4
abbrev pub may_go : Bool → Origin → Origin → Bool
may_go may_be_any newcomer origin = may_be_any || (is_same_origin origin newcomer || is_unawaited origin)

-- DOOR-4
pub record MayBeGivenUp (places : Places) (newcomer : Origin) (place : ℕ) (holder : Holder) : Type 0 where
  pub holds : slice_get places place ≡ Some (Some holder)
  pub may : IsTrue (may_go (may_hold_more places newcomer) newcomer holder.origin)

-- DOOR-2
pub record IsGivenUp (places : Places) (newcomer : Origin) (now : ℕ) (place : ℕ) : Type 0 where
  pub holder : Holder
  pub may : MayBeGivenUp places newcomer place holder
  pub first : (k : ℕ) (other : Holder) → MayBeGivenUp places newcomer k other → ¬ GoesBefore (candidate_of places now k other) (candidate_of places now place holder)

-- ---- what is done with a newcomer

-- DOOR-1: A client that comes takes the first free place. If none is free it takes that of a
-- connection that is given up for it. It is closed only if there are no places.
abbrev pub IsAdmitted : Places → Origin → ℕ → Admission → Type 0
IsAdmitted places newcomer now (Take place) = position is_free places ≡ Some place
IsAdmitted places newcomer now (GiveUp place) = (position is_free places ≡ None) × IsGivenUp places newcomer now place
IsAdmitted places newcomer now Close = places ≡ []
