-- What follows of who is given up.
use Rattle.std.specs.Prelude.{◌≡◌, ◌≤◌, ◌<◌, ℕ, ◌+◌, ◌*◌, ◌^◌, ◌/◌, max, Bool, true, false, not, ◌||◌, length, count_by, slice_get, slice_set, Option, Some, None}
use Rattle.rb_rpc.specs.declared.standing.Standing.TheVariants.{Awaiting}
use Rattle.rb_policy.specs.declared.origin.Origin.{Origin}
use Rattle.rb_policy.specs.declared.origin.Origin.TheVariants.{User, New, Waiting, Unawaited}
use Rattle.rb_policy.specs.declared.door.Holder.{Holder}
use Rattle.rb_policy.specs.Origins.{is_same_origin, is_roots, is_unawaited, share_of}
use Rattle.rb_policy.specs.Door.{Places, is_free, count_held_by, may_hold_more, is_within_share, rank, IsGivenUp}

-- the holder of a place
abbrev pub HoldsAt : Places → ℕ → Holder → Type 0
HoldsAt places place holder = slice_get places place ≡ Some (Some holder)

-- If one is given up on which somebody may wait, the newcomer's origin then holds no more than its share, or no more than before,
-- unless it is root.
-- DOOR-4
abbrev pub SharesAreKept : Type 0
SharesAreKept =
    (places : Places) (newcomer : Origin) (now place : ℕ) (holder before : Holder) → is_roots newcomer ≡ false
    → holder.origin ≡ newcomer → IsGivenUp places newcomer now place
    → HoldsAt places place before → is_unawaited before.origin ≡ false
    → count_held_by (slice_set places place (Some holder)) newcomer ≤ max (share_of newcomer (length places)) (count_held_by places newcomer)

-- It is one connection, and no other.
abbrev pub OneIsGivenUp : Type 0
OneIsGivenUp =
    (places : Places) (newcomer : Origin) (now a b : ℕ)
    → IsGivenUp places newcomer now a → IsGivenUp places newcomer now b → a ≡ b

-- A connection of root is given up only if all are root's.
-- DOOR-10
abbrev pub RootStays : Type 0
RootStays =
    (places : Places) (newcomer : Origin) (now place k : ℕ) (holder other : Holder)
    → IsGivenUp places newcomer now place → HoldsAt places place holder → is_roots holder.origin ≡ true
    → HoldsAt places k other → is_roots other.origin ≡ true

-- While there is a connection on which nobody waits for a reply, no other is given up.
-- DOOR-10
abbrev pub UnawaitedGoFirst : Type 0
UnawaitedGoFirst =
    (places : Places) (newcomer : Origin) (now place k : ℕ) (holder other : Holder)
    → IsGivenUp places newcomer now place → HoldsAt places place holder
    → HoldsAt places k other → other.origin ≡ Unawaited → holder.origin ≡ Unawaited

-- Of those whose calls wait for the kernel's tables, and that stand alike, the one that came last is given up.
-- DOOR-11
abbrev pub EarlierWaits : Type 0
EarlierWaits =
    (places : Places) (newcomer : Origin) (now place k : ℕ) (holder other : Holder)
    → IsGivenUp places newcomer now place → HoldsAt places place holder → holder.origin ≡ Waiting
    → HoldsAt places k other → other.origin ≡ Waiting → other.standing ≡ holder.standing → other.since < 2 ^ 64
    → other.since ≤ holder.since

-- While those whose whole calls are held back are no more than their share, one of them is given up for a newcomer only if
-- all others but root wait for an end too.
-- DOOR-12
abbrev pub WaitersGoLast : Type 0
WaitersGoLast =
    (places : Places) (newcomer : Origin) (now place k : ℕ) (holder other : Holder)
    → IsGivenUp places newcomer now place → is_same_origin Waiting newcomer ≡ false → is_within_share places Waiting ≡ true
    → HoldsAt places place holder → holder.origin ≡ Waiting → holder.standing ≡ Awaiting
    → HoldsAt places k other → is_roots other.origin ≡ false → rank Awaiting ≤ rank other.standing

-- ---- what a user of this host can't take

-- whether a connection can't be one of a user: it is of another origin, and not one whose user is yet to be known
abbrev pub is_anothers : ℕ → Origin → Bool
is_anothers uid origin =
    not (is_same_origin origin (User uid) || (is_same_origin origin New || (is_same_origin origin Waiting || is_same_origin origin Unawaited)))

abbrev pub is_held_by_another : ℕ → Option Holder → Bool
is_held_by_another uid None = false
is_held_by_another uid (Some holder) = is_anothers uid holder.origin

-- However a user makes connections: if one is given up for a newcomer, which can't be that user's and counts among no more
-- than their share, then others hold what three quarters leave, if no place is free.
-- DOOR-4
abbrev pub OthersKeepAQuarter : Type 0
OthersKeepAQuarter =
    (places : Places) (newcomer : Origin) (now place uid : ℕ) (holder : Holder)
    → IsGivenUp places newcomer now place → may_hold_more places newcomer ≡ true → HoldsAt places place holder
    → is_anothers uid holder.origin ≡ true → is_within_share places holder.origin ≡ true
    → is_roots holder.origin ≡ false → is_roots (User uid) ≡ false
    → length places ≤ count_by (is_held_by_another uid) places + 3 * max (length places / 4) 1 + count_by is_free places
