-- For the search of who is given up: the holder of each place, and which of two goes first.
use Rattle.std.specs.Prelude.{◌≡◌, ℕ, ◌<◌, slice_get, Option, Some, None, if◌then◌else◌}
use Rattle.std.specs.Ordering.{is_lt}
use Rattle.rb_policy.specs.declared.origin.Origin.{Origin}
use Rattle.rb_policy.specs.declared.door.Holder.{Holder}
use Rattle.rb_policy.specs.declared.door.Candidate.{Candidate}
use Rattle.rb_policy.specs.Door.{Places, candidate_of, by_precedence, may_hold_more, may_go, GoesBefore, MayBeGivenUp}

abbrev pub held_candidate : Places → Origin → ℕ → ℕ → Option (Option Holder) → Option Candidate
held_candidate places newcomer now place None = None
held_candidate places newcomer now place (Some None) = None
held_candidate places newcomer now place (Some (Some holder)) =
    if may_go (may_hold_more places newcomer) newcomer holder.origin then Some (candidate_of places now place holder) else None

-- the holder of a place, if there is one that may be given up for the newcomer
abbrev pub candidate_at : Places → Origin → ℕ → ℕ → Option Candidate
candidate_at places newcomer now place = held_candidate places newcomer now place (slice_get places place)

abbrev pub first_of : Option Candidate → Option Candidate → Option Candidate
first_of None other = other
first_of (Some first) None = Some first
first_of (Some first) (Some other) = if is_lt (by_precedence other first) then Some other else Some first

-- Of the first n, it is the one that no other goes before; none if there is none.
abbrev pub IsFirstOf : (ℕ → Option Candidate) → ℕ → Option Candidate → Type 0
IsFirstOf f n None = (k : ℕ) → k < n → f k ≡ None
IsFirstOf f n (Some s) =
    ((k : ℕ) × (k < n) × (f k ≡ Some s)) × ((k : ℕ) (t : Candidate) → k < n → f k ≡ Some t → ¬ GoesBefore t s)

abbrev pub NobodyMayBeGivenUp : Places → Origin → Type 0
NobodyMayBeGivenUp places newcomer = (k : ℕ) (holder : Holder) → ¬ MayBeGivenUp places newcomer k holder
