use Rattle.std.proofs.Common.{◌≡◌}
use Rattle.rb_policy.specs.Door.{may_hold_more}
use Rattle.rb_policy.specs.Candidates.{candidate_at, IsFirstOf}
use Rattle.rb_policy.proofs.door.given_up.Given as goal

abbrev pub invariant-loop-place : goal.invariant-loop-place
invariant-loop-place l =
    (l.may_be_any ≡ may_hold_more l.places l.newcomer) × IsFirstOf (candidate_at l.places l.newcomer l.now) l.place l.first
