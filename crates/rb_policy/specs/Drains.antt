-- How one of the daemon's own sockets is called in a turn, and when it is served again.
use Rattle.std.specs.Prelude.{◌≡◌, ℕ, ◌+◌, ◌-◌, ◌^◌, min, nat_lt, Bool, true, false, ◌&&◌, if◌then◌else◌, List, [], ◌∷◌, Option, Some, None, is_none}
use Rattle.rb_policy.specs.declared.drains.Came.{Came}
use Rattle.rb_policy.specs.declared.drains.Came.TheVariants.{Something, Nothing}
use Rattle.rb_policy.specs.declared.drains.CallsSoFar.{CallsSoFar}
use Rattle.rb_policy.specs.declared.outcome.Next.TheVariants.{GoOn, AwaitEvent, AwaitTurn, Close}
use Rattle.rb_policy.specs.declared.turns.Again.{Again}
use Rattle.rb_policy.specs.declared.turns.Again.TheVariants.{AtEvent, AtOnce, AfterWait}
use Rattle.rb_policy.specs.Turns.{after_all_calls}

-- when it is served again, if this is what a call came to and no other comes in this turn
abbrev pub ended_by : Came → Option Again
ended_by Something = None
ended_by (Nothing GoOn) = None
ended_by (Nothing AwaitEvent) = Some AtEvent
ended_by (Nothing AwaitTurn) = Some AfterWait
ended_by (Nothing Close) = None

abbrev pub nothing_yet : CallsSoFar
nothing_yet = record { calls = 0; got = 0; ended = None }

-- what came of the calls so far, after one more
abbrev pub after : Came → CallsSoFar → CallsSoFar
after Something drain = record { calls = min (drain.calls + 1) (2 ^ 64 - 1); got = min (drain.got + 1) (2 ^ 64 - 1); ended = None }
after (Nothing next) drain = record drain { calls = min (drain.calls + 1) (2 ^ 64 - 1); ended = ended_by (Nothing next) }

-- whether the turn calls it once more, if it makes this many calls at most, and this many may get something
abbrev pub has_room : ℕ → ℕ → CallsSoFar → Bool
has_room most share drain = nat_lt drain.got share && nat_lt drain.calls most

abbrev pub goes_on : ℕ → ℕ → CallsSoFar → Bool
goes_on most share drain = is_none drain.ended && has_room most share drain

-- when it is served again, if the turn calls it no more
abbrev pub again_after : Option Again → ℕ → ℕ → Again
again_after (Some again) share got = again
again_after None share got = if nat_lt got share then after_all_calls (nat_lt 0 got) else AtOnce

abbrev pub again_of : ℕ → CallsSoFar → Again
again_of share drain = again_after drain.ended share drain.got

-- A call was made, and then these.
pub record IsCalled {S : Type 0} (comes : S → Came → S → Type 0) (came : Came) (more : S → Type 0) (old : S) : Type 0 where
  pub mid : S
  pub first : comes old came mid
  pub rest : more mid

-- Calls came to this, in order; each was made while the turn went on with the socket.
unfoldable pub AreMade : {S : Type 0} → (S → CallsSoFar → Came → S → Type 0) → ℕ → ℕ → List Came → CallsSoFar → S → CallsSoFar → S → Type 0
AreMade comes most share [] drain old last new = (last ≡ drain) × (new ≡ old)
AreMade comes most share (came ∷ more) drain old last new =
    (goes_on most share drain ≡ true)
    × IsCalled (λ a c b. comes a drain c b) came (λ mid. AreMade comes most share more (after came drain) mid last new) old

-- The turn called it so, as long as it could, and then left it. This many calls got something.
-- TURN-7: One of the daemon's own sockets that would block is served again when an event shows it. If it failed, or the turn
-- has made its calls, a later turn serves it though no event shows it.
pub record IsDrained {S : Type 0} (comes : S → CallsSoFar → Came → S → Type 0) (leaves : S → Again → S → Type 0) (most share : ℕ) (old new : S) (got : ℕ) : Type 0 where
  pub calls : List Came
  pub last : CallsSoFar
  pub mid : S
  pub made : AreMade comes most share calls nothing_yet old last mid
  pub over : goes_on most share last ≡ false
  pub left : leaves mid (again_of share last) new
  pub got_is : got ≡ last.got
