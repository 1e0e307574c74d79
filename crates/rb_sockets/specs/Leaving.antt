-- When one of the daemon's own sockets is served again.
use Rattle.std.specs.Prelude.{◌≡◌, ℕ, false, List, slice_get, Option, Some}
use Rattle.rb_address.specs.declared.host.Family.{Family}
use Rattle.rb_address.specs.declared.host.Family.TheVariants.{Inet, Inet6}
use Rattle.rb_policy.specs.declared.turns.Again.{Again}
use Rattle.rb_sockets.specs.declared.calls.ForwardSocket.{ForwardSocket}
use Rattle.rb_sockets.specs.declared.calls.ForwardSockets.{ForwardSockets}
use Rattle.rb_sockets.specs.declared.watched.Watched.{Watched}

pub record IsServedNext {S : Type 0} (again : Again) (socket : Watched S) : Type 0 where
  pub again_is : socket.again ≡ again
  pub shown : socket.is_shown ≡ false

-- The one of this number is served again then, if there is one.
-- TURN-7
abbrev pub IsServedNextAt : {S : Type 0} → ℕ → Again → List (Watched S) → Type 0
IsServedNextAt {S} number again sockets = (socket : Watched S) → slice_get sockets number ≡ Some socket → IsServedNext again socket

abbrev pub IsServedNextIf : Again → Option (Watched ForwardSocket) → Type 0
IsServedNextIf again forwards = (socket : Watched ForwardSocket) → forwards ≡ Some socket → IsServedNext again socket

abbrev pub IsServedNextOf : Family → Again → ForwardSockets → Type 0
IsServedNextOf Inet again forwards = IsServedNextIf again forwards.inet
IsServedNextOf Inet6 again forwards = IsServedNextIf again forwards.inet6
