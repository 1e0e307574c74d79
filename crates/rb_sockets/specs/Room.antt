-- Where the sockets of an address that has come are put: in the place of ones that are closed, or behind all.
use Rattle.std.specs.Prelude.{◌≡◌, ℕ, nat_lt, List, [], ◌∷◌, ◌++◌, length, slice_set, Bool, true, false, not, ◌&&◌, if◌then◌else◌, position, Option, Some, None, is_none}
use Rattle.rb_address.specs.declared.host.Host.{Host}
use Rattle.rb_policy.specs.declared.trust.Beliefs.{Beliefs}
use Rattle.rb_policy.specs.Addresses.{has_host}
use Rattle.rb_sockets.specs.declared.calls.CallSocket.{CallSocket}
use Rattle.rb_sockets.specs.declared.calls.CallSockets.{CallSockets}
use Rattle.rb_sockets.specs.declared.follow.Follower.{Follower}
use Rattle.rb_sockets.specs.declared.listener.Listener.{Listener}
use Rattle.rb_sockets.specs.declared.listener.Listener.TheVariants.{Tcp, Local, Closed}
use Rattle.rb_sockets.specs.declared.sockets.Sockets.{Sockets}
use Rattle.rb_sockets.specs.declared.watched.Watched.{Watched}
use Rattle.rb_sockets.specs.Watching.{unserved}

-- the place that was found, or the next one
abbrev pub or_next : Option ℕ → ℕ → ℕ
or_next None next = next
or_next (Some place) next = place

abbrev pub is_closed : Listener → Bool
is_closed (Tcp listener beliefs) = false
is_closed (Local local) = false
is_closed Closed = true

abbrev pub closed_door : List (Watched Listener) → Option ℕ
closed_door listeners = position (λ watched. is_closed watched.socket) listeners

abbrev pub free_door : List (Watched Listener) → ℕ
free_door listeners = or_next (closed_door listeners) (length listeners)

-- whether its host is listened on no more, and is none of these
abbrev pub is_free_beside : List Host → CallSocket → Bool
is_free_beside others calls = is_none calls.socket && not (has_host calls.bound others)

abbrev pub closed_place : List Host → CallSockets → Option ℕ
closed_place others calls = position (λ watched. is_free_beside others watched.socket) calls.all.items

abbrev pub free_place : List Host → CallSockets → ℕ
free_place others calls = or_next (closed_place others calls) (length calls.all.items)

-- so that no call which came on it and was forwarded waits for its reply
abbrev pub free_place_of : Option Follower → CallSockets → ℕ
free_place_of None calls = length calls.all.items
free_place_of (Some follower) calls = free_place follower.left calls

abbrev pub free_place_in : Sockets → ℕ
free_place_in sockets = free_place_of sockets.follower sockets.calls

-- ---- what is put there

abbrev pub put_in : {X : Type 0} → ℕ → X → List X → List X
put_in place one all = if nat_lt place (length all) then slice_set all place one else all ++ one ∷ []

pub record IsBoundAt (host : Host) (beliefs : Beliefs) (calls : CallSocket) : Type 0 where
  pub bound : calls.bound ≡ host
  pub beliefs_are : calls.beliefs ≡ beliefs
  pub open_is : is_none calls.socket ≡ false

-- what is believed of those who come there over TCP
abbrev pub beliefs_of : Listener → Option Beliefs
beliefs_of (Tcp listener beliefs) = Some beliefs
beliefs_of (Local local) = None
beliefs_of Closed = None

-- Datagrams to a host come in where no socket was open, or behind all.
-- FOLLOW-1
abbrev pub TakesCallsAt : Host → Sockets → Sockets → Type 0
TakesCallsAt host old new =
    (calls : CallSocket) × IsBoundAt host old.beliefs calls
    × (new.calls.all.items ≡ put_in (free_place_in old) (unserved calls) old.calls.all.items)

-- So do connections.
abbrev pub TakesConnections : Sockets → Sockets → Type 0
TakesConnections old new =
    (listener : Listener) × (beliefs_of listener ≡ Some old.beliefs)
    × (new.listeners.items ≡ put_in (free_door old.listeners.items) (unserved listener) old.listeners.items)
