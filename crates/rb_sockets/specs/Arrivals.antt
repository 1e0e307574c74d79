-- How callers come in on each socket.
use Rattle.std.specs.Prelude.{◌≡◌, ◌≤◌, ◌+◌, ◌%◌, ◌^◌, ◌==◌, ℕ, Bool, true, false, List, length, slice_get, if◌then◌else◌, Option, Some, None, is_none, Result, IfOk, IfSome}
use Rattle.rb_address.specs.declared.peer.Peer.{Peer}
use Rattle.rb_policy.specs.declared.trust.Entrance.{Entrance}
use Rattle.rb_policy.specs.declared.trust.Entrance.TheVariants.{RootSocket, OpenSocket, Tcp, Udp}
use Rattle.rb_arrivals.specs.declared.visitor.Accepted.{Accepted}
use Rattle.rb_arrivals.specs.declared.arrival.Arrival.{Arrival}
use Rattle.rb_arrivals.specs.declared.arrival.Ends.{Ends}
use Rattle.rb_arrivals.specs.declared.asker.Asker.{Asker}
use Rattle.rb_sockets.specs.declared.calls.CallSocket.{CallSocket}
use Rattle.rb_sockets.specs.declared.watched.Watched.{Watched}
use Rattle.rb_address.specs.declared.host.Host.TheVariants.{V4}
use Rattle.rb_policy.specs.Addresses.{every_inet}
use Rattle.rb_policy.specs.LocalFile.{next_try}
use Rattle.rb_sockets.specs.declared.listener.Listener.{Listener}
use Rattle.rb_sockets.specs.declared.listener.Listener.TheVariants as listeners
use Rattle.rb_sockets.specs.declared.local.LocalListener.{LocalListener}
use Rattle.rb_sockets.specs.declared.local.AbstractName.{AbstractName}
use Rattle.rb_arrivals.specs.Arrivals.{visitor_of}
use Rattle.rb_arrivals.specs.declared.visitor.Visitor.{Visitor}
use Rattle.rb_arrivals.specs.declared.visitor.Visitor.TheVariants.{Known}

-- Whoever sent a datagram asked the host to which its socket is bound.
-- ASKED-1
abbrev pub datagram_arrival : CallSocket → Peer → Arrival
datagram_arrival calls peer = record { beliefs = calls.beliefs; entrance = Udp calls.bound peer; asked = calls.bound }

-- It came in as a datagram on this socket, from some peer.
-- TRUST-14
abbrev pub CameOn : CallSocket → Arrival → Type 0
CameOn calls arrival = (peer : Peer) × (arrival ≡ datagram_arrival calls peer)

-- So did whoever asked on the one of this number.
-- TRUST-14
abbrev pub AskedOn : {E : Type 0} → List (Watched CallSocket) → ℕ → Result (Option Asker) E → Type 0
AskedOn all socket received =
    (calls : Watched CallSocket) → slice_get all socket ≡ Some calls
    → IfOk received (λ came. IfSome came (λ asker. CameOn calls.socket asker.arrival))

-- What was received on the socket of this number fits the room, and was asked there.
abbrev pub IsReceived : {E : Type 0} → ℕ → List ℕ → Result (Option Asker) E → Type 0
IsReceived socket room received = IfOk received (λ came. IfSome came (λ asker. (asker.len ≤ length room) × (asker.socket ≡ socket)))

-- ---- who is let in

-- whoever came on the local socket
-- TRUST-1
abbrev pub local_arrival : LocalListener → Arrival
local_arrival local = record { beliefs = local.beliefs; entrance = local.entrance; asked = V4 every_inet }

-- Whoever a listener let in is known by its two ends over TCP, and on the local socket by that alone.
-- TRUST-14
abbrev pub IsLetIn : Listener → Visitor → Type 0
IsLetIn (listeners.Tcp listener beliefs) visitor = (ends : Ends) × (ends.beliefs ≡ beliefs) × (visitor ≡ visitor_of ends)
IsLetIn (listeners.Local local) visitor = visitor ≡ Known (local_arrival local)
IsLetIn listeners.Closed visitor = ⊥

-- So is whoever the one of this number let in.
-- TRUST-14
abbrev pub IsLetInAt : {E : Type 0} → List (Watched Listener) → ℕ → Result (Option Accepted) E → Type 0
IsLetInAt listeners number accepted =
    (listener : Watched Listener) → slice_get listeners number ≡ Some listener
    → IfOk accepted (λ came. IfSome came (λ one. IsLetIn listener.socket one.visitor))

abbrev pub is_root_socket : Entrance → Bool
is_root_socket RootSocket = true
is_root_socket OpenSocket = false
is_root_socket (Tcp peer evidence) = false
is_root_socket (Udp bound peer) = false

-- A look at the file of the local socket changes where its callers come in only if that was root's.
-- TRUST-1
pub record IsLookedAt (old new : LocalListener) : Type 0 where
  pub beliefs : new.beliefs ≡ old.beliefs
  pub stays : is_root_socket old.entrance ≡ false → new ≡ old

-- the moment at which the abstract name is tried again, if it is not held
abbrev pub next_name_try : AbstractName → Option ℕ
next_name_try name = if is_none name.held then Some (next_try name.last_try) else None

-- the number of the listener that comes at a place in a turn, of so many
-- ACCEPT-4
abbrev pub nth_of : ℕ → ℕ → ℕ → ℕ
nth_of count turn place = if count == 0 then 0 else (turn % count + place) % 2 ^ 64 % count
