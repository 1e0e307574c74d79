-- Datagrams that sockets are handed to send.
use Rattle.std.specs.Prelude.{◌≡◌, ℕ, List, Option, Some, None}
use Rattle.std.specs.Option.{option_map}
use Rattle.rb_address.specs.declared.peer.Peer.{Peer}
use Rattle.rb_address.specs.declared.who.Source.{Source}
use Rattle.rb_policy.specs.declared.ways_back.Way.{Way}
use Rattle.rb_policy.specs.WaysBack.{socket_of}

-- The bytes of a reply, to its caller on the socket for calls of this number; or those of a forwarded call, to its target.
pub data Dispatch : Type 0 where
  Reply : ℕ → Source → List ℕ → Dispatch
  Call : Peer → List ℕ → Dispatch

-- Sockets were handed this datagram, if it is one, and no other.
abbrev pub Hands : {S : Type 0} → (S → Dispatch → S → Type 0) → Option Dispatch → S → S → Type 0
Hands sends None old new = new ≡ old
Hands sends (Some datagram) old new = sends old datagram new

-- the reply to the forwarded call of this number, on the socket on which that came, if it is noted
-- WAYBACK-1
abbrev pub reply_back : List Way → ℕ → Source → List ℕ → Option Dispatch
reply_back ways number to bytes = option_map (λ socket. Dispatch.Reply socket to bytes) (socket_of number ways)
