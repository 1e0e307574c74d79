-- Who may ask: the networks that are served.
use Rattle.std.specs.Prelude.{◌≡◌, ◌==◌, Bool, true, false, ◌||◌, if◌then◌else◌, List, [], ◌∷◌, length, replicate, Option, Some, None}
use Rattle.std.specs.List.{list_any}
use Rattle.rb_address.specs.declared.host.Host.{Host}
use Rattle.rb_address.specs.declared.host.Host.TheVariants.{V4, V6}
use Rattle.rb_address.specs.declared.network.Network.{Network}
use Rattle.rb_address.specs.declared.peer.Peer.{Peer}
use Rattle.rb_address.specs.Hosts.{is_loopback}
use Rattle.rb_address.specs.Networks.{has}

abbrev pub is_in_one : Host → List Network → Bool
is_in_one host networks = list_any (λ network. has network host) networks

-- everybody, if no networks are given; else hosts of this machine, and those in one of them
-- FROM-1: If networks are given, a host may ask that is in one of them or of the loopback,
-- 127.0.0.0/8 or ::1; if none are, every host may. What comes from any other host is from nobody.
abbrev pub may_ask : List Network → Host → Bool
may_ask networks host = length networks == 0 || is_loopback host || is_in_one host networks

-- FROM-1
abbrev pub asker : List Network → Option Peer → Option Peer
asker networks None = None
asker networks (Some peer) = if may_ask networks peer.host then Some peer else None

-- ---- what follows

pub record WhoMayAsk : Type 0 where
  pub everybody : (host : Host) → may_ask [] host ≡ true
  pub this_machine : (networks : List Network) (host : Host) → is_loopback host ≡ true → may_ask networks host ≡ true
  pub no_others : (one : Network) (more : List Network) (host : Host) → is_loopback host ≡ false → is_in_one host (one ∷ more) ≡ false → may_ask (one ∷ more) host ≡ false

-- 192.0.2.0/24 alone
abbrev pub of_192_0_2 : List Network
of_192_0_2 = record { host = V4 (192 ∷ 0 ∷ 2 ∷ 0 ∷ []); length = 24 } ∷ []

pub record AskersOfOneNetwork : Type 0 where
  pub last : may_ask of_192_0_2 (V4 (192 ∷ 0 ∷ 2 ∷ 255 ∷ [])) ≡ true
  pub next : may_ask of_192_0_2 (V4 (192 ∷ 0 ∷ 3 ∷ 0 ∷ [])) ≡ false
  pub this_machine : may_ask of_192_0_2 (V4 (127 ∷ 0 ∷ 0 ∷ 1 ∷ [])) ≡ true
  pub of_ipv6 : may_ask of_192_0_2 (V6 (32 ∷ 1 ∷ 13 ∷ 184 ∷ replicate 12 0)) ≡ false
