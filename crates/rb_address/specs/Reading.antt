-- Texts of peers, read, and what is so read.
use Rattle.std.specs.Prelude.{◌≡◌, ◌↔◌, ℕ, ◌+◌, ◌==◌, nat_lt, not, Bool, ◌&&◌, if◌then◌else◌, List, [], ◌∷◌, length, take, drop, slice_index, Option, Some, None, bytes_eq}
use Rattle.std.specs.List.{position, list_all}
use Rattle.std.specs.Option.{option_map, option_or}
use Rattle.std.specs.Char.{digit_value}
use Rattle.std.specs.Str.Parse.{digits_value}
use Rattle.std.specs.Borrow.{Bor}
use Rattle.rb_uaddr.specs.Uaddr.{ipv6_host, ipv6_host_text}
use Rattle.rb_address.specs.declared.host.Host.TheVariants.{V4, V6}
use Rattle.rb_address.specs.declared.peer.Peer.{Peer}
use Rattle.rb_address.specs.Hosts.{is_mapped}
use Rattle.rb_address.specs.Peers.{IsPeer, peer_text}

infixl 10 ◌>>=◌
abbrev pub ◌>>=◌ : {A B : Type 0} → Option A → (A → Option B) → Option B
(Some x) >>= f = f x
None >>= f = None

-- what stands before the first such byte, and what stands after it
unfoldable pub cut : ℕ → List ℕ → Option (List ℕ × List ℕ)
cut at text = option_map (λ i. (take i text, drop (i + 1) text)) (position (λ b. b == at) text)

abbrev pub is_digit : ℕ → Bool
is_digit c = nat_lt (digit_value c) 10

-- a number below the limit, in decimal digits
-- OPTION-1
unfoldable pub number_below : ℕ → List ℕ → Option ℕ
number_below limit text =
    if not (length text == 0) && list_all is_digit text && nat_lt (digits_value 10 text) limit
    then Some (digits_value 10 text) else None

-- the same, without leading zeros
unfoldable pub plain_number : ℕ → List ℕ → Option ℕ
plain_number limit text = if nat_lt 1 (length text) && slice_index text 0 == 48 then None else number_below limit text

-- four numbers below 256 with dots between them
unfoldable pub ipv4_host : List ℕ → Option (List ℕ)
ipv4_host text = do
  first ← cut 46 text
  second ← cut 46 first.1
  third ← cut 46 second.1
  a ← plain_number 256 first.0
  b ← plain_number 256 second.0
  c ← plain_number 256 third.0
  d ← plain_number 256 third.1
  Some (a ∷ b ∷ c ∷ d ∷ [])

-- what stands after this first byte
abbrev pub behind : ℕ → List ℕ → Option (List ℕ)
behind at [] = None
behind at (first ∷ rest) = if first == at then Some rest else None

-- an IPv6 host in the one form that is printed, but none of IPv4 in IPv6's form
unfoldable pub printed_ipv6 : List ℕ → Option (List ℕ)
printed_ipv6 text = do
  octets ← ipv6_host text
  if bytes_eq (ipv6_host_text octets) text && not (is_mapped octets) then Some octets else None

-- a host of IPv4, a colon and a port
unfoldable pub ipv4_peer : List ℕ → Option Peer
ipv4_peer text = do
  parts ← cut 58 text
  octets ← ipv4_host parts.0
  port ← plain_number 65536 parts.1
  Some (record { host = V4 octets; port = port })

-- a host of IPv6 in brackets, a colon and a port
unfoldable pub ipv6_peer : List ℕ → Option Peer
ipv6_peer text = do
  inside ← behind 91 text
  parts ← cut 93 inside
  digits ← behind 58 parts.1
  octets ← printed_ipv6 parts.0
  port ← plain_number 65536 digits
  Some (record { host = V6 octets; port = port })

unfoldable pub peer : List ℕ → Option Peer
peer text = option_or (ipv4_peer text) (ipv6_peer text)

-- ---- what is read

-- the text is what is printed of this peer
-- PEER-1
pub record SpellsPeer (p : Peer) (text : List ℕ) : Type 0 where
  pub is_peer : IsPeer p
  pub text_is : text ≡ peer_text p

-- A text is read as this peer exactly if it is what is printed of it.
abbrev pub PeersAreSpelled : Type 0
PeersAreSpelled = (text : List ℕ) (p : Peer) → (peer text ≡ Some p) ↔ SpellsPeer p text

-- ---- as the code has them

abbrev pub cut_of : Option (Bor (List ℕ) × Bor (List ℕ)) → Option (List ℕ × List ℕ)
cut_of parts = option_map (λ p. (p.0.now, p.1.now)) parts

abbrev pub behind_of : Option (Bor (List ℕ)) → Option (List ℕ)
behind_of rest = option_map (λ r. r.now) rest
