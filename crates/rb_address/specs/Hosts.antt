-- Hosts of IPv4 and IPv6.
use Rattle.std.specs.Prelude.{◌≡◌, ℕ, ◌==◌, Bool, false, if◌then◌else◌, List, [], ◌∷◌, ◌++◌, take, drop, replicate, slice_index, bytes_eq}
use Rattle.rb_uaddr.specs.Uaddr.{IsBytes}
use Rattle.rb_address.specs.declared.host.Family.{Family}
use Rattle.rb_address.specs.declared.host.Family.TheVariants.{Inet, Inet6}
use Rattle.rb_address.specs.declared.host.Host.{Host}
use Rattle.rb_address.specs.declared.host.Host.TheVariants.{V4, V6}

-- the bytes of a host, its most significant first
abbrev pub octets_of_host : Host → List ℕ
octets_of_host (V4 octets) = octets
octets_of_host (V6 octets) = octets

-- how many bits it has
abbrev pub bit_count : Host → ℕ
bit_count (V4 octets) = 32
bit_count (V6 octets) = 128

abbrev pub family_of : Host → Family
family_of (V4 octets) = Inet
family_of (V6 octets) = Inet6

abbrev pub is_same_host : Host → Host → Bool
is_same_host (V4 a) (V4 b) = bytes_eq a b
is_same_host (V6 a) (V6 b) = bytes_eq a b
is_same_host (V4 a) (V6 b) = false
is_same_host (V6 a) (V4 b) = false

-- LOOPBACK-1: Of this machine by its address alone are 127.0.0.0/8 and ::1.
unfoldable pub is_loopback : Host → Bool
is_loopback (V4 octets) = slice_index octets 0 == 127
is_loopback (V6 octets) = bytes_eq octets (0 ∷ 0 ∷ 0 ∷ 0 ∷ 0 ∷ 0 ∷ 0 ∷ 0 ∷ 0 ∷ 0 ∷ 0 ∷ 0 ∷ 0 ∷ 0 ∷ 0 ∷ 1 ∷ [])

-- 0.0.0.0 and ::, which stand for every host of their family
unfoldable pub is_any : Host → Bool
is_any (V4 octets) = bytes_eq octets (replicate 4 0)
is_any (V6 octets) = bytes_eq octets (replicate 16 0)

-- ---- IPv4 in IPv6's form (RFC 4291 section 2.5.5.2)

abbrev pub mapped_front : List ℕ
mapped_front = 0 ∷ 0 ∷ 0 ∷ 0 ∷ 0 ∷ 0 ∷ 0 ∷ 0 ∷ 0 ∷ 0 ∷ 255 ∷ 255 ∷ []

unfoldable pub is_mapped : List ℕ → Bool
is_mapped octets = bytes_eq (take 12 octets) mapped_front

-- MAPPED-1: A host ::ffff:a.b.c.d counts as a.b.c.d.
unfoldable pub plain_host : Host → Host
plain_host (V4 octets) = V4 octets
plain_host (V6 octets) = if is_mapped octets then V4 (drop 12 octets) else V6 octets

abbrev pub mapped_host : Host → Host
mapped_host (V4 octets) = V6 (mapped_front ++ octets)
mapped_host (V6 octets) = V6 octets

-- a host as peers have it: none of IPv4 in IPv6's form
abbrev pub IsHost : Host → Type 0
IsHost (V4 octets) = IsBytes 4 octets
IsHost (V6 octets) = IsBytes 16 octets × (is_mapped octets ≡ false)

-- ---- the laws

-- sixteen bytes, or four
abbrev pub IsBytesOf : Host → Type 0
IsBytesOf (V4 octets) = IsBytes 4 octets
IsBytesOf (V6 octets) = IsBytes 16 octets

abbrev pub PlainIsHost : Type 0
PlainIsHost = (h : Host) → IsBytesOf h → IsHost (plain_host h)

abbrev pub PlainStays : Type 0
PlainStays = (h : Host) → IsHost h → plain_host h ≡ h

abbrev pub MappedIsPlain : Type 0
MappedIsPlain = (h : Host) → IsHost h → plain_host (mapped_host h) ≡ h
